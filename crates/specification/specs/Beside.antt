-- Beside layouts and their views: dense strides, index order, and the offset of an index vector.
-- RULES, "Beside it: dense strides", "Beside it: index order", "Beside it: offset of an index vector".
use Rattle.std.specs.List.{list_any}
use Rattle.std.specs.Prelude.{Bool, not, ◌&&◌, ◌||◌, List, [], ◌∷◌, map, reverse, ℕ, suc, ◌+◌, ◌*◌, ◌==◌, nat_lt, nat_le, ℤ, pos, nat_abs, ◌+ℤ◌, length, if◌then◌else◌, filter}
use Rattle.integer.specs.Multiple.{◌·◌}
use Rattle.std.specs.Ordering.{int_eq}
use Rattle.integer.specs.Range.{fits, most_signed}
use Rattle.specification.specs.Axis.{Axis}
use Rattle.specification.specs.Outcome.{Outcome, done, refused, refuse_if, ◌>>◌, ◌>>=◌}
use Rattle.specification.specs.Layout.{LayoutModel, rank, handed, is_too_long}

-- ---- dense strides

-- the step times the extent, if that and the extent are both below 2^63; else 3, but in an empty shape 2^63 - 1
unfoldable pub next_step : Bool → ℕ → ℕ → Outcome ℕ
next_step empty step extent =
    if nat_le (step * extent) most_signed && nat_le extent most_signed then done (step * extent)
    else (if empty then done most_signed else refused 3 [])

-- the stride of each axis in turn: the step that the extents before it come to
unfoldable pub running : Bool → ℕ → List ℕ → Outcome (List ℤ)
running empty step [] = done []
running empty step (n ∷ rest) = do
  next ← next_step empty step n
  strides ← running empty next rest
  done (pos step ∷ strides)

-- some extent is 0: the shape is empty
abbrev pub zero_among : List ℕ → Bool
zero_among = list_any (λ n. n == 0)

-- by column: the first axis is the densest
unfoldable pub col_major : List ℕ → Outcome (List ℤ)
col_major extents = refuse_if (is_too_long extents) 1 [] >> running (zero_among extents) 1 extents

-- by row: the last axis is the densest
unfoldable pub row_major : List ℕ → Outcome (List ℤ)
row_major extents = do
  refuse_if (is_too_long extents) 1 []
  strides ← running (zero_among extents) 1 (reverse extents)
  done (reverse strides)

-- ---- index order

-- the number of stride s: 1 if it is 0, else one more than there are nonzero strides with a smaller absolute value
unfoldable pub order_among : List ℤ → ℤ → ℕ
order_among strides s =
    if int_eq s (pos 0) then 1
    else 1 + length (filter (λ t. not (int_eq t (pos 0)) && nat_lt (nat_abs t) (nat_abs s)) strides)

-- refusals 1 and 2, then the number of each stride; `room` is the length of the output
unfoldable pub index_order : List ℤ → ℕ → Outcome (List ℕ)
index_order strides room =
    refuse_if (is_too_long strides) 1 []
    >> refuse_if (not (length strides == room)) 2 []
    >> done (map (order_among strides) strides)

-- the output after the call: the numbers, or after a refusal what it held
abbrev pub order_after : Outcome (List ℕ) → List ℕ → List ℕ
order_after (done order) before = order
order_after (refused number values) before = before

-- ---- indexed offset

-- axis by axis: 7 for an index that is not below its extent; then 3 for an index of 2^63 or more,
-- or if the product or the sum with it does not fit 64 bits signed
unfoldable pub sum_indexed : ℕ → ℤ → List Axis → List ℕ → Outcome ℤ
sum_indexed i sum [] index = done sum
sum_indexed i sum (a ∷ rest) [] = done sum
sum_indexed i sum (a ∷ rest) (x ∷ index) =
    refuse_if (nat_le a.extent x) 7 (i ∷ [])
    >> refuse_if (nat_lt most_signed x || not (fits (x · a.stride)) || not (fits (sum +ℤ x · a.stride))) 3 []
    >> sum_indexed (suc i) (sum +ℤ x · a.stride) rest index

-- refusals 1, 3, 4, then the sum, which starts at the layout's offset
unfoldable pub indexed_offset : LayoutModel → List ℕ → Outcome ℤ
indexed_offset l index =
    handed l (length index)
    >> refuse_if (not (length index == rank l)) 4 (length index ∷ rank l ∷ [])
    >> sum_indexed 0 l.offset l.axes index
