-- Claims on dense strides, index order, and the offset of an index vector.
-- RULES, "Beside it: dense strides", "Beside it: index order", "Beside it: offset of an index vector".
use Rattle.std.specs.Prelude.{false, List, [], ◌∷◌, reverse, ◌≢◌, ◌⊎◌, ◌↔◌, ◌≡◌, ℕ, suc, ◌*◌, ◌<◌, ◌≤◌, ℤ, pos, nat_abs, ◌+ℤ◌, length, take, slice_index_or, slice_index}
use Rattle.std.specs.Int.{w64}
use Rattle.std.specs.Prelude.{FitsSigned}
use Rattle.integer.specs.Multiple.{◌·◌}
use Rattle.integer.specs.Range.{most_signed}
use Rattle.specification.specs.Axis.{axes_of_lists, product, offset_sum, sum_at, is_empty}
use Rattle.specification.specs.Outcome.{done, refused, ◌>>=◌}
use Rattle.specification.specs.Layout.{LayoutModel, rank, IsAccepted, HandedRefused}
use Rattle.specification.specs.Views.{axis_at}
use Rattle.specification.specs.Beside.{col_major, row_major, order_among, index_order, order_after, indexed_offset}

-- ---- dense strides

-- the refusals: 1, then 3 if the positions do not fit 63 bits; a shape with a zero extent has no positions, so it is never refused 3
pub data DenseRefused (extents : List ℕ) : ℕ → List ℕ → Type 0 where
  too_many : 16 < length extents → DenseRefused extents 1 []
  too_large : length extents ≤ 16 → most_signed < product extents → DenseRefused extents 3 []

-- before i, every product of extents from the first on fits 63 bits, and every extent does
abbrev pub FitsBefore : List ℕ → ℕ → Type 0
FitsBefore extents i = (j : ℕ) → j < i → (product (take (suc j) extents) ≤ most_signed) × (slice_index extents j ≤ most_signed)

-- the strides by column: each the product of the extents before it; if that or an extent does not fit 63 bits the stride is 2^63 - 1,
-- and the next goes on from there
pub record RunningProducts (extents : List ℕ) (strides : List ℤ) : Type 0 where
  pub as_long : length strides ≡ length extents
  pub products : (i : ℕ) → i < length extents → FitsBefore extents i → slice_index_or strides i (pos 0) ≡ pos (product (take i extents))
  pub goes_on : (i : ℕ) → suc i < length extents → nat_abs (slice_index_or strides i (pos 0)) * slice_index extents i ≤ most_signed → slice_index extents i ≤ most_signed
      → slice_index_or strides (suc i) (pos 0) ≡ slice_index extents i · (slice_index_or strides i (pos 0))
  pub too_far : (i : ℕ) → suc i < length extents → (most_signed < nat_abs (slice_index_or strides i (pos 0)) * slice_index extents i) ⊎ (most_signed < slice_index extents i)
      → slice_index_or strides (suc i) (pos 0) ≡ pos most_signed

pub record DenseClaims : Type 0 where
  pub column_refuses : (extents : List ℕ) (number : ℕ) (values : List ℕ) → (col_major extents ≡ refused number values) ↔ DenseRefused extents number values
  pub row_refuses : (extents : List ℕ) (number : ℕ) (values : List ℕ) → (row_major extents ≡ refused number values) ↔ DenseRefused extents number values
  pub by_column : (extents : List ℕ) (strides : List ℤ) → col_major extents ≡ done strides → RunningProducts extents strides
  -- so position k stands at offset k
  pub at_offset : (extents : List ℕ) (strides : List ℤ) (k : ℕ) → col_major extents ≡ done strides → k < product extents → sum_at (axes_of_lists extents strides) k ≡ pos k
  -- by row: the column form of the reversed shape, reversed
  pub by_row : (extents : List ℕ) → row_major extents ≡ (col_major (reverse extents) >>= λ strides. done (reverse strides))

-- ---- index order

-- the refusals: 1, then 2
pub data OrderRefused (strides : List ℤ) (room : ℕ) : ℕ → List ℕ → Type 0 where
  too_many : 16 < length strides → OrderRefused strides room 1 []
  wrong_length : length strides ≤ 16 → length strides ≢ room → OrderRefused strides room 2 []

-- the number of a stride among the strides: 1 for stride 0, and for the others it rises exactly with the absolute value
pub record OrderClaims : Type 0 where
  pub zero_is_one : (strides : List ℤ) → order_among strides (pos 0) ≡ 1
  pub rises : (strides : List ℤ) (i j : ℕ) → i < length strides → j < length strides → slice_index_or strides i (pos 0) ≢ pos 0 → slice_index_or strides j (pos 0) ≢ pos 0
      → (order_among strides (slice_index_or strides i (pos 0)) < order_among strides (slice_index_or strides j (pos 0))) ↔ (nat_abs (slice_index_or strides i (pos 0)) < nat_abs (slice_index_or strides j (pos 0)))
  pub from_one : (strides : List ℤ) (i : ℕ) → i < length strides → (1 ≤ order_among strides (slice_index_or strides i (pos 0))) × (order_among strides (slice_index_or strides i (pos 0)) ≤ length strides)
  -- the least nonzero absolute value has number 1
  pub least_is_one : (strides : List ℤ) (i : ℕ) → i < length strides
      → ((j : ℕ) → j < length strides → slice_index_or strides j (pos 0) ≢ pos 0 → nat_abs (slice_index_or strides i (pos 0)) ≤ nat_abs (slice_index_or strides j (pos 0))) → order_among strides (slice_index_or strides i (pos 0)) ≡ 1
  -- the output is the numbers in the order of the strides
  pub output : (strides : List ℤ) (before : List ℕ) → length strides ≤ 16 → length strides ≡ length before
      → (i : ℕ) → i < length strides → slice_index (order_after (index_order strides (length before)) before) i ≡ order_among strides (slice_index_or strides i (pos 0))
  pub as_long : (strides : List ℤ) (before : List ℕ) → length (order_after (index_order strides (length before)) before) ≡ length before
  -- a call that is refused leaves the output
  pub refuses : (strides : List ℤ) (room number : ℕ) (values : List ℕ) → (index_order strides room ≡ refused number values) ↔ OrderRefused strides room number values
  pub left : (strides : List ℤ) (before : List ℕ) (number : ℕ) (values : List ℕ) → index_order strides (length before) ≡ refused number values
      → order_after (index_order strides (length before)) before ≡ before

-- ---- indexed offset

-- the running sum up to axis i: offset + sum of index × stride over the axes before it
abbrev pub sum_before : LayoutModel → List ℕ → ℕ → ℤ
sum_before l index i = l.offset +ℤ offset_sum (take i l.axes) index

-- index i is below 2^63, and its product and the running sum past it are in 64 bits signed
pub record IsInRange (l : LayoutModel) (index : List ℕ) (i : ℕ) : Type 0 where
  pub index_fits : slice_index index i ≤ most_signed
  pub product_fits : FitsSigned w64 (slice_index index i · (axis_at l.axes i).stride)
  pub sum_fits : FitsSigned w64 (sum_before l index (suc i))

-- index i is below its extent and in range
pub record GoodIndex (l : LayoutModel) (index : List ℕ) (i : ℕ) : Type 0 where
  pub below : slice_index index i < (axis_at l.axes i).extent
  pub in_range : IsInRange l index i

-- the refusals: those of any call on a layout and 4 before the indices are looked at, then 7 or 3 at the first index that is not good
pub data OffsetRefused (l : LayoutModel) (index : List ℕ) : ℕ → List ℕ → Type 0 where
  handed_in : {number : ℕ} {values : List ℕ} → HandedRefused l (length index) number values → OffsetRefused l index number values
  wrong_length : IsAccepted l → length index ≤ 16 → length index ≢ rank l → OffsetRefused l index 4 (length index ∷ rank l ∷ [])
  not_below : IsAccepted l → length index ≡ rank l → (i : ℕ) → i < rank l → ((j : ℕ) → j < i → GoodIndex l index j) → (axis_at l.axes i).extent ≤ slice_index index i
      → OffsetRefused l index 7 (i ∷ [])
  out_of_range : IsAccepted l → length index ≡ rank l → (i : ℕ) → i < rank l → ((j : ℕ) → j < i → GoodIndex l index j) → slice_index index i < (axis_at l.axes i).extent
      → ¬ (IsInRange l index i) → OffsetRefused l index 3 []

pub record OffsetClaims : Type 0 where
  pub refuses : (l : LayoutModel) (index : List ℕ) (number : ℕ) (values : List ℕ) → (indexed_offset l index ≡ refused number values) ↔ OffsetRefused l index number values
  -- offset + sum of index × stride
  pub offset_is : (l : LayoutModel) (index : List ℕ) → IsAccepted l → length index ≡ rank l → ((i : ℕ) → i < rank l → GoodIndex l index i)
      → indexed_offset l index ≡ done (l.offset +ℤ offset_sum l.axes index)
  -- in a layout that is not empty no product and no running sum leaves 64 bits: an index below its extent, after others below theirs, need only be below 2^63
  pub in_full_layout : (l : LayoutModel) (index : List ℕ) (i : ℕ) → IsAccepted l → is_empty l.axes ≡ false → length index ≡ rank l → i < rank l
      → ((j : ℕ) → j ≤ i → slice_index index j < (axis_at l.axes j).extent) → slice_index index i ≤ most_signed → IsInRange l index i
