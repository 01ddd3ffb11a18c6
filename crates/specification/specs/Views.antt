-- Views: permute, diagonal_view, broadcast. Each answers with the layout after it, or the refusal and the old layout.
-- RULES, "Permute", "Diagonal view", "Broadcast".
use Rattle.std.specs.List.{list_any, range_with_len}
use Rattle.std.specs.Prelude.{not, ◌||◌, List, [], ◌∷◌, ◌++◌, map, ℕ, suc, max, min, nat_lt, nat_le, ◌==◌, ℤ, pos, ◌+ℤ◌, length, slice_index_or, if◌then◌else◌, nat_eq, filter}
use Rattle.integer.specs.Range.{fits}
use Rattle.specification.specs.Tests.{is_yes}
use Rattle.specification.specs.Axis.{Axis}
use Rattle.specification.specs.Outcome.{Check, done, refused, pass, refuse_if, ◌>>◌}
use Rattle.specification.specs.Layout.{LayoutModel, rank, handed}
use Rattle.specification.specs.CheckIn.{bounds}
use Rattle.specification.specs.TiedDecided.{tied?}

-- an answer, and the layout after it
pub record After : Type 0 where
  pub answer : Check
  pub layout : LayoutModel

-- the new layout, or the refusal and the old one
unfoldable pub unless_refused : LayoutModel → Check → LayoutModel → After
unless_refused old (done u) new = record { answer = pass; layout = new }
unless_refused old (refused number values) new = record { answer = refused number values; layout = old }

-- the layout with other axes: buffer length and offset stay
abbrev pub with_axes : LayoutModel → List Axis → LayoutModel
with_axes l axes = record { buffer = l.buffer; offset = l.offset; axes = axes }

-- axis number i, or an axis of zeros past the rank
abbrev pub axis_at : List Axis → ℕ → Axis
axis_at axes i = slice_index_or axes i (record { extent = 0; stride = pos 0 })

-- ---- permute

-- 5 with the first entry that is outside the rank or the same as one before it; `before` holds the entries passed
unfoldable pub order_fault : ℕ → List ℕ → List ℕ → Check
order_fault rank before [] = pass
order_fault rank before (a ∷ rest) =
    refuse_if (nat_le rank a) 5 (a ∷ rank ∷ [])
    >> refuse_if (list_any (nat_eq a) before) 5 (a ∷ rank ∷ [])
    >> order_fault rank (before ++ (a ∷ [])) rest

-- refusals 1, 3, 4, 5; then the axes in the order of the list
unfoldable pub permute : LayoutModel → List ℕ → After
permute l order = unless_refused l
    (handed l (length order)
    >> refuse_if (not (length order == rank l)) 4 (length order ∷ rank l ∷ [])
    >> order_fault (rank l) [] order)
    (with_axes l (map (axis_at l.axes) order))

-- ---- diagonal_view

-- flat numbers read as pairs; an odd last number is no pair and is passed over
unfoldable pub pairs_of : List ℕ → List (ℕ × ℕ)
pairs_of (a ∷ b ∷ rest) = (a, b) ∷ pairs_of rest
pairs_of (a ∷ []) = []
pairs_of [] = []

-- the first bad pair: 5 with its larger axis if that is outside the rank, then 5 with the axis that it names twice
unfoldable pub pair_fault : ℕ → List (ℕ × ℕ) → Check
pair_fault rank [] = pass
pair_fault rank (p ∷ rest) =
    refuse_if (nat_le rank (max p.0 p.1)) 5 (max p.0 p.1 ∷ rank ∷ [])
    >> refuse_if (p.0 == p.1) 5 (p.0 ∷ rank ∷ [])
    >> pair_fault rank rest

-- the class of an axis: the axes tied to it, ascending
unfoldable pub class_of : List (ℕ × ℕ) → ℕ → ℕ → List ℕ
class_of pairs rank a = filter (λ b. is_yes (tied? pairs a b)) (range_with_len 0 rank)

-- the axes that are kept: the lowest of each class
unfoldable pub kept : List (ℕ × ℕ) → ℕ → List ℕ
kept pairs rank = filter (λ a. not (list_any (λ b. nat_lt b a) (class_of pairs rank a))) (range_with_len 0 rank)

-- the least extent in the class
unfoldable pub least_extent : List Axis → ℕ
least_extent [] = 0
least_extent (a ∷ []) = a.extent
least_extent (a ∷ b ∷ rest) = min a.extent (least_extent (b ∷ rest))

-- the strides added in the order of the list
unfoldable pub stride_sum : ℤ → List Axis → ℤ
stride_sum sum [] = sum
stride_sum sum (a ∷ rest) = stride_sum (sum +ℤ a.stride) rest

-- 3 if a partial sum of them does not fit 64 bits signed, also if the whole sum would
unfoldable pub stride_fault : ℤ → List Axis → Check
stride_fault sum [] = pass
stride_fault sum (a ∷ rest) = refuse_if (not (fits (sum +ℤ a.stride))) 3 [] >> stride_fault (sum +ℤ a.stride) rest

-- the axes of the class of a, ascending
abbrev pub members : LayoutModel → List (ℕ × ℕ) → ℕ → List Axis
members l pairs a = map (axis_at l.axes) (class_of pairs (rank l) a)

-- the one axis of the class of a: least extent, sum of strides
unfoldable pub fused : LayoutModel → List (ℕ × ℕ) → ℕ → Axis
fused l pairs a = record { extent = least_extent (members l pairs a); stride = stride_sum (pos 0) (members l pairs a) }

-- the new place of a class that stands at axis a: as many kept axes are below it
unfoldable pub place_of : List (ℕ × ℕ) → ℕ → ℕ → ℕ
place_of pairs rank a = length (filter (λ b. nat_lt b a) (kept pairs rank))

-- one axis for each class, in the order of the axes that the classes stand at
unfoldable pub diagonal_axes : LayoutModel → List (ℕ × ℕ) → List Axis
diagonal_axes l pairs = map (fused l pairs) (kept pairs (rank l))

-- 3 if a partial sum of one of these classes does not fit
unfoldable pub sum_faults : LayoutModel → List (ℕ × ℕ) → List ℕ → Check
sum_faults l pairs [] = pass
sum_faults l pairs (a ∷ rest) = stride_fault (pos 0) (members l pairs a) >> sum_faults l pairs rest

-- refusals 1, 3, then the pairs, then the sums of strides, then check-in again with the same buffer length
unfoldable pub diagonal_view : LayoutModel → List (ℕ × ℕ) → After
diagonal_view l pairs = unless_refused l
    (handed l 0
    >> pair_fault (rank l) pairs
    >> sum_faults l pairs (kept pairs (rank l))
    >> bounds (with_axes l (diagonal_axes l pairs)))
    (with_axes l (diagonal_axes l pairs))

-- ---- broadcast

-- 6 with the first axis whose extent is neither its target nor 1
unfoldable pub target_fault : ℕ → List Axis → List ℕ → Check
target_fault i [] targets = pass
target_fault i (a ∷ rest) [] = pass
target_fault i (a ∷ rest) (t ∷ targets) =
    refuse_if (not (a.extent == t || a.extent == 1)) 6 (i ∷ [])
    >> target_fault (suc i) rest targets

-- an axis that has its target already stays; another gets the target, with stride 0
unfoldable pub spread : List Axis → List ℕ → List Axis
spread [] targets = []
spread (a ∷ rest) [] = []
spread (a ∷ rest) (t ∷ targets) = (if a.extent == t then a else record { extent = t; stride = pos 0 }) ∷ spread rest targets

-- refusals 1, 3, 4, 6; the bounds are not checked again
unfoldable pub broadcast : LayoutModel → List ℕ → After
broadcast l targets = unless_refused l
    (handed l (length targets)
    >> refuse_if (not (length targets == rank l)) 4 (rank l ∷ length targets ∷ [])
    >> target_fault 0 l.axes targets)
    (with_axes l (spread l.axes targets))
