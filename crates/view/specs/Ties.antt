-- Tied axes as the code keeps them (RULES, "Diagonal view"): for each axis its root, which is the lowest axis of its class; a mask of the roots; one axis for each root.
use Rattle.std.specs.List.{range_with_len}
use Rattle.std.specs.Prelude.{Bool, List, [], ◌∷◌, map, ◌≡◌, ℕ, zero, suc, ◌+◌, ◌*◌, ◌^◌, ◌≤◌, ◌<◌, max, min, ◌==◌, pos, length, if◌then◌else◌, slice_index, filter}
use Rattle.specification.specs.Axis.{Axis}
use Rattle.specification.specs.CheckIn.{bounds}
use Rattle.specification.specs.Layout.{LayoutModel, rank}
use Rattle.specification.specs.Outcome.{Check, pass, ◌>>◌}
use Rattle.specification.specs.Views.{After, unless_refused, with_axes, axis_at, least_extent, stride_sum, stride_fault}
use Rattle.view.specs.declared.diagonal.AxisPair.{AxisPair}

-- a pair of axes by its two numbers
abbrev pub pair_of : AxisPair → ℕ × ℕ
pair_of pair = (pair.0, pair.1)

-- two numbers in a row as a pair of axes
abbrev pub two_of : List ℕ → ℕ × ℕ
two_of two = (slice_index two 0, slice_index two 1)

-- the pairs that a list of structs holds
abbrev pub pairs_in : List AxisPair → List (ℕ × ℕ)
pairs_in pairs = map pair_of pairs

-- ---- roots

-- the root of axis a
abbrev pub root_at : List ℕ → ℕ → ℕ
root_at roots a = slice_index roots a

-- if no pair is tied each of the 16 axes is its own root
abbrev pub own_roots : List ℕ
own_roots = range_with_len 0 16

-- the root `to` in the place of the root `from`
abbrev pub renamed : ℕ → ℕ → ℕ → ℕ
renamed from to root = if root == from then to else root

-- the roots once a pair is tied: both of its classes get the lower of their roots
abbrev pub joined : List ℕ → ℕ × ℕ → List ℕ
joined roots pair = map (renamed (max (root_at roots pair.0) (root_at roots pair.1)) (min (root_at roots pair.0) (root_at roots pair.1))) roots

-- the roots once pairs are tied, one after another
abbrev pub joined_all : List ℕ → List (ℕ × ℕ) → List ℕ
joined_all roots [] = roots
joined_all roots (pair ∷ rest) = joined_all (joined roots pair) rest

-- below n no root is above its axis, and each root is its own
pub record IsRooted (n : ℕ) (roots : List ℕ) : Type 0 where
  pub low : (a : ℕ) → a < n → root_at roots a ≤ a
  pub own : (a : ℕ) → a < n → root_at roots (root_at roots a) ≡ root_at roots a

-- ---- the mask

-- whether axis a is a root: a class stands there
abbrev pub is_root : List ℕ → ℕ → Bool
is_root roots a = root_at roots a == a

-- bit a is set if axis a is a root, for the axes below n
unfoldable pub mask_of : List ℕ → ℕ → ℕ
mask_of roots zero = 0
mask_of roots (suc n) = (if is_root roots n then 1 else 0) * 2 ^ n + mask_of roots n

-- ---- one axis for each root

-- the roots below n, ascending
abbrev pub roots_below : List ℕ → ℕ → List ℕ
roots_below roots n = filter (is_root roots) (range_with_len 0 n)

-- the axes with root r, ascending
abbrev pub rooted_at : List Axis → List ℕ → ℕ → List Axis
rooted_at axes roots r = map (axis_at axes) (filter (λ b. root_at roots b == r) (range_with_len 0 (length axes)))

-- what they become: the least extent and the sum of strides
abbrev pub fused_at : List Axis → List ℕ → ℕ → Axis
fused_at axes roots r = record { extent = least_extent (rooted_at axes roots r); stride = stride_sum (pos 0) (rooted_at axes roots r) }

-- one axis for each root
abbrev pub fused_axes : List Axis → List ℕ → List Axis
fused_axes axes roots = map (fused_at axes roots) (roots_below roots (length axes))

-- 3 if a partial sum of strides at one of these roots does not fit 64 bits signed
unfoldable pub fused_fault : List Axis → List ℕ → List ℕ → Check
fused_fault axes roots [] = pass
fused_fault axes roots (r ∷ rest) = stride_fault (pos 0) (rooted_at axes roots r) >> fused_fault axes roots rest

-- the layout with one axis for each root; or 3 of a sum or of the bounds, and the layout as it was
unfoldable pub fused_view : LayoutModel → List ℕ → After
fused_view l roots = unless_refused l
    (fused_fault l.axes roots (roots_below roots (rank l))
    >> bounds (with_axes l (fused_axes l.axes roots)))
    (with_axes l (fused_axes l.axes roots))
