-- Claims on the block: the active axes, sorted by (absolute stride, axis), up to the last whose stride is within the spans before it.
-- RULES, "The verdict: block".
use Rattle.std.specs.Prelude.{Bool, List, [], ◌∷◌, ◌++◌, ◌⊎◌, ◌↔◌, ◌≡◌, ℕ, suc, ◌<◌, ◌≤◌, nat_abs, length, slice_index_or}
use Rattle.specification.specs.Tests.{sort_by}
use Rattle.specification.specs.Axis.{Axis}
use Rattle.specification.specs.Views.{axis_at}
use Rattle.specification.specs.Search.{ActiveAxis, span_sum}
use Rattle.specification.specs.Verdict.{active_from, smaller, block_of}

-- entry i, or an axis of zeros past the end
abbrev pub entry_at : List ActiveAxis → ℕ → ActiveAxis
entry_at list i = slice_index_or list i (record { axis = 0; extent = 0; stride = 0 })

-- a is an entry of the list
pub record EntryOf (list : List ActiveAxis) (a : ActiveAxis) : Type 0 where
  pub place : ℕ
  pub in_list : place < length list
  pub stands_there : entry_at list place ≡ a

-- a is an active axis of axes: its number is below the rank, its extent that axis's and above 1, its stride that axis's without the sign
pub record ActiveAxisOf (axes : List Axis) (a : ActiveAxis) : Type 0 where
  pub in_rank : a.axis < length axes
  pub extent_is : a.extent ≡ (axis_at axes a.axis).extent
  pub is_active : 1 < a.extent
  pub stride_is : a.stride ≡ nat_abs (axis_at axes a.axis).stride

-- the active axes, sorted
abbrev pub sorted_active : List Axis → List ActiveAxis
sorted_active axes = sort_by smaller (active_from 0 axes)

-- a goes before b: its absolute stride is smaller, or equal and its axis lower
abbrev pub IsSmaller : ActiveAxis → ActiveAxis → Type 0
IsSmaller a b = (a.stride < b.stride) ⊎ ((a.stride ≡ b.stride) × (a.axis < b.axis))

pub record BlockClaims : Type 0 where
  -- exactly the active axes are listed, each once, in ascending axis order
  pub listed : (axes : List Axis) (a : ActiveAxis) → EntryOf (active_from 0 axes) a ↔ ActiveAxisOf axes a
  pub ascending : (axes : List Axis) (i : ℕ) → suc i < length (active_from 0 axes) → (entry_at (active_from 0 axes) i).axis < (entry_at (active_from 0 axes) (suc i)).axis
  -- sorting keeps just the entries, and as many
  pub sorted : (before : ActiveAxis → ActiveAxis → Bool) (list : List ActiveAxis) (a : ActiveAxis) → EntryOf (sort_by before list) a ↔ EntryOf list a
  pub as_many : (before : ActiveAxis → ActiveAxis → Bool) (list : List ActiveAxis) → length (sort_by before list) ≡ length list
  -- the order is that of (absolute stride, axis)
  pub ordered : (axes : List Axis) (i : ℕ) → suc i < length (sorted_active axes) → IsSmaller (entry_at (sorted_active axes) i) (entry_at (sorted_active axes) (suc i))
  -- the block is the front of the sorted axes
  pub in_front : (axes : List Axis) → (behind : List ActiveAxis) × (sorted_active axes ≡ block_of axes ++ behind)
  -- its last axis has an absolute stride of at most the spans before it
  pub last_of : (axes : List Axis) (front : List ActiveAxis) (last : ActiveAxis) → block_of axes ≡ front ++ (last ∷ []) → last.stride ≤ span_sum front
  -- and no axis behind it has
  pub none_behind : (axes : List Axis) (front : List ActiveAxis) (a : ActiveAxis) (behind : List ActiveAxis)
      → sorted_active axes ≡ front ++ (a ∷ behind) → length (block_of axes) ≤ length front → span_sum front < a.stride
