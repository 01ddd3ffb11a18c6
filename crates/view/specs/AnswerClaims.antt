-- Claims on the reach and on the number of positions, as the code answers them: each case stands exactly if it is due.
use Rattle.std.specs.Prelude.{List, [], ◌↔◌, ◌≡◌, ℕ, ◌<◌, ◌≤◌, ℤ, length, ◌≤ℤ◌}
use Rattle.specification.specs.Axis.{Axis, extents, positions}
use Rattle.specification.specs.Outcome.{done, refused}
use Rattle.specification.specs.Layout.{LayoutModel, rank, offset_at, IsAccepted}
use Rattle.view.specs.Reach.{none, ends, reach_of}
use Rattle.view.specs.Count.{element_count, count_of}

-- a position stands at this offset
abbrev pub SomeAt : LayoutModel → ℤ → Type 0
SomeAt l z = (k : ℕ) × (k < positions l.axes) × (offset_at l k ≡ z)

-- the two ends are offsets of positions, and none lies outside them
pub record EndsReached (l : LayoutModel) (low high : ℤ) : Type 0 where
  pub low_there : SomeAt l low
  pub high_there : SomeAt l high
  pub between : (k : ℕ) → k < positions l.axes → (low ≤ℤ offset_at l k) × (offset_at l k ≤ℤ high)

pub record ReachAnswerClaims : Type 0 where
  -- 1 exactly for more than 16 axes
  pub one : (l : LayoutModel) → (reach_of l ≡ refused 1 []) ↔ (16 < rank l)
  -- up to 16 axes 3 exactly for a layout that is not accepted
  pub three : (l : LayoutModel) → rank l ≤ 16 → (reach_of l ≡ refused 3 []) ↔ ¬ (IsAccepted l)
  -- and no ends exactly if there is no position
  pub no_ends : (l : LayoutModel) → rank l ≤ 16 → (reach_of l ≡ done none) ↔ (positions l.axes ≡ 0)
  pub two_ends : (l : LayoutModel) (low high : ℤ) → reach_of l ≡ done (ends low high) → EndsReached l low high

pub record ElementCountClaims : Type 0 where
  -- 1 for more than 16 extents, whatever they are
  pub one : (list : List ℕ) → 16 < length list → element_count list ≡ refused 1 []
  -- up to 16 axes it is the number of their positions, or 8 as the normal form refuses it; strides do not matter
  pub of_axes : (axes : List Axis) → length axes ≤ 16 → element_count (extents axes) ≡ count_of axes
