-- Claims on the count: the place of the first difference vector that completes, in the order of the numbers whose digits the vectors are.
-- RULES, "The verdict: search".
use Rattle.std.specs.Prelude.{List, [], ◌∷◌, ◌⊎◌, ◌↔◌, ◌≡◌, ℕ, suc, ◌+◌, ◌-◌, ◌*◌, ◌<◌, ◌≤◌, ℤ, pos, nat_abs, ◌+ℤ◌, ◌*ℤ◌, length, slice_index_or}
use Rattle.specification.specs.Tests.{sort_by}
use Rattle.specification.specs.Axis.{Axis}
use Rattle.specification.specs.Outcome.{Outcome, done}
use Rattle.specification.specs.Search.{ActiveAxis, box, half, difference_at, CompletesAt}
use Rattle.specification.specs.Verdict.{Verdict, Distinct, Repeated, Judged, longer, block_of, others_of, judge}
use Rattle.specification.specs.VerdictClaims.{ComesToSearch}

-- the block is searched: nothing before settles it, and half is within the budget
pub record Searches (axes : List Axis) : Type 0 where
  pub comes : ComesToSearch axes
  pub within : half (others_of (block_of axes)) ≤ 4194304

-- a and b are the two set apart: of the block the first two by extent, equal extents by axis
pub record IsSetApart (axes : List Axis) (a b : ActiveAxis) : Type 0 where
  pub more : List ActiveAxis
  pub first_two : sort_by longer (block_of axes) ≡ a ∷ b ∷ more

-- a goes before b: its extent is larger, or equal and its axis lower
abbrev pub IsLarger : ActiveAxis → ActiveAxis → Type 0
IsLarger a b = (b.extent < a.extent) ⊎ ((a.extent ≡ b.extent) × (a.axis < b.axis))

-- the two alone collide: a difference of the two, not zero in both, sums to 0 over absolute strides
pub record TwoCollide (a b : ActiveAxis) : Type 0 where
  pub x : ℤ
  pub y : ℤ
  pub x_below : nat_abs x < a.extent
  pub y_below : nat_abs y < b.extent
  pub not_both : ¬ ((x ≡ pos 0) × (y ≡ pos 0))
  pub to_zero : x *ℤ pos a.stride +ℤ y *ℤ pos b.stride ≡ pos 0

-- an answer with its count, no scratch used
abbrev pub judged : Verdict → ℕ → Outcome Judged
judged v count = done (record { answer = v; count = count; freed = 0 })

-- the answer and the count of the search, and that the count is 0 elsewhere
pub record CountClaims : Type 0 where
  -- Repeated with count 0 from the search: exactly if the two alone collide
  pub alone : (axes : List Axis) (a b : ActiveAxis) (words : ℕ) → Searches axes → IsSetApart axes a b → (judge axes words ≡ judged Repeated 0) ↔ TwoCollide a b
  -- Repeated with a count above 0: exactly the place, counted from 1, of the first vector that some difference of the two completes
  pub place : (axes : List Axis) (a b : ActiveAxis) (words c : ℕ) → Searches axes → IsSetApart axes a b → ¬ (TwoCollide a b)
      → (judge axes words ≡ judged Repeated (suc c))
      ↔ (c < half (others_of (block_of axes))) × CompletesAt a b (others_of (block_of axes)) (suc c) × ((d : ℕ) → d < c → ¬ (CompletesAt a b (others_of (block_of axes)) (suc d)))
  -- Distinct with half: exactly if none completes
  pub all_passed : (axes : List Axis) (a b : ActiveAxis) (words : ℕ) → Searches axes → IsSetApart axes a b → ¬ (TwoCollide a b)
      → (judge axes words ≡ judged Distinct (half (others_of (block_of axes)))) ↔ ((d : ℕ) → d < half (others_of (block_of axes)) → ¬ (CompletesAt a b (others_of (block_of axes)) (suc d)))
  -- if the search is due there are two to set apart
  pub two_there : (axes : List Axis) → Searches axes → (a : ActiveAxis) × (b : ActiveAxis) × IsSetApart axes a b
  -- no other axis of the block has a larger extent, and of equal extents the lower axis goes first
  pub two_largest : (axes : List Axis) (a b : ActiveAxis) → IsSetApart axes a b
      → IsLarger a b × ((i : ℕ) → i < length (others_of (block_of axes)) → IsLarger b (slice_index_or (others_of (block_of axes)) i (record { axis = 0; extent = 0; stride = 0 })))
  -- elsewhere the count is 0
  pub elsewhere : (axes : List Axis) (words : ℕ) (j : Judged) → ¬ (Searches axes) → judge axes words ≡ done j → j.count ≡ 0

-- ---- the order of the vectors

-- a difference vector read as a number: the digit of an axis is its difference + extent - 1, the first axis has the lowest
unfoldable pub number_of_digits : List ActiveAxis → List ℤ → ℕ
number_of_digits [] deltas = 0
number_of_digits (a ∷ rest) [] = 0
number_of_digits (a ∷ rest) (d ∷ deltas) = nat_abs (d +ℤ pos (a.extent - 1)) + (2 * a.extent - 1) * number_of_digits rest deltas

-- each difference is below its extent, sign aside
abbrev pub IsSmall : List ActiveAxis → List ℤ → Type 0
IsSmall others deltas = (length deltas ≡ length others) × ((i : ℕ) → i < length others → nat_abs (slice_index_or deltas i (pos 0)) < (slice_index_or others i (record { axis = 0; extent = 0; stride = 0 })).extent)

-- no extent is 0
abbrev pub NoneEmpty : List ActiveAxis → Type 0
NoneEmpty others = (i : ℕ) → i < length others → 0 < (slice_index_or others i (record { axis = 0; extent = 0; stride = 0 })).extent

-- the difference vectors in the order of their numbers: vector k is the one vector of number k, and number half is zero
pub record DigitClaims : Type 0 where
  pub small : (others : List ActiveAxis) (k : ℕ) → NoneEmpty others → k < box others → IsSmall others (difference_at others k)
  pub number : (others : List ActiveAxis) (k : ℕ) → NoneEmpty others → k < box others → number_of_digits others (difference_at others k) ≡ k
  pub every : (others : List ActiveAxis) (deltas : List ℤ) → IsSmall others deltas → (number_of_digits others deltas < box others) × (difference_at others (number_of_digits others deltas) ≡ deltas)
  pub zero_at_half : (others : List ActiveAxis) → NoneEmpty others → (i : ℕ) → slice_index_or (difference_at others (half others)) i (pos 0) ≡ pos 0
  pub as_many_above : (others : List ActiveAxis) → NoneEmpty others → box others ≡ 2 * half others + 1
  -- the others stand in ascending axis order: the lowest axis is the lowest digit
  pub ascending : (axes : List Axis) (i : ℕ) → suc i < length (others_of (block_of axes))
      → (slice_index_or (others_of (block_of axes)) i (record { axis = 0; extent = 0; stride = 0 })).axis < (slice_index_or (others_of (block_of axes)) (suc i) (record { axis = 0; extent = 0; stride = 0 })).axis
