-- When a view passes and when it is refused: the first fault, with its number and values. RULES, "Permute", "Diagonal view", "Broadcast".
-- The claims hold the definitions of permute, diagonal_view and broadcast to these rules.
use Rattle.std.specs.Prelude.{true, List, [], ◌∷◌, ◌≢◌, ◌⊎◌, ◌≡◌, ℕ, max, ◌<◌, ◌≤◌, pos, length, take, slice_index_or, slice_index}
use Rattle.integer.specs.Range.{fits}
use Rattle.specification.specs.Outcome.{pass, refused}
use Rattle.specification.specs.Layout.{LayoutModel, rank, IsAccepted, HandedRefused}
use Rattle.specification.specs.CheckIn.{bounds}
use Rattle.specification.specs.Views.{with_axes, axis_at, kept, members, stride_sum, diagonal_axes}
use Rattle.specification.specs.Calls.{Call, permuting, diagonal, broadcasting}

-- ---- permute

-- entry i of the order is below the rank, and no entry before it is the same
pub record GoodEntry (rank : ℕ) (order : List ℕ) (i : ℕ) : Type 0 where
  pub in_rank : slice_index order i < rank
  pub new : (j : ℕ) → j < i → slice_index order j ≢ slice_index order i

-- permute passes: an accepted layout, as many entries as the rank, each good
pub record Permutes (l : LayoutModel) (order : List ℕ) : Type 0 where
  pub accepted : IsAccepted l
  pub as_many : length order ≡ rank l
  pub good : (i : ℕ) → i < length order → GoodEntry (rank l) order i

-- permute is refused with a number and values
pub data PermuteRefused (l : LayoutModel) (order : List ℕ) : ℕ → List ℕ → Type 0 where
  handed_in : {number : ℕ} {values : List ℕ} → HandedRefused l (length order) number values → PermuteRefused l order number values
  wrong_length : IsAccepted l → length order ≤ 16 → length order ≢ rank l → PermuteRefused l order 4 (length order ∷ rank l ∷ [])
  bad_entry : IsAccepted l → length order ≡ rank l → (i : ℕ) → i < length order → ((j : ℕ) → j < i → GoodEntry (rank l) order j) → ¬ (GoodEntry (rank l) order i)
      → PermuteRefused l order 5 (slice_index order i ∷ rank l ∷ [])

-- ---- diagonal_view

-- pair number i
abbrev pub pair_at : List (ℕ × ℕ) → ℕ → ℕ × ℕ
pair_at pairs i = slice_index_or pairs i (0, 0)

-- both axes of pair i are below the rank, and they are not the same
pub record GoodPair (rank : ℕ) (pairs : List (ℕ × ℕ)) (i : ℕ) : Type 0 where
  pub in_rank : max (pair_at pairs i).0 (pair_at pairs i).1 < rank
  pub different : (pair_at pairs i).0 ≢ (pair_at pairs i).1

-- every partial sum, in ascending axis order, of the strides of the class that stands at axis a is in range
abbrev pub SumsFit : LayoutModel → List (ℕ × ℕ) → ℕ → Type 0
SumsFit l pairs a = (n : ℕ) → fits (stride_sum (pos 0) (take n (members l pairs a))) ≡ true

-- diagonal_view passes: an accepted layout, good pairs, sums in range for each class, and check-in of the result
pub record Fuses (l : LayoutModel) (pairs : List (ℕ × ℕ)) : Type 0 where
  pub accepted : IsAccepted l
  pub good : (i : ℕ) → i < length pairs → GoodPair (rank l) pairs i
  pub sums : (p : ℕ) → p < length (kept pairs (rank l)) → SumsFit l pairs (slice_index (kept pairs (rank l)) p)
  pub checked : bounds (with_axes l (diagonal_axes l pairs)) ≡ pass

-- diagonal_view is refused with a number and values
pub data DiagonalRefused (l : LayoutModel) (pairs : List (ℕ × ℕ)) : ℕ → List ℕ → Type 0 where
  handed_in : {number : ℕ} {values : List ℕ} → HandedRefused l 0 number values → DiagonalRefused l pairs number values
  outside : IsAccepted l → (i : ℕ) → i < length pairs → ((j : ℕ) → j < i → GoodPair (rank l) pairs j) → rank l ≤ max (pair_at pairs i).0 (pair_at pairs i).1
      → DiagonalRefused l pairs 5 (max (pair_at pairs i).0 (pair_at pairs i).1 ∷ rank l ∷ [])
  same_axis : IsAccepted l → (i : ℕ) → i < length pairs → ((j : ℕ) → j < i → GoodPair (rank l) pairs j) → (pair_at pairs i).0 < rank l → (pair_at pairs i).0 ≡ (pair_at pairs i).1
      → DiagonalRefused l pairs 5 ((pair_at pairs i).0 ∷ rank l ∷ [])
  sum_out : IsAccepted l → ((i : ℕ) → i < length pairs → GoodPair (rank l) pairs i) → (p : ℕ) → p < length (kept pairs (rank l)) → ¬ (SumsFit l pairs (slice_index (kept pairs (rank l)) p))
      → DiagonalRefused l pairs 3 []
  not_checked : IsAccepted l → ((i : ℕ) → i < length pairs → GoodPair (rank l) pairs i) → ((p : ℕ) → p < length (kept pairs (rank l)) → SumsFit l pairs (slice_index (kept pairs (rank l)) p))
      → bounds (with_axes l (diagonal_axes l pairs)) ≡ refused 3 [] → DiagonalRefused l pairs 3 []

-- ---- broadcast

-- extent number i is its target or 1
abbrev pub GoodExtent : LayoutModel → List ℕ → ℕ → Type 0
GoodExtent l targets i = ((axis_at l.axes i).extent ≡ slice_index targets i) ⊎ ((axis_at l.axes i).extent ≡ 1)

-- broadcast passes: an accepted layout, as many targets as the rank, each extent good
pub record Broadcasts (l : LayoutModel) (targets : List ℕ) : Type 0 where
  pub accepted : IsAccepted l
  pub as_many : length targets ≡ rank l
  pub good : (i : ℕ) → i < rank l → GoodExtent l targets i

-- broadcast is refused with a number and values
pub data BroadcastRefused (l : LayoutModel) (targets : List ℕ) : ℕ → List ℕ → Type 0 where
  handed_in : {number : ℕ} {values : List ℕ} → HandedRefused l (length targets) number values → BroadcastRefused l targets number values
  wrong_length : IsAccepted l → length targets ≤ 16 → length targets ≢ rank l → BroadcastRefused l targets 4 (rank l ∷ length targets ∷ [])
  bad_extent : IsAccepted l → length targets ≡ rank l → (i : ℕ) → i < rank l → ((j : ℕ) → j < i → GoodExtent l targets j) → ¬ (GoodExtent l targets i)
      → BroadcastRefused l targets 6 (i ∷ [])

-- ---- a call of a list

-- a call passes
abbrev pub Passes : LayoutModel → Call → Type 0
Passes l (permuting order) = Permutes l order
Passes l (diagonal pairs) = Fuses l pairs
Passes l (broadcasting targets) = Broadcasts l targets

-- a call is refused with a number and values
abbrev pub Refuses : LayoutModel → Call → ℕ → List ℕ → Type 0
Refuses l (permuting order) = PermuteRefused l order
Refuses l (diagonal pairs) = DiagonalRefused l pairs
Refuses l (broadcasting targets) = BroadcastRefused l targets
