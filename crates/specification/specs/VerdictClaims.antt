-- Claims on the verdict: each answer is true of the positions, Undecided exactly if both budgets are passed, each refusal exactly if it is due.
-- RULES, "The verdict: inputs", "The verdict: enumeration", "The verdict: budgets".
use Rattle.std.specs.List.{list_any}
use Rattle.std.specs.Prelude.{true, false, List, [], ◌∷◌, ◌≢◌, ◌⊎◌, ◌↔◌, ◌≡◌, ℕ, ◌+◌, ◌-◌, ◌/◌, ◌<◌, ◌≤◌, ℤ, length}
use Rattle.specification.specs.Axis.{Axis, axes_of_lists, SharesOffset, is_empty}
use Rattle.specification.specs.Outcome.{done, refused}
use Rattle.specification.specs.Normal.{overfull}
use Rattle.specification.specs.Search.{total, span_sum, half}
use Rattle.specification.specs.Verdict.{Verdict, Distinct, Repeated, Undecided, Judged, still, is_out_of_range, block_of, others_of, judge, verdict, words_needed, BothBudgetsPassed}

-- what an answer says of the axes
abbrev pub Says : Verdict → List Axis → Type 0
Says Distinct axes = ¬ (SharesOffset axes)
Says Repeated axes = SharesOffset axes
Says Undecided axes = BothBudgetsPassed axes

-- inputs and block answer nothing and refuse nothing: the block has three axes or more and is not crowded
pub record ComesToSearch (axes : List Axis) : Type 0 where
  pub no_zero_extent : is_empty axes ≡ false
  pub not_eight : overfull axes ≡ false
  pub no_still_axis : list_any still axes ≡ false
  pub not_three : is_out_of_range axes ≡ false
  pub three_or_more : 3 ≤ length (block_of axes)
  pub not_crowded : total (block_of axes) - 1 ≤ span_sum (block_of axes)

-- the block is enumerated: past the search's budget, within its own
pub record Enumerates (axes : List Axis) : Type 0 where
  pub comes : ComesToSearch axes
  pub past_search : 4194304 < half (others_of (block_of axes))
  pub within : total (block_of axes) ≤ 16777216

-- the words needed if a block is enumerated: a bit for each sum up to span, or a word for each position; elsewhere none
pub record WordsClaims : Type 0 where
  pub bitmap : (axes : List Axis) → Enumerates axes → span_sum (block_of axes) / 64 ≤ total (block_of axes) → words_needed axes ≡ span_sum (block_of axes) / 64 + 1
  pub list : (axes : List Axis) → Enumerates axes → total (block_of axes) < span_sum (block_of axes) / 64 → words_needed axes ≡ total (block_of axes)
  pub none : (axes : List Axis) → ¬ (Enumerates axes) → words_needed axes ≡ 0

-- the verdict of axes
pub record VerdictClaims : Type 0 where
  pub true_answer : (axes : List Axis) (words : ℕ) (j : Judged) → judge axes words ≡ done j → Says j.answer axes
  -- both budgets passed: Undecided, if it is not refused
  pub only_undecided : (axes : List Axis) (words : ℕ) (j : Judged) → judge axes words ≡ done j → BothBudgetsPassed axes → j.answer ≡ Undecided
  -- 8 exactly if the axes are overfull
  pub eight : (axes : List Axis) (words : ℕ) (values : List ℕ) → (judge axes words ≡ refused 8 values) ↔ (overfull axes ≡ true) × (values ≡ [])
  -- 3 exactly if nothing before settles it and something is out of range
  pub three : (axes : List Axis) (words : ℕ) (values : List ℕ) → (judge axes words ≡ refused 3 values)
      ↔ (is_empty axes ≡ false) × (overfull axes ≡ false) × (list_any still axes ≡ false) × (is_out_of_range axes ≡ true) × (values ≡ [])
  -- 9 exactly if the words are too few
  pub needed : (axes : List Axis) (words : ℕ) (values : List ℕ) → (judge axes words ≡ refused 9 values) ↔ (words < words_needed axes) × (values ≡ words_needed axes ∷ [])
  -- no other refusal
  pub no_other : (axes : List Axis) (words number : ℕ) (values : List ℕ) → judge axes words ≡ refused number values → (number ≡ 8) ⊎ ((number ≡ 3) ⊎ (number ≡ 9))
  -- the words needed are free afterwards, and no other
  pub freed_are : (axes : List Axis) (words : ℕ) (j : Judged) → judge axes words ≡ done j → j.freed ≡ words_needed axes

-- the public call: 1 for a list above 16, then 2 for unequal lengths, then the verdict of the axes
pub record VerdictCallClaims : Type 0 where
  pub one : (extents : List ℕ) (strides : List ℤ) (words : ℕ) → (16 < length extents) ⊎ (16 < length strides) → verdict extents strides words ≡ refused 1 []
  pub two : (extents : List ℕ) (strides : List ℤ) (words : ℕ) → length extents ≤ 16 → length strides ≤ 16 → length extents ≢ length strides → verdict extents strides words ≡ refused 2 []
  pub then_judged : (extents : List ℕ) (strides : List ℤ) (words : ℕ) → length extents ≤ 16 → length extents ≡ length strides → verdict extents strides words ≡ judge (axes_of_lists extents strides) words
