-- What the answers of the calls say of the axes, for whoever calls: each of them exactly if the rules have it.
use Rattle.std.specs.List.{list_any}
use Rattle.std.specs.Prelude.{true, false, List, [], ◌∷◌, ◌≢◌, ◌⊎◌, ◌↔◌, ◌≡◌, ℕ, ◌<◌, ◌≤◌, ℤ, length, drop, Result}
use Rattle.specification.specs.Axis.{Axis, axes_of_lists, is_empty, SharesOffset}
use Rattle.specification.specs.Outcome.{done, refused}
use Rattle.specification.specs.Normal.{overfull}
use Rattle.specification.specs.Verdict.{Verdict, Distinct, Repeated, Undecided, still, is_out_of_range, verdict, words_needed, BothBudgetsPassed}
use Rattle.injectivity.specs.Judgement.{axes_judged, judged_of, IsJudgedAs}
use Rattle.injectivity.specs.declared.Judgement.{Judgement}
use Rattle.view.specs.declared.layout.Refusal.{Refusal}

-- the answer is this one, with some count
abbrev pub Answers : Result Judgement Refusal → Verdict → Type 0
Answers r v = (count : ℕ) × (judged_of r ≡ done (record { answer = v; count = count }))

-- the refusal has this number and these values
abbrev pub RefusedWith : Result Judgement Refusal → ℕ → List ℕ → Type 0
RefusedWith r number values = judged_of r ≡ refused number values

-- ---- axes

-- refusal 3 is due: there are positions, not too many, every active axis moves, and something is out of range
pub record DueThree (axes : List Axis) : Type 0 where
  pub no_zero_extent : is_empty axes ≡ false
  pub not_eight : overfull axes ≡ false
  pub no_still_axis : list_any still axes ≡ false
  pub out : is_out_of_range axes ≡ true

-- no refusal is due, with so many scratch words
pub record NoneDue (axes : List Axis) (words : ℕ) : Type 0 where
  pub few : length axes ≤ 16
  pub not_eight : overfull axes ≡ false
  pub not_three : ¬ (DueThree axes)
  pub enough : words_needed axes ≤ words

-- the answer, by the axes
pub record MeaningOf (axes : List Axis) (before after : List ℕ) (r : Result Judgement Refusal) : Type 0 where
  pub distinct : Answers r Distinct ↔ NoneDue axes (length before) × ¬ (BothBudgetsPassed axes) × ¬ (SharesOffset axes)
  pub repeated : Answers r Repeated ↔ NoneDue axes (length before) × ¬ (BothBudgetsPassed axes) × SharesOffset axes
  pub undecided : Answers r Undecided ↔ NoneDue axes (length before) × BothBudgetsPassed axes
  pub one : RefusedWith r 1 [] ↔ (16 < length axes)
  pub eight : RefusedWith r 8 [] ↔ (length axes ≤ 16) × (overfull axes ≡ true)
  pub three : RefusedWith r 3 [] ↔ (length axes ≤ 16) × DueThree axes
  pub nine : (words : ℕ) → RefusedWith r 9 (words ∷ [])
      ↔ (length axes ≤ 16) × (length before < words_needed axes) × (words ≡ words_needed axes)
  -- there is no other answer
  pub no_other : (number : ℕ) (values : List ℕ) → RefusedWith r number values → (number ≡ 1) ⊎ ((number ≡ 8) ⊎ ((number ≡ 3) ⊎ (number ≡ 9)))
  -- after a refusal the scratch is as it was; else the words past those needed are
  pub unchanged : (number : ℕ) (values : List ℕ) → RefusedWith r number values → after ≡ before
  pub past_needed : drop (words_needed axes) after ≡ drop (words_needed axes) before

-- the same as one word: a proof that does not ask for the parts does not read them
unfoldable pub Means : List Axis → List ℕ → List ℕ → Result Judgement Refusal → Type 0
Means = MeaningOf

-- ---- two lists

-- two lists of one length, up to 16
abbrev pub IsFitting : List ℕ → List ℤ → Type 0
IsFitting extents strides = (length extents ≤ 16) × (length extents ≡ length strides)

-- the answer, by the lengths of the lists, and of lists that fit by the axes that they are
pub record MeaningOfLists (extents : List ℕ) (strides : List ℤ) (before after : List ℕ) (r : Result Judgement Refusal) : Type 0 where
  pub one : RefusedWith r 1 [] ↔ (16 < length extents) ⊎ (16 < length strides)
  pub two : RefusedWith r 2 [] ↔ (length extents ≤ 16) × (length strides ≤ 16) × (length extents ≢ length strides)
  -- after these two the scratch is as it was
  pub unchanged : (RefusedWith r 1 []) ⊎ (RefusedWith r 2 []) → after ≡ before
  pub fitting : IsFitting extents strides → Means (axes_of_lists extents strides) before after r

unfoldable pub MeansOfLists : List ℕ → List ℤ → List ℕ → List ℕ → Result Judgement Refusal → Type 0
MeansOfLists = MeaningOfLists

-- ---- every call

-- so of every call, whatever the axes, the lists and the scratch hold
pub record JudgementClaims : Type 0 where
  pub means : (axes : List Axis) (before after : List ℕ) (r : Result Judgement Refusal)
      → IsJudgedAs (axes_judged axes (length before)) before after r → Means axes before after r
  pub means_of_lists : (extents : List ℕ) (strides : List ℤ) (before after : List ℕ) (r : Result Judgement Refusal)
      → IsJudgedAs (verdict extents strides (length before)) before after r → MeansOfLists extents strides before after r
  -- 2^24 + 1 words are enough for the verdict of any axes
  pub enough_words : (axes : List Axis) → words_needed axes ≤ 16777217
