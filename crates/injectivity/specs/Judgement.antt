-- What a call answers and leaves in the scratch, as an outcome of the verdict.
use Rattle.std.specs.Prelude.{List, [], ◌≡◌, ℕ, Result}
use Rattle.specification.specs.Axis.{Axis}
use Rattle.specification.specs.Layout.{is_too_long}
use Rattle.specification.specs.Outcome.{Outcome, done, refused, refuse_if, ◌>>◌}
use Rattle.specification.specs.Verdict.{Verdict, Judged, judge, freed_by, ScratchAfter}
use Rattle.specification.specs.Verdict as verdict
use Rattle.view.specs.Answers.{outcome_by}
use Rattle.injectivity.specs.declared.Judgement.{Judgement}
use Rattle.injectivity.specs.declared.Judgement.TheVariants.{Distinct, Repeated, Undecided}
use Rattle.view.specs.declared.layout.Refusal.{Refusal}

-- the call on axes, however many there are: refusal 1 for more than 16, then the verdict of the axes
unfoldable pub axes_judged : List Axis → ℕ → Outcome Judged
axes_judged axes words = refuse_if (is_too_long axes) 1 [] >> judge axes words

-- an answer with its count
pub record Told : Type 0 where
  pub answer : Verdict
  pub count : ℕ

-- what is told of an outcome: all but how many words it frees
abbrev pub told_of : Outcome Judged → Outcome Told
told_of (done j) = done (record { answer = j.answer; count = j.count })
told_of (refused number values) = refused number values

-- a judgement in the definitions' words; the count of Undecided is 0
abbrev pub verdict_told : Judgement → Told
verdict_told (Distinct count) = record { answer = verdict.Distinct; count = count }
verdict_told (Repeated count) = record { answer = verdict.Repeated; count = count }
verdict_told Undecided = record { answer = verdict.Undecided; count = 0 }

-- the answer of the call as an outcome
abbrev pub judged_of : Result Judgement Refusal → Outcome Told
judged_of = outcome_by verdict_told

-- the number of a verdict in a record and at the border to C, and its count
abbrev pub number_told : Judgement → ℕ
number_told (Distinct count) = 1
number_told (Repeated count) = 2
number_told Undecided = 3

abbrev pub count_told : Judgement → ℕ
count_told (Distinct count) = count
count_told (Repeated count) = count
count_told Undecided = 0

-- answer and scratch of the call are those of an outcome: the scratch is `before` it and `after` it
pub record IsJudgedAs (outcome : Outcome Judged) (before after : List ℕ) (answer : Result Judgement Refusal) : Type 0 where
  pub told : judged_of answer ≡ told_of outcome
  pub scratch : ScratchAfter (freed_by outcome) before after
