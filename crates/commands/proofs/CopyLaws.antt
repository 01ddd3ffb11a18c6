-- A copy that lacked words of scratch leaves what it was lent, so a second one answers as if it were the first.
use Rattle.std.proofs.Common.{◌≡◌, ℤ, ℕ, List, length, Option, Some, None, Result, Ok, Err, unwrap_or, refl, ap, ◌∙◌}
use Rattle.specification.specs.Outcome.{Check, ◌>>=◌}
use Rattle.specification.specs.Layout.{LayoutModel}
use Rattle.specification.specs.Verdict.{judge}
use Rattle.specification.proofs.OutcomeLaws.{bind-refused}
use Rattle.copying.specs.Copy.{copy_handed, distinct_only, distinct_judged, copy_refusal, copy_after}
use Rattle.view.specs.Answers.{outcome_of}
use Rattle.view.specs.declared.layout.Refusal.{Refusal}
use Rattle.commands.specs.Scratch.{or_most, words_lacking}
use Rattle.commands.proofs.ScratchLaws.{Steady, steady_judge, steady_by, steady_behind, first_answer, second_answer}

abbrev pub Tried : Type 0
Tried = Result (Unit {0}) Refusal

module _ (s d : LayoutModel) (from to : List ℤ) where
  abbrev refusal : ℕ → Check
  refusal = copy_refusal s d (length from) (length to)

  steady_copy : Steady refusal
  unfolding copy_refusal distinct_judged
  steady_copy =
      steady_behind (copy_handed s d (length from) (length to)) _
      (steady_by (judge d.axes) (λ o. o >>= λ judged. distinct_only judged.answer) (λ values. bind-refused _ refl) (steady_judge d.axes))

  pub first_copied : (words : Option ℕ) (first : Tried) → outcome_of first ≡ refusal (unwrap_or words 0) → words_lacking words first ≡ None → outcome_of first ≡ refusal (or_most words)
  first_copied = first_answer refusal steady_copy (λ o. o) (λ number values. refl) (λ u. u)

  -- what a first copy lacked, it left
  left : (words : Option ℕ) (first : Tried) (n : ℕ) (after : List ℤ) → after ≡ copy_after (outcome_of first) s d from to → words_lacking words first ≡ Some n → after ≡ to
  unfolding copy_after
  left None (Ok u) n after e lacks = absurd cc
  left None (Err why) n after e lacks = e
  left (Some words) first n after e lacks = absurd cc

  pub second_copied : (words : Option ℕ) (first second : Tried) (k m n : ℕ) (after : List ℤ) → outcome_of first ≡ refusal k → k ≡ unwrap_or words 0 → words_lacking words first ≡ Some n
      → after ≡ copy_after (outcome_of first) s d from to → outcome_of second ≡ copy_refusal s d (length from) (length after) m → m ≡ n → outcome_of second ≡ refusal (or_most words)
  second_copied words first second k m n after e at-first lacks kept e2 at-second =
      second_answer refusal steady_copy (λ o. o) (λ number values. refl) (λ u. u) words first second k m n e at-first lacks
      (e2 ∙ ap (λ (l : List ℤ). copy_refusal s d (length from) (length l) m) (left words first n after kept lacks)) at-second

  pub second_left : (words : Option ℕ) (first second : Tried) (n : ℕ) (after last : List ℤ) → words_lacking words first ≡ Some n → after ≡ copy_after (outcome_of first) s d from to
      → last ≡ copy_after (outcome_of second) s d from after → last ≡ copy_after (outcome_of second) s d from to
  second_left words first second n after last lacks kept e = e ∙ ap (copy_after (outcome_of second) s d from) (left words first n after kept lacks)
