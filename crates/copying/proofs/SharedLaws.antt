-- The verdict on the destination as a refusal, by what the code's verdict says.
use Rattle.std.specs.Prelude.{List, [], ℕ, ◌≡◌, ◌⊎◌, ◌≤◌, Result, Err, Ok}
use Rattle.std.proofs.lemmas.Int.{ints}
use native.Mathlib.Omega.{arith}
use mathlib.Core.Logic.{inl, inr}
use mathlib.Core.Path.{subst, ap, ◌∙◌}
use Rattle.specification.specs.Outcome.{refused, refuse_if, pass, ◌>>◌, ◌>>=◌}
use Rattle.specification.specs.Layout.{LayoutModel, rank}
use Rattle.specification.specs.Verdict.{judge, freed_by, ScratchAfter}
use Rattle.view.specs.Answers.{number_of, values_of}
use Rattle.view.specs.declared.layout.Refusal.{Refusal}
use Rattle.injectivity.specs.declared.Judgement.{Judgement}
use Rattle.injectivity.specs.declared.Judgement.TheVariants.{Distinct, Repeated, Undecided}
use Rattle.injectivity.specs.Judgement.{axes_judged, told_of, judged_of, IsJudgedAs}
use Rattle.copying.specs.Copy.{distinct_only, distinct_judged}

module _ (d : LayoutModel) (few : rank d ≤ 16) (words : ℕ) where
  few-judged : axes_judged d.axes words ≡ judge d.axes words
  unfolding axes_judged refuse_if ◌>>◌
  few-judged = grind (arith, ints, few)

  module _ {before after : List ℕ} {r : Result Judgement Refusal} (w : IsJudgedAs (axes_judged d.axes words) before after r) where
    told : judged_of r ≡ told_of (judge d.axes words)
    told = subst (λ o. judged_of r ≡ told_of o) few-judged w.told

    pub shared_freed : ScratchAfter (freed_by (judge d.axes words)) before after
    shared_freed = subst (λ o. ScratchAfter (freed_by o) before after) few-judged w.scratch

    pub shared_refused : {why : Refusal} → r ≡ Err why → refused (number_of why) (values_of why) ≡ distinct_judged d words
    unfolding distinct_judged ◌>>=◌
    shared_refused e = grind (arith, ints, told)

    pub shared_distinct : {count : ℕ} → r ≡ Ok (Distinct count) → pass ≡ distinct_judged d words
    unfolding distinct_judged distinct_only ◌>>=◌
    shared_distinct e = grind (arith, ints, told)

    shared_repeated : {count : ℕ} → r ≡ Ok (Repeated count) → refused 14 [] ≡ distinct_judged d words
    unfolding distinct_judged distinct_only ◌>>=◌
    shared_repeated e = grind (arith, ints, told)

    shared_undecided : r ≡ Ok Undecided → refused 14 [] ≡ distinct_judged d words
    unfolding distinct_judged distinct_only ◌>>=◌
    shared_undecided e = grind (arith, ints, told)

    pub shared_other : {j : Judgement} → r ≡ Ok j → ((count : ℕ) × (j ≡ Repeated count)) ⊎ (j ≡ Undecided) → refused 14 [] ≡ distinct_judged d words
    shared_other e (inl (count, f)) = shared_repeated (e ∙ ap Ok f)
    shared_other e (inr f) = shared_undecided (e ∙ ap Ok f)
