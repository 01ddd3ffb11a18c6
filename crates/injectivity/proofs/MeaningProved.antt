-- What the answers of the calls say of the axes, from what is proved of the verdict: case by case, as axes and lists have it.
use Rattle.std.proofs.Common.{◌≡◌, ap, ◌∙◌, sym, refl, ℕ, ◌<◌, ◌≤◌, List, [], ◌∷◌, length, Result, inl, inr, arith, true}
use mathlib.Core.Logic.{◌≢◌, ◌⊎◌}
use native.Mathlib.Decide.{dec_lt, ℕ_discrete}
use lib.IntN.{ℤ}
use Rattle.std.proofs.lemmas.Int.{ints}
use Rattle.specification.specs.Axis.{Axis, axes_of_lists}
use Rattle.specification.specs.Outcome.{Outcome, done, refused}
use Rattle.specification.specs.Normal.{overfull}
use Rattle.specification.specs.Verdict.{Judged, judge, verdict, freed_by, ScratchAfter, words_needed}
use Rattle.specification.proofs.VerdictLaws.{verdict_claims, verdict_call_claims}
use Rattle.view.proofs.AxesLaws.{length-axes_of_lists}
use Rattle.injectivity.specs.Judgement.{axes_judged, judged_of, told_of, IsJudgedAs}
use Rattle.injectivity.specs.Meaning.{IsFitting, DueThree, MeaningOf, Means, MeaningOfLists, MeansOfLists, JudgementClaims}
use Rattle.injectivity.specs.declared.Judgement.{Judgement}
use Rattle.injectivity.proofs.PlanLaws.{crowd, few_axes}
use Rattle.injectivity.proofs.WordsLaws.{enough_words}
use Rattle.view.specs.declared.layout.Refusal.{Refusal}

-- a call that comes to a refusal
refusing : {o : Outcome Judged} {before after : List ℕ} {r : Result Judgement Refusal} {n : ℕ} {vs : List ℕ}
    → IsJudgedAs o before after r → o ≡ refused n vs → (judged_of r ≡ refused n vs) × (after ≡ before)
unfolding freed_by
refusing c e = (c.told ∙ ap told_of e, rw e at c.scratch.1)

-- ---- axes

module _ (axes : List Axis) (before after : List ℕ) (r : Result Judgement Refusal)
    (c : IsJudgedAs (axes_judged axes (length before)) before after r) where
  abbrev words : ℕ
  words = length before

  too-many : 16 < length axes → MeaningOf axes before after r
  too-many h = let w = refusing c (crowd axes words h) in grind (arith, ints)

  module _ (few : length axes ≤ 16) where
    judged : axes_judged axes words ≡ judge axes words
    judged = few_axes axes words few

    -- each refusal of the axes if it is due
    eight : overfull axes ≡ true → judge axes words ≡ refused 8 []
    eight o = (verdict_claims.eight axes words []).1 (o, refl)

    three : DueThree axes → judge axes words ≡ refused 3 []
    three d = (verdict_claims.three axes words []).1 (d.no_zero_extent, d.not_eight, d.no_still_axis, d.out, refl)

    nine : words < words_needed axes → judge axes words ≡ refused 9 (words_needed axes ∷ [])
    nine h = (verdict_claims.needed axes words (words_needed axes ∷ [])).1 (h, refl)

    turned-down : {n : ℕ} {vs : List ℕ} → judge axes words ≡ refused n vs → MeaningOf axes before after r
    turned-down {n} {vs} e =
        let w = refusing c (judged ∙ e) in let which = verdict_claims.no_other axes words n vs e in
        let is-eight = (verdict_claims.eight axes words vs).0 in let is-three = (verdict_claims.three axes words vs).0 in
        let is-nine = (verdict_claims.needed axes words vs).0 in
        grind (arith, ints, eight, three, nine)

    answered : (j : Judged) → judge axes words ≡ done j → MeaningOf axes before after r
    unfolding freed_by
    answered j e =
        let t = c.told ∙ ap told_of (judged ∙ e) in
        let says = verdict_claims.true_answer axes words j e in let both = verdict_claims.only_undecided axes words j e in
        let kept = rw (judged ∙ e, verdict_claims.freed_are axes words j e) at c.scratch.1 in
        grind (arith, ints, eight, three, nine)

    by-answer : (o : Outcome Judged) → judge axes words ≡ o → MeaningOf axes before after r
    by-answer (done j) e = answered j e
    by-answer (refused n vs) e = turned-down e

  meaning : MeaningOf axes before after r
  meaning = by (dec_lt 16 (length axes))
    where
      by : Dec (16 < length axes) → MeaningOf axes before after r
      by (yes h) = too-many h
      by (no h) = by-answer (omega arith) (judge axes words) refl

pub means : (axes : List Axis) (before after : List ℕ) (r : Result Judgement Refusal)
    → IsJudgedAs (axes_judged axes (length before)) before after r → Means axes before after r
unfolding Means
means = meaning

-- the same by the parts of `IsJudgedAs`
pub told_means : (axes : List Axis) (before after : List ℕ) (r : Result Judgement Refusal)
    → judged_of r ≡ told_of (axes_judged axes (length before))
    → ScratchAfter (freed_by (axes_judged axes (length before))) before after → Means axes before after r
told_means axes before after r t s = means axes before after r (record { told = t; scratch = s })

-- ---- two lists

module _ (es : List ℕ) (ss : List ℤ) (before after : List ℕ) (r : Result Judgement Refusal)
    (c : IsJudgedAs (verdict es ss (length before)) before after r) where
  too-long : (16 < length es) ⊎ (16 < length ss) → MeaningOfLists es ss before after r
  too-long h = let w = refusing c (verdict_call_claims.one es ss (length before) h) in grind (arith, ints)

  different : length es ≤ 16 → length ss ≤ 16 → length es ≢ length ss → MeaningOfLists es ss before after r
  different h k n = let w = refusing c (verdict_call_claims.two es ss (length before) h k n) in grind (arith, ints)

  -- lists that are axes are judged as these
  fitting : IsFitting es ss → MeaningOfLists es ss before after r
  fitting f =
      let axes = axes_of_lists es ss in
      let count : length axes ≡ length es = length-axes_of_lists es ss f.1 in
      let same : verdict es ss (length before) ≡ axes_judged axes (length before) =
      verdict_call_claims.then_judged es ss (length before) f.0 f.1 ∙ sym (few_axes axes (length before) (omega (arith, count, f.0))) in
      let judged : IsJudgedAs (axes_judged axes (length before)) before after r = rw same at c in
      let m = meaning axes before after r judged in
      let whole = means axes before after r judged in
      grind (arith, ints)

  lists_meaning : MeaningOfLists es ss before after r
  lists_meaning = by (dec_lt 16 (length es)) (dec_lt 16 (length ss)) (ℕ_discrete (length es) (length ss))
    where
      by : Dec (16 < length es) → Dec (16 < length ss) → Dec (length es ≡ length ss) → MeaningOfLists es ss before after r
      by (yes h) k e = too-long (inl h)
      by (no h) (yes k) e = too-long (inr k)
      by (no h) (no k) (no e) = different (omega arith) (omega arith) e
      by (no h) (no k) (yes e) = fitting (omega arith, e)

pub means_of_lists : (es : List ℕ) (ss : List ℤ) (before after : List ℕ) (r : Result Judgement Refusal)
    → IsJudgedAs (verdict es ss (length before)) before after r → MeansOfLists es ss before after r
unfolding MeansOfLists
means_of_lists = lists_meaning

pub lists_told_mean : (es : List ℕ) (ss : List ℤ) (before after : List ℕ) (r : Result Judgement Refusal)
    → judged_of r ≡ told_of (verdict es ss (length before))
    → ScratchAfter (freed_by (verdict es ss (length before))) before after → MeansOfLists es ss before after r
lists_told_mean es ss before after r t s = means_of_lists es ss before after r (record { told = t; scratch = s })

-- ---- every call

pub judgement_claims : JudgementClaims
judgement_claims = record { means = means; means_of_lists = means_of_lists; enough_words = enough_words }
