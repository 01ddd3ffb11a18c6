-- When a copy passes, each of its refusals, and what it leaves behind: the claims on copying.
use Rattle.std.specs.Prelude.{Bool, true, false, List, [], ◌∷◌, ◌≢◌, ◌⊎◌, ◌↔◌, ◌≡◌, ℕ, ◌<◌, length}
use mathlib.Core.Logic.{inl, inr}
use mathlib.Core.Path.{refl, sym, ap, subst, ◌∙◌}
use native.Mathlib.Omega.{arith}
use Rattle.specification.specs.Axis.{product, positions, index_at, SharesOffset}
use Rattle.specification.specs.Outcome.{Outcome, Check, done, refused, pass, ◌>>◌, ◌>>=◌}
use Rattle.specification.specs.Layout.{LayoutModel, IsAccepted}
use Rattle.specification.specs.Normal.{overfull}
use Rattle.specification.specs.Verdict.{Verdict, Distinct, Repeated, Undecided, Judged, judge, freed_by, words_needed}
use Rattle.specification.specs.VerdictClaims.{Says}
use Rattle.specification.specs.Readings.{cell_at}
use Rattle.copying.specs.Copy.{copy_handed, distinct_only, distinct_judged, copy_refusal, copy_frees, copy_after}
use Rattle.copying.specs.CopyClaims.{IsSuited, IsJudgedDistinct, CopyRefused, CopyClaims}
use Rattle.specification.proofs.OutcomeLaws.{clash, refused-inj, bound, bind_done, bind-refused}
use Rattle.specification.proofs.AnswerRules.{Answers, only, InOrder, sooner, later, then-answers}
use Rattle.specification.proofs.JudgeLaws.{Judging, is_judged, too_few, judging}
use Rattle.specification.proofs.VerdictLaws.{verdict_claims}
use Rattle.specification.proofs.VerdictRefusals.{Refusal, judge-refused}
use Rattle.specification.proofs.ReadingLaws.{cell_at-below, cell-offset, cells-apart}
use Rattle.copying.proofs.CopiesLaws.{length-copies, slice_get-copies_other, slice_get-copies_written}
use Rattle.copying.proofs.CopyHanded.{SuitRefused, handed-answers, not-held}

-- ---- the verdict, and 14

-- refused by the verdict, or 14 for its answer
data VerdictRefused (d : LayoutModel) (words : ℕ) : ℕ → List ℕ → Type 0 where
  eight : overfull d.axes ≡ true → VerdictRefused d words 8 []
  nine : overfull d.axes ≡ false → words < words_needed d.axes → VerdictRefused d words 9 (words_needed d.axes ∷ [])
  fourteen : (j : Judged) → judge d.axes words ≡ done j → j.answer ≢ Distinct → VerdictRefused d words 14 []

module _ (d : LayoutModel) (words : ℕ) (a : IsAccepted d) where
  abbrev then_14 : Check
  then_14 = distinct_judged d words

  told : (j : Judged) → judge d.axes words ≡ done j → then_14 ≡ distinct_only j.answer
  unfolding distinct_judged
  told j e = bind_done (λ j. distinct_only j.answer) e

  eight_is : overfull d.axes ≡ true → judge d.axes words ≡ refused 8 []
  eight_is o = (verdict_claims.eight d.axes words []).1 (o, refl)

  -- a judged layout, and one with too few words, is not overfull
  not-overfull : {o : Outcome Judged} → judge d.axes words ≡ o → o ≢ refused 8 [] → overfull d.axes ≡ false
  not-overfull {o} e f = go (overfull d.axes) refl
    where
      go : (t : Bool) → overfull d.axes ≡ t → t ≡ false
      go true q = absurd (f (sym e ∙ eight_is q))
      go false q = refl

  judge-refuses : {n : ℕ} {vs : List ℕ} → judge d.axes words ≡ refused n vs → Refusal d.axes words n vs → VerdictRefused d words n vs
  judge-refuses e (Refusal.eight o) = eight o
  judge-refuses e (Refusal.three f o s r) = absurd (go (judging d a o words))
    where
      go : Judging (words_needed d.axes) words (judge d.axes words) → ⊥
      go (is_judged h j q g) = clash (sym q ∙ e)
      go (too_few h q) = let w = refused-inj (sym q ∙ e) in omega arith
  judge-refuses e (Refusal.nine h) = nine (not-overfull e (λ q. let w = refused-inj q in omega arith)) h

  distinct-passes : (v : Verdict) → distinct_only v ≡ pass → v ≡ Distinct
  unfolding distinct_only
  distinct-passes Distinct e = refl
  distinct-passes Repeated e = absurd (clash (sym e))
  distinct-passes Undecided e = absurd (clash (sym e))

  others-refused : (v : Verdict) → v ≢ Distinct → distinct_only v ≡ refused 14 []
  unfolding distinct_only
  others-refused Distinct f = absurd (f refl)
  others-refused Repeated f = refl
  others-refused Undecided f = refl

  pass-found : then_14 ≡ pass → IsJudgedDistinct d words
  unfolding distinct_judged
  pass-found e =
      let b = bound e in
      record { judged = b.what; judged_is = b.was; distinct = distinct-passes b.what.answer b.after }

  pass-is : IsJudgedDistinct d words → then_14 ≡ pass
  unfolding distinct_only
  pass-is p = told p.judged p.judged_is ∙ ap distinct_only p.distinct

  refusal-found : {n : ℕ} {vs : List ℕ} → then_14 ≡ refused n vs → VerdictRefused d words n vs
  unfolding distinct_only distinct_judged
  refusal-found {n} {vs} e = go (judge d.axes words) refl
    where
      go : (o : Outcome Judged) → judge d.axes words ≡ o → VerdictRefused d words n vs
      go (done j) q = by j.answer (λ r. clash (sym (ap distinct_only r) ∙ (sym (told j q) ∙ e))) (sym (told j q) ∙ e)
        where
          by : (v : Verdict) → j.answer ≢ Distinct → distinct_only j.answer ≡ refused n vs → VerdictRefused d words n vs
          by v f r = let w = refused-inj (sym (others-refused j.answer f) ∙ r) in rw (← w.0, ← w.1) (fourteen j q f)
      go (refused m ws) q =
          let w = refused-inj (sym (bind-refused (λ j. distinct_only j.answer) q) ∙ e) in
          let r : judge d.axes words ≡ refused n vs = rw (← w.0, ← w.1) q in
          judge-refuses r (judge-refused d.axes words r)

  refusal_is : {n : ℕ} {vs : List ℕ} → VerdictRefused d words n vs → then_14 ≡ refused n vs
  unfolding distinct_judged
  refusal_is (eight o) = bind-refused _ (eight_is o)
  refusal_is (nine o h) = bind-refused _ ((verdict_claims.needed d.axes words (words_needed d.axes ∷ [])).1 (h, refl))
  refusal_is (fourteen j e f) = told j e ∙ others-refused j.answer f

  verdict-answers : Answers then_14 (IsJudgedDistinct d words) (VerdictRefused d words)
  verdict-answers = record { passes = (pass-found, pass-is); refuses = λ n vs. (refusal-found, refusal_is) }

-- ---- the call

module _ (s d : LayoutModel) (readings room words : ℕ) where
  abbrev Refused : ℕ → List ℕ → Type 0
  Refused = InOrder (IsSuited s d readings room) (SuitRefused s d readings room) (VerdictRefused d words)

  whole-answers : Answers (copy_refusal s d readings room words) (IsSuited s d readings room × IsJudgedDistinct d words) Refused
  unfolding copy_refusal
  whole-answers = then-answers (copy_handed s d readings room) _ (handed-answers s d readings room) (λ q. verdict-answers d words q.paired.destination_accepted)

  by-rule : {n : ℕ} {vs : List ℕ} → Refused n vs → CopyRefused s d readings room words n vs
  by-rule (sooner (sooner r)) = CopyRefused.handed_in r
  by-rule (sooner (later a (sooner (only f)))) = CopyRefused.extents_differ a.0 a.1 f
  by-rule (sooner (later a (later e (only f)))) = CopyRefused.buffer_short (record { source_accepted = a.0; destination_accepted = a.1; same_extents = e }) (not-held s d readings room a f)
  by-rule (later q (eight o)) = CopyRefused.too_full q o
  by-rule (later q (nine o h)) = CopyRefused.scratch_short q o h
  by-rule (later q (fourteen j e f)) = CopyRefused.not_distinct q j e f

  one-short : {A B : Type 0} → A ⊎ B → ¬ ((¬ A) × (¬ B))
  one-short (inl x) w = w.0 x
  one-short (inr y) w = w.1 y

  of-rule : {n : ℕ} {vs : List ℕ} → CopyRefused s d readings room words n vs → Refused n vs
  of-rule (CopyRefused.handed_in r) = sooner (sooner r)
  of-rule (CopyRefused.extents_differ a b f) = sooner (later (a, b) (sooner (only f)))
  of-rule (CopyRefused.buffer_short p f) = sooner (later (p.source_accepted, p.destination_accepted) (later p.same_extents (only (one-short f))))
  of-rule (CopyRefused.too_full q o) = later q (eight o)
  of-rule (CopyRefused.scratch_short q o h) = later q (nine o h)
  of-rule (CopyRefused.not_distinct q j e f) = later q (fourteen j e f)

  refuses : (number : ℕ) (values : List ℕ) → (copy_refusal s d readings room words ≡ refused number values) ↔ CopyRefused s d readings room words number values
  refuses number values = let a = whole-answers.refuses number values in (λ e. by-rule (a.0 e), λ r. a.1 (of-rule r))

  apart : copy_refusal s d readings room words ≡ pass → ¬ (SharesOffset d.axes)
  apart e =
      let p = (whole-answers.passes.0 e).1 in
      subst (λ (v : Verdict). Says v d.axes) p.distinct (verdict_claims.true_answer d.axes words p.judged p.judged_is)

  suits : copy_refusal s d readings room words ≡ pass → IsSuited s d readings room
  suits e = (whole-answers.passes.0 e).0

  -- ---- the words that are free

  frees : (j : Judged) → IsSuited s d readings room → judge d.axes words ≡ done j → copy_frees s d readings room words ≡ words_needed d.axes
  unfolding copy_frees freed_by ◌>>◌
  frees j q e = rw ((handed-answers s d readings room).passes.1 q, e) (verdict_claims.freed_are d.axes words j e)

  frees-none : (number : ℕ) (values : List ℕ) → copy_refusal s d readings room words ≡ refused number values → number ≢ 14 → copy_frees s d readings room words ≡ 0
  unfolding copy_frees copy_refusal freed_by distinct_only distinct_judged ◌>>◌ ◌>>=◌
  frees-none number values e f = go (copy_handed s d readings room) (judge d.axes words) e
    where
      no-other : (v : Verdict) → distinct_only v ≡ refused number values → ⊥
      no-other Distinct r = clash r
      no-other Repeated r = f (sym (refused-inj r).0)
      no-other Undecided r = f (sym (refused-inj r).0)

      go : (c : Check) (o : Outcome Judged) → (c >> (o >>= λ judged. distinct_only judged.answer)) ≡ refused number values → freed_by (c >> o) ≡ 0
      go (done u) (done j) r = absurd (no-other j.answer r)
      go (done u) (refused n vs) r = refl
      go (refused n vs) o r = refl

-- ---- what it leaves behind

pub copy_claims : CopyClaims
unfolding copy_after
copy_claims = record {
  refuses = refuses;
  passes = λ s d readings room words. (whole-answers s d readings room words).passes;
  apart = apart;
  same_index = λ s d readings room words k e. ap (λ (es : List ℕ). index_at es k) (suits s d readings room words e).paired.same_extents;
  place_is = λ s d readings room words k e h.
      let q = suits s d readings room words e in
      (cell-offset s q.paired.source_accepted k (rw (← ap product q.paired.same_extents) at h), cell-offset d q.paired.destination_accepted k h);
  there = λ s d from to words k e h.
      let q = suits s d (length from) (length to) words e in (
        cell_at-below s q.paired.source_accepted (length from) q.source_held k (rw (← ap product q.paired.same_extents) at h),
        slice_get-copies_written (cell_at s) (cell_at d) from (positions d.axes) to (cells-apart d q.paired.destination_accepted (apart s d (length from) (length to) words e))
            (cell_at-below d q.paired.destination_accepted (length to) q.destination_held) k h,
      );
  others = λ s d from to i f. slice_get-copies_other (cell_at s) (cell_at d) from (positions d.axes) to i f;
  as_long = λ s d from to. length-copies (cell_at s) (cell_at d) from (positions d.axes) to;
  refused_leaves = λ s d from to number values. refl;
  frees = frees;
  frees_none = frees-none;
}
