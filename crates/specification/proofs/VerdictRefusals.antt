-- The verdict is refused 8, 3 or 9 and nothing else, each exactly if the rules have it.
use Rattle.std.specs.List.{list_any}
use Rattle.std.specs.Prelude.{if◌then◌else◌}
use mathlib.Core.Path.{◌≡◌, refl, ap, subst₂, ◌∙◌}
use mathlib.Core.Bool.{Bool, true, false}
use mathlib.Core.List.{List, [], ◌∷◌}
use Prim.Native.Nat.{ℕ, ◌<◌}
use native.Mathlib.Omega.{arith}
use lib.Dec.{ltb}
use borrow.Author.Tests.{ltb-true, lt-ltb}
use Rattle.integer.specs.Range.{most_unsigned}
use Rattle.specification.specs.Tests.{is_yes}
use Rattle.specification.specs.Axis.{Axis, positions, is_empty}
use Rattle.specification.specs.Outcome.{Outcome, done, refused, ◌>>=◌}
use Rattle.specification.specs.Normal.{overfull}
use Rattle.specification.specs.Search.{total, span_sum, words_for}
use Rattle.specification.specs.Decided.{same_sum?}
use Rattle.specification.specs.Verdict.{Judged, Distinct, Repeated, Plan, answered, enumerated, still, is_out_of_range, plan_of, carry_out, judge, words_of, words_needed}
use Rattle.specification.proofs.OutcomeLaws.{clash, Where, here, later, where-refused, refuse-yes, refused-inj}
use Rattle.specification.proofs.OnePosition.{one-in-range}
use Rattle.specification.proofs.PlanCases.{PlanCase, when_empty, when_overfull, when_one, when_still, when_out, by_block, plan-case, contrary}

-- ---- a plan is refused 8 or 3

empty-not-overfull : (axes : List Axis) → is_empty axes ≡ true → overfull axes ≡ false
unfolding overfull
empty-not-overfull axes e = ap (λ (t : Bool). if t then false else ltb most_unsigned (positions axes)) e

pub plan-eight : (axes : List Axis) → overfull axes ≡ true → plan_of axes ≡ refused 8 []
plan-eight axes h = go (plan_of axes) (plan-case axes)
  where
    go : (o : Outcome Plan) → PlanCase axes o → o ≡ refused 8 []
    go _ (when_empty e) = contrary (empty-not-overfull axes e) h
    go _ (when_overfull f o) = refl
    go _ (when_one f o e) = contrary o h
    go _ (when_still f o e) = contrary o h
    go _ (when_out f o s e) = contrary o h
    go _ (by_block t c) = contrary t.not_eight h

pub plan-three : (axes : List Axis) → is_empty axes ≡ false → overfull axes ≡ false → list_any still axes ≡ false → is_out_of_range axes ≡ true → plan_of axes ≡ refused 3 []
plan-three axes f o s h = go (plan_of axes) (plan-case axes)
  where
    go : (p : Outcome Plan) → PlanCase axes p → p ≡ refused 3 []
    go _ (when_empty e) = contrary f e
    go _ (when_overfull f e) = contrary o e
    go _ (when_one f o e) = contrary (one-in-range axes f e) h
    go _ (when_still f o e) = contrary s e
    go _ (when_out f o s e) = refl
    go _ (by_block t c) = contrary t.not_three h

-- ---- the verdict is refused 8, 3 or 9

-- the three, with where each stands and what it returns
pub data Refusal (axes : List Axis) (words : ℕ) : ℕ → List ℕ → Type 0 where
  eight : overfull axes ≡ true → Refusal axes words 8 []
  three : is_empty axes ≡ false → overfull axes ≡ false → list_any still axes ≡ false → is_out_of_range axes ≡ true → Refusal axes words 3 []
  nine : words < words_needed axes → Refusal axes words 9 (words_needed axes ∷ [])

module _ (axes : List Axis) (words : ℕ) where
  refusal_is : {n m : ℕ} {vs ws : List ℕ} → Refusal axes words n vs → ◌≡◌ {A = Outcome Judged} (refused n vs) (refused m ws) → Refusal axes words m ws
  refusal_is r e = let w = refused-inj e in subst₂ (Refusal axes words) w.0 w.1 r

  carried-refused : (p : Plan) {n : ℕ} {vs : List ℕ} → plan_of axes ≡ done p → carry_out words p ≡ refused n vs → Refusal axes words n vs
  unfolding carry_out words_of
  carried-refused (answered v c) q e = absurd (clash e)
  carried-refused (enumerated block) {n} {vs} q e = go (where-refused (ltb words need) e)
    where
      need : ℕ
      need = words_for (total block) (span_sum block)

      go : Where (ltb words need) 9 (need ∷ []) {B = Judged} (done (record { answer = if is_yes (same_sum? block) then Repeated else Distinct; count = 0; freed = need })) n vs → Refusal axes words n vs
      go (here t m v) =
          let w : words_needed axes ≡ need = ap words_of q in
          subst₂ (Refusal axes words) m (ap (λ (k : ℕ). k ∷ []) w ∙ v) (nine (omega (arith, ltb-true words need t)))
      go (later t m) = absurd (clash m)

  pub judge-refused : {n : ℕ} {vs : List ℕ} → judge axes words ≡ refused n vs → Refusal axes words n vs
  unfolding judge ◌>>=◌
  judge-refused {n} {vs} e = go (plan_of axes) refl (plan-case axes) e
    where
      go : (o : Outcome Plan) → plan_of axes ≡ o → PlanCase axes o → o >>= carry_out words ≡ refused n vs → Refusal axes words n vs
      go (done p) q k e = carried-refused p q e
      go (refused m ws) q (when_overfull f o) e = refusal_is (eight o) e
      go (refused m ws) q (when_out f o s r) e = refusal_is (three f o s r) e

  pub needed-no : (w : ℕ) → words_needed axes ≡ w → words < w → judge axes words ≡ refused 9 (w ∷ [])
  unfolding judge ◌>>=◌ words_of carry_out
  needed-no w e h = go (plan_of axes) e
    where
      go : (o : Outcome Plan) → words_of o ≡ w → o >>= carry_out words ≡ refused 9 (w ∷ [])
      go (done (answered v c)) q = absurd (omega arith)
      go (done (enumerated b)) q = refuse-yes 9 (words_for (total b) (span_sum b) ∷ []) _ (lt-ltb words (words_for (total b) (span_sum b)) (omega arith)) ∙ ap (λ (k : ℕ). refused 9 (k ∷ [])) q
      go (refused n vs) q = absurd (omega arith)
