-- An accepted layout of at most 2^64 - 1 positions is judged, or refused 9 for want of words: never 3 and never 8.
use Rattle.std.specs.Prelude.{if◌then◌else◌}
use mathlib.Core.Path.{◌≡◌, refl, sym, subst}
use mathlib.Core.Bool.{Bool, true, false}
use mathlib.Core.List.{[], ◌∷◌}
use Prim.Native.Nat.{ℕ, ◌<◌, ◌≤◌}
use native.Mathlib.Omega.{arith}
use lib.Dec.{ltb}
use borrow.Author.Tests.{ltb-true, ltb-false}
use Rattle.specification.specs.Tests.{is_yes}
use Rattle.specification.specs.Outcome.{Outcome, done, refused, ◌>>=◌}
use Rattle.specification.specs.Layout.{LayoutModel, IsAccepted}
use Rattle.specification.specs.Normal.{overfull}
use Rattle.specification.specs.Search.{total, span_sum, words_for}
use Rattle.specification.specs.Decided.{same_sum?}
use Rattle.specification.specs.Verdict.{Distinct, Repeated, Judged, Plan, answered, enumerated, carry_out, judge, words_of, words_needed}
use Rattle.specification.proofs.WriterLaws.{plan-done}
use Rattle.specification.proofs.OutcomeLaws.{refuse-yes, refuse-no}
use Rattle.std.proofs.lemmas.Int.{ints}

-- judged, with the words needed freed; or the words are too few
pub data Judging (need words : ℕ) (o : Outcome Judged) : Type 0 where
  is_judged : need ≤ words → (j : Judged) → o ≡ done j → j.freed ≡ need → Judging need words o
  too_few : words < need → o ≡ refused 9 (need ∷ []) → Judging need words o

carrying : (words : ℕ) (p : Plan) → Judging (words_of (done p)) words (carry_out words p)
unfolding words_of carry_out
carrying words (answered v c) = is_judged (omega arith) (record { answer = v; count = c; freed = 0 }) refl refl
carrying words (enumerated block) = go (ltb words need) refl
  where
    need : ℕ
    need = words_for (total block) (span_sum block)

    found : Judged
    found = record { answer = if is_yes (same_sum? block) then Repeated else Distinct; count = 0; freed = need }

    go : (t : Bool) → ltb words need ≡ t → Judging need words (carry_out words (enumerated block))
    go true e = too_few (ltb-true words need e) (refuse-yes 9 (need ∷ []) (done found) e)
    go false e = is_judged (ltb-false words need e) found (refuse-no 9 (need ∷ []) (done found) e) refl

pub judging : (l : LayoutModel) → IsAccepted l → overfull l.axes ≡ false → (words : ℕ) → Judging (words_needed l.axes) words (judge l.axes words)
unfolding judge ◌>>=◌
judging l a o words =
    let w = plan-done l a o in
    subst (λ (p : Outcome Plan). Judging (words_of p) words (p >>= carry_out words)) (sym w.1) (carrying words w.0)

-- what is judged frees the words needed
pub freed-is-needed : {need words : ℕ} {o : Outcome Judged} {j : Judged} → Judging need words o → o ≡ done j → j.freed ≡ need
freed-is-needed j e = grind (arith, ints)
