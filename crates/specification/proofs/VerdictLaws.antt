-- The claims on the verdict, put together: truth, refusals, words, and the public call.
use Rattle.std.specs.List.{list_any}
use mathlib.Core.Path.{◌≡◌, refl, sym, ap, ◌∙◌}
use mathlib.Core.Bool.{Bool, true, false, ◌||◌}
use mathlib.Core.Logic.{◌≢◌, ◌⊎◌, inl, inr, ◌↔◌}
use mathlib.Core.List.{List, [], ◌∷◌}
use Prim.Native.Nat.{ℕ, ◌<◌, ◌≤◌}
use native.Mathlib.Omega.{arith}
use lib.Dec.{ltb}
use lib.IntN.{ℤ}
use lib.ListN.{length}
use borrow.Author.Tests.{lt-ltb, le-ltb, eq-eqb, ne_eqb}
use Rattle.specification.specs.Axis.{Axis, axes_of_lists, is_empty}
use Rattle.specification.specs.Outcome.{refused, refuse_if, ◌>>◌}
use Rattle.specification.specs.Normal.{overfull}
use Rattle.specification.specs.Verdict.{still, is_out_of_range, carry_out, judge, verdict, words_needed}
use Rattle.specification.specs.VerdictClaims.{VerdictClaims, VerdictCallClaims}
use Rattle.specification.proofs.OutcomeLaws.{bind-refused, refuse-yes}
pub use Rattle.specification.proofs.VerdictTruth.{true_answer, only_undecided}
pub use Rattle.specification.proofs.VerdictRefusals.{needed-no}
use Rattle.specification.proofs.VerdictRefusals.{Refusal, plan-eight, plan-three, judge-refused}
pub use Rattle.specification.proofs.VerdictWords.{words_claims}
use Rattle.specification.proofs.VerdictWords.{freed_are}
use Rattle.std.proofs.lemmas.Int.{ints}

-- ---- each refusal, and where it stands

module _ (axes : List Axis) (words : ℕ) where
  is-eight : {n : ℕ} {vs : List ℕ} → Refusal axes words n vs → n ≡ 8 → (overfull axes ≡ true) × (vs ≡ [])
  is-eight o e = grind (arith, ints)

  is-three : {n : ℕ} {vs : List ℕ} → Refusal axes words n vs → n ≡ 3 → (is_empty axes ≡ false) × (overfull axes ≡ false) × (list_any still axes ≡ false) × (is_out_of_range axes ≡ true) × (vs ≡ [])
  is-three o e = grind (arith, ints)

  is-nine : {n : ℕ} {vs : List ℕ} → Refusal axes words n vs → n ≡ 9 → (words < words_needed axes) × (vs ≡ words_needed axes ∷ [])
  is-nine o e = grind (arith, ints)

  one_of_three : {n : ℕ} {vs : List ℕ} → Refusal axes words n vs → (n ≡ 8) ⊎ ((n ≡ 3) ⊎ (n ≡ 9))
  one_of_three o = grind (arith, ints)

  with_values : {n : ℕ} {vs ws : List ℕ} → judge axes words ≡ refused n vs → ws ≡ vs → judge axes words ≡ refused n ws
  with_values {n} e q = e ∙ ap (refused n) (sym q)

  judge-eight : (vs : List ℕ) → (judge axes words ≡ refused 8 vs) ↔ (overfull axes ≡ true) × (vs ≡ [])
  unfolding judge
  judge-eight vs = (λ e. is-eight (judge-refused axes words e) refl, λ w. with_values (bind-refused (carry_out words) (plan-eight axes w.0)) w.1)

  judge-three : (vs : List ℕ) → (judge axes words ≡ refused 3 vs) ↔ (is_empty axes ≡ false) × (overfull axes ≡ false) × (list_any still axes ≡ false) × (is_out_of_range axes ≡ true) × (vs ≡ [])
  unfolding judge
  judge-three vs = (λ e. is-three (judge-refused axes words e) refl, λ w. with_values (bind-refused (carry_out words) (plan-three axes w.0 w.1 w.2 w.3)) w.4)

  judge-nine : (vs : List ℕ) → (judge axes words ≡ refused 9 vs) ↔ (words < words_needed axes) × (vs ≡ words_needed axes ∷ [])
  judge-nine vs = (λ e. is-nine (judge-refused axes words e) refl, λ w. with_values (needed-no axes words (words_needed axes) refl w.0) w.1)

pub verdict_claims : VerdictClaims
verdict_claims = record {
  true_answer = true_answer;
  only_undecided = only_undecided;
  eight = judge-eight;
  three = judge-three;
  needed = judge-nine;
  no_other = λ axes words n vs e. one_of_three axes words (judge-refused axes words e);
  freed_are = freed_are;
}

-- ---- the public call

either : (s t : Bool) → (s ≡ true) ⊎ (t ≡ true) → (s || t) ≡ true
either s t e = grind (arith, ints)

call-one : (extents : List ℕ) (strides : List ℤ) (words : ℕ) → (16 < length extents) ⊎ (16 < length strides) → verdict extents strides words ≡ refused 1 []
unfolding verdict
call-one extents strides words h = refuse-yes 1 [] _ (either (ltb 16 (length extents)) (ltb 16 (length strides)) (go h))
  where
    go : (16 < length extents) ⊎ (16 < length strides) → (ltb 16 (length extents) ≡ true) ⊎ (ltb 16 (length strides) ≡ true)
    go (inl k) = inl (lt-ltb 16 (length extents) k)
    go (inr k) = inr (lt-ltb 16 (length strides) k)

call-two : (extents : List ℕ) (strides : List ℤ) (words : ℕ) → length extents ≤ 16 → length strides ≤ 16 → length extents ≢ length strides → verdict extents strides words ≡ refused 2 []
unfolding verdict refuse_if ◌>>◌
call-two extents strides words h k n = rw (le-ltb 16 (length extents) h, le-ltb 16 (length strides) k, ne_eqb (length extents) (length strides) n)

call-judged : (extents : List ℕ) (strides : List ℤ) (words : ℕ) → length extents ≤ 16 → length extents ≡ length strides → verdict extents strides words ≡ judge (axes_of_lists extents strides) words
unfolding verdict refuse_if ◌>>◌
call-judged extents strides words h e = rw (le-ltb 16 (length extents) h, le-ltb 16 (length strides) (omega arith), eq-eqb (length extents) (length strides) e)

pub verdict_call_claims : VerdictCallClaims
verdict_call_claims = record { one = call-one; two = call-two; then_judged = call-judged }
