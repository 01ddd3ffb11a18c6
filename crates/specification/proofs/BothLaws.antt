-- What a call on two layouts tests first: when it passes, and how it refuses.
use Rattle.std.specs.Prelude.{Bool, true, false, not, ◌&&◌, ◌||◌, List, [], ◌⊎◌, ◌↔◌, ◌≡◌, ℕ, ◌<◌, ◌≤◌}
use mathlib.Core.Logic.{inl, inr}
use mathlib.Core.Path.{refl, sym, subst, ◌∙◌}
use native.Mathlib.Decide.{dec_lt}
use native.Mathlib.Omega.{arith}
use lib.Dec.{T}
use borrow.Author.Tests.{ltb-false, le-ltb, not-false}
use Rattle.specification.specs.Layout.{LayoutModel, rank, IsAccepted, is_in_reach, is_too_long}
use Rattle.specification.specs.Readings.{handed_both, HandedBothRefused, too_many, not_accepted}
use Rattle.specification.proofs.ReachLaws.{and-true, or-false, tested-yes, tested-no}
use Rattle.specification.proofs.AnswerRules.{Answers, Only, only, InOrder, sooner, later, restated, test-answers, then-answers}

module _ (x y : LayoutModel) where
  abbrev Few : Type 0
  Few = (rank x ≤ 16) × (rank y ≤ 16)

  abbrev Both : Type 0
  Both = IsAccepted x × IsAccepted y

  few-tested : ((is_too_long x.axes || is_too_long y.axes) ≡ false) ↔ Few
  few-tested = (
    λ e. let w = or-false (is_too_long x.axes) (is_too_long y.axes) e in (ltb-false 16 (rank x) w.0, ltb-false 16 (rank y) w.1),
    λ w. rw (le-ltb 16 (rank x) w.0, le-ltb 16 (rank y) w.1),
  )

  reach-tested : Few → (not (is_in_reach x && is_in_reach y) ≡ false) ↔ Both
  reach-tested f = (
    λ e. let w = and-true (is_in_reach x) (is_in_reach y) (not-false (is_in_reach x && is_in_reach y) e) in (tested-no x f.0 w.0, tested-no y f.1 w.1),
    λ a. rw (tested-yes x a.0, tested-yes y a.1),
  )

  -- which of the two is meant
  not-few : ¬ Few → (16 < rank x) ⊎ (16 < rank y)
  not-few f = go (dec_lt 16 (rank x)) (dec_lt 16 (rank y))
    where
      go : Dec (16 < rank x) → Dec (16 < rank y) → (16 < rank x) ⊎ (16 < rank y)
      go (yes h) k = inl h
      go (no h) (yes k) = inr k
      go (no h) (no k) = absurd (f (omega arith))

  not-both : Few → ¬ Both → (¬ (IsAccepted x)) ⊎ (¬ (IsAccepted y))
  not-both w f = go (is_in_reach x) refl
    where
      go : (t : Bool) → is_in_reach x ≡ t → (¬ (IsAccepted x)) ⊎ (¬ (IsAccepted y))
      go true e = inr (λ a. f (tested-no x w.0 e, a))
      go false e = inl (λ a. subst T (sym (tested-yes x a) ∙ e) tt)

  pub both-answers : Answers (handed_both x y) Both (HandedBothRefused x y)
  unfolding handed_both
  both-answers = restated
      (then-answers _ _ (test-answers (is_too_long x.axes || is_too_long y.axes) 1 [] few-tested) (λ f. test-answers (not (is_in_reach x && is_in_reach y)) 3 [] (reach-tested f)))
      (λ w. w.1) (λ a. ((a.0.few, a.1.few), a)) (λ n vs r. to r) (λ n vs r. from r)
    where
      Refused : ℕ → List ℕ → Type 0
      Refused = InOrder Few (Only 1 [] Few) (Only 3 [] Both)

      to : {n : ℕ} {vs : List ℕ} → Refused n vs → HandedBothRefused x y n vs
      to (sooner (only f)) = too_many (not-few f)
      to (later w (only f)) = not_accepted w.0 w.1 (not-both w f)

      exceeds : (16 < rank x) ⊎ (16 < rank y) → ¬ Few
      exceeds (inl h) w = omega arith
      exceeds (inr h) w = omega arith

      either : (¬ (IsAccepted x)) ⊎ (¬ (IsAccepted y)) → ¬ Both
      either (inl f) a = f a.0
      either (inr f) a = f a.1

      from : {n : ℕ} {vs : List ℕ} → HandedBothRefused x y n vs → Refused n vs
      from (too_many s) = sooner (only (exceeds s))
      from (not_accepted h k s) = later (h, k) (only (either s))
