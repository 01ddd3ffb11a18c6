-- What is tested before the verdict on the destination: when it passes, and how it refuses.
use Rattle.std.specs.Prelude.{Bool, true, false, not, ◌||◌, List, [], ◌⊎◌, ◌↔◌, ◌≡◌, ℕ, nat_eq}
use mathlib.Core.Logic.{inl, inr}
use mathlib.Core.Path.{refl}
use lib.Pointwise.{pointwise, bytes_decides}
use borrow.Author.Tests.{not-false}
use Rattle.specification.specs.Axis.{extents}
use Rattle.specification.specs.Layout.{LayoutModel, IsAccepted}
use Rattle.specification.specs.Readings.{is_too_short, IsTooShort, handed_both, HandedBothRefused}
use Rattle.specification.proofs.ReachLaws.{or-false}
use Rattle.specification.proofs.AnswerRules.{Answers, Only, InOrder, restated, test-answers, then-answers}
use Rattle.specification.proofs.BothLaws.{both-answers}
use Rattle.specification.proofs.ReadingLaws.{is_too_short-found, held-tested}
use Rattle.copying.specs.Copy.{copy_handed}
use Rattle.copying.specs.CopyClaims.{IsSuited}

-- 12: the same numbers
same-tested : (xs ys : List ℕ) → (not (pointwise nat_eq xs ys) ≡ false) ↔ (xs ≡ ys)
same-tested xs ys = (λ e. (bytes_decides xs ys).0 (not-false (pointwise nat_eq xs ys) e), λ e. rw ((bytes_decides xs ys).1 e) refl)

module _ (s d : LayoutModel) (readings room : ℕ) where
  abbrev pub Both : Type 0
  Both = IsAccepted s × IsAccepted d

  abbrev pub Same : Type 0
  Same = extents s.axes ≡ extents d.axes

  abbrev pub Held : Type 0
  Held = (¬ (IsTooShort s readings)) × (¬ (IsTooShort d room))

  room-tested : Both → ((is_too_short s readings || is_too_short d room) ≡ false) ↔ Held
  room-tested a = (
    λ e. let w = or-false (is_too_short s readings) (is_too_short d room) e in ((held-tested s a.0 readings).0 w.0, (held-tested d a.1 room).0 w.1),
    λ f. rw ((held-tested s a.0 readings).1 f.0, (held-tested d a.1 room).1 f.1),
  )

  abbrev pub SuitRefused : ℕ → List ℕ → Type 0
  SuitRefused = InOrder Both (HandedBothRefused s d) (InOrder Same (Only 12 [] Same) (Only 13 [] Held))

  suited : Both × (Same × Held) → IsSuited s d readings room
  suited w = record { paired = record { source_accepted = w.0.0; destination_accepted = w.0.1; same_extents = w.1.0 }; source_held = w.1.1.0; destination_held = w.1.1.1 }

  pub handed-answers : Answers (copy_handed s d readings room) (IsSuited s d readings room) SuitRefused
  unfolding copy_handed
  handed-answers = restated
      (then-answers (handed_both s d) _ (both-answers s d) (λ a. then-answers _ _ (test-answers (not (pointwise nat_eq (extents s.axes) (extents d.axes))) 12 [] (same-tested (extents s.axes) (extents d.axes)))
      (λ e. test-answers (is_too_short s readings || is_too_short d room) 13 [] (room-tested a))))
      suited (λ q. ((q.paired.source_accepted, q.paired.destination_accepted), (q.paired.same_extents, (q.source_held, q.destination_held)))) (λ n vs r. r) (λ n vs r. r)

  -- which buffer is meant
  pub not-held : Both → ¬ Held → IsTooShort s readings ⊎ IsTooShort d room
  not-held a f = go (is_too_short s readings) refl (is_too_short d room) refl
    where
      go : (t : Bool) → is_too_short s readings ≡ t → (u : Bool) → is_too_short d room ≡ u → IsTooShort s readings ⊎ IsTooShort d room
      go true e u q = inl (is_too_short-found s a.0 readings e)
      go false e true q = inr (is_too_short-found d a.1 room q)
      go false e false q = absurd (f ((held-tested s a.0 readings).0 e, (held-tested d a.1 room).0 q))
