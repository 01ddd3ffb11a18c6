-- What is accepted, what a call goes on with past 1 and 3, and what check-in lets pass: the claims on reach.
use Rattle.std.specs.List.{list_any}
use Rattle.std.specs.Prelude.{if◌then◌else◌, nat_lt}
use mathlib.Core.Bool.{Bool, true, false, not, ◌||◌}
use mathlib.Core.List.{List, [], ◌∷◌}
use mathlib.Core.Logic.{◌⊎◌, inl, inr, ◌↔◌}
use mathlib.Core.Path.{◌≡◌, refl}
use Prim.Native.Nat.{ℕ, ◌+◌, ◌<◌, ◌≤◌}
use native.Mathlib.Omega.{arith}
use lib.IntN.{pos}
use lib.Signed.{le_z, lt_z}
use borrow.Author.Tests.{not-false}
use Rattle.integer.specs.Range.{fits, most_signed}
use Rattle.specification.specs.Axis.{Axis, positions, is_empty, span, upward, downward}
use Rattle.specification.specs.Outcome.{pass, refused, refuse_if}
use Rattle.specification.specs.Layout.{LayoutModel, rank, IsAccepted, lowest, highest, is_in_reach, is_too_long, handed, HandedRefused, too_many, not_accepted}
use Rattle.specification.specs.CheckIn.{is_too_wide, bounds}
use Rattle.specification.specs.ReachClaims.{ReachClaims}
use Rattle.specification.proofs.NormalLaws.{full-pos, positions-pos, empty-none}
use Rattle.specification.proofs.ReachLaws.{reach_of, accepted-within, tested-yes, tested-no, Within, bounds-within, bounds-reach, spans_fit, fits-small}
use Rattle.specification.proofs.AnswerRules.{Answers, Only, only, InOrder, sooner, later, restated, test-answers, then-answers}
use Rattle.std.proofs.lemmas.Int.{ints}

-- a layout with no position is empty
none-empty : (axes : List Axis) → positions axes ≡ 0 → is_empty axes ≡ true
none-empty axes e = go (is_empty axes) refl
  where
    go : (t : Bool) → is_empty axes ≡ t → t ≡ true
    go true q = refl
    go false q = absurd (omega (arith, positions-pos (full-pos axes q)))

-- ---- past refusals 1 and 3

module _ (l : LayoutModel) (entries : ℕ) where
  abbrev Few : Type 0
  Few = (rank l ≤ 16) × (entries ≤ 16)

  -- the tests of refusals 1 and 3
  few-tested : ((is_too_long l.axes || nat_lt 16 entries) ≡ false) ↔ Few
  few-tested = grind (arith, ints)

  reach-tested : rank l ≤ 16 → (not (is_in_reach l) ≡ false) ↔ IsAccepted l
  reach-tested n = (λ e. tested-no l n (not-false (is_in_reach l) e), λ a. rw (tested-yes l a))

  not-few : ¬ Few → (16 < rank l) ⊎ (16 < entries)
  not-few f = grind (arith, ints)

  pub handed-answers : Answers (handed l entries) (IsAccepted l × (entries ≤ 16)) (HandedRefused l entries)
  unfolding handed
  handed-answers = restated
      (then-answers (refuse_if (is_too_long l.axes || nat_lt 16 entries) 1 []) (refuse_if (not (is_in_reach l)) 3 []) (test-answers (is_too_long l.axes || nat_lt 16 entries) 1 [] few-tested) (λ w. test-answers (not (is_in_reach l)) 3 [] (reach-tested w.0)))
      (λ w. (w.1, w.0.1)) (λ w. ((w.0.few, w.1), w.0)) (λ n vs o. to o) (λ n vs o. from o)
    where
      to : {n : ℕ} {vs : List ℕ} → InOrder Few (Only 1 [] Few) (Only 3 [] (IsAccepted l)) n vs → HandedRefused l entries n vs
      to (sooner (only f)) = too_many (not-few f)
      to (later w (only f)) = not_accepted w.0 w.1 f

      exceeds : (16 < rank l) ⊎ (16 < entries) → ¬ Few
      exceeds (inl h) w = omega arith
      exceeds (inr h) w = omega arith

      from : {n : ℕ} {vs : List ℕ} → HandedRefused l entries n vs → InOrder Few (Only 1 [] Few) (Only 3 [] (IsAccepted l)) n vs
      from (too_many s) = sooner (only (exceeds s))
      from (not_accepted h k f) = later (h, k) (only f)

-- ---- check-in

-- if the spans together fit, each fits
spans-within : (axes : List Axis) → upward axes + downward axes ≤ most_signed → list_any (λ a. not (fits (span a))) axes ≡ false
unfolding upward downward
spans-within [] h = refl
spans-within (a ∷ rest) h = rw (fits-small (span a) (omega arith) (omega arith), spans-within rest (omega arith))

module _ (l : LayoutModel) where
  -- refusal 3 of a layout that is not empty
  five_cases : Bool
  five_cases = list_any is_too_wide l.axes || list_any (λ a. not (fits (span a))) l.axes || lt_z (pos most_signed) (highest l) || lt_z (lowest l) (pos 0) || le_z (pos l.buffer) (highest l)

  -- an accepted layout with no extent too wide is in none of the five cases
  no-case : is_empty l.axes ≡ false → IsAccepted l → list_any is_too_wide l.axes ≡ false → five_cases ≡ false
  unfolding five_cases
  no-case e a w =
      let r = accepted-within l e a in
      grind (arith, ints, w, spans-within l.axes (spans_fit l e a), r.w_low, r.w_most, r.w_in)

  bounds-wide : bounds l ≡ pass → (is_empty l.axes ≡ true) ⊎ (list_any is_too_wide l.axes ≡ false)
  bounds-wide q = go (bounds-within l q)
    where
      go : (is_empty l.axes ≡ true) ⊎ ((list_any is_too_wide l.axes ≡ false) × Within l) → (is_empty l.axes ≡ true) ⊎ (list_any is_too_wide l.axes ≡ false)
      go (inl e) = inl e
      go (inr w) = inr w.0

  bounds-pass : IsAccepted l → (is_empty l.axes ≡ true) ⊎ (list_any is_too_wide l.axes ≡ false) → bounds l ≡ pass
  unfolding bounds five_cases refuse_if
  bounds-pass a (inl e) = rw e
  bounds-pass a (inr w) = go (is_empty l.axes) refl
    where
      go : (t : Bool) → is_empty l.axes ≡ t → (if t then pass else refuse_if five_cases 3 []) ≡ pass
      go true e = refl
      go false e = rw (no-case e a w)

  only-three : {n : ℕ} {vs : List ℕ} → bounds l ≡ refused n vs → (3 ≡ n) × ([] ≡ vs)
  unfolding bounds five_cases refuse_if
  only-three e = grind (arith, ints)

-- check-in has one refusal
pub data BoundsRefused (l : LayoutModel) : ℕ → List ℕ → Type 0 where
  out_of_bounds : bounds l ≡ refused 3 [] → BoundsRefused l 3 []

pub bounds-answers : (l : LayoutModel) → Answers (bounds l) (bounds l ≡ pass) (BoundsRefused l)
bounds-answers l = record { passes = (λ e. e, λ e. e); refuses = λ n vs. (λ e. three e, λ r. equation r) }
  where
    equation : {n : ℕ} {vs : List ℕ} → BoundsRefused l n vs → bounds l ≡ refused n vs
    equation (out_of_bounds e) = e

    three : {n : ℕ} {vs : List ℕ} → bounds l ≡ refused n vs → BoundsRefused l n vs
    three {n} {vs} e =
        let w = only-three l e in
        let q : bounds l ≡ refused 3 [] = cc in
        rw (← w.0, ← w.1) (out_of_bounds q)

pub reach_claims : ReachClaims
reach_claims = record {
  reach = reach_of;
  empty_is = λ l. (empty-none l.axes, none-empty l.axes);
  tested = λ l. (λ a. (a.few, tested-yes l a), λ w. tested-no l w.0 w.1);
  handed_passes = λ l entries. (handed-answers l entries).passes;
  handed_refuses = λ l entries. (handed-answers l entries).refuses;
  checked = λ l n. (λ q. (tested-no l n (bounds-reach l q), bounds-wide l q), λ w. bounds-pass l w.0 w.1);
}
