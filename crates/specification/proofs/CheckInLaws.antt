-- Check-in and the call of the normal form pass and refuse exactly as the rules say.
use Rattle.std.specs.List.{list_any}
use Rattle.std.specs.Prelude.{if◌then◌else◌}
use mathlib.Core.Bool.{Bool, true, false, not, ◌||◌}
use mathlib.Core.List.{List, [], ◌∷◌}
use mathlib.Core.Logic.{◌⊎◌, inl, inr, ◌↔◌}
use mathlib.Core.Path.{◌≡◌, refl, sym, ap, ◌∙◌}
use Prim.Native.Nat.{ℕ, ◌-◌, ◌<◌, ◌≤◌}
use native.Mathlib.Omega.{arith}
use lib.Dec.{T, eqb}
use lib.IntN.{ℤ, pos}
use lib.ListN.{length}
use lib.Signed.{◌≤ℤ◌, ◌<ℤ◌, le_z, lt_z}
use mir.Syntax.{w64}
use mir.Val.{SFits}
use Rattle.integer.specs.Range.{fits, most_signed}
use Rattle.specification.specs.Axis.{Axis, extents, strides, axes_of_lists, is_empty, span}
use Rattle.specification.specs.Outcome.{Check, done, pass, refuse_if, ◌>>◌}
use Rattle.specification.specs.Layout.{LayoutModel, lowest, highest, IsAccepted, is_too_long, handed, HandedRefused}
use Rattle.specification.specs.CheckIn.{is_too_wide, bounds, check_in}
use Rattle.specification.specs.Normal.{overfull, normal_of, normal_form}
use Rattle.specification.specs.TestClaims.{SomeAxis}
use Rattle.specification.specs.CheckInClaims.{IsOutOfBounds, wide, span_out, too_high, too_low, past_buffer, layout_of, CheckInRefused, IsCheckedIn, CheckInClaims, NormalRefused, handed_in, overfull_is, NormalCallClaims}
use Rattle.specification.specs.CheckInClaims as claims
use Rattle.specification.proofs.TestLaws.{true-not-false}
use Rattle.specification.proofs.TestsTold.{or-holds, not-holds, list_any-axis, too_wide, in_range}
use Rattle.specification.proofs.ReachClaimed.{handed-answers}
use Rattle.specification.proofs.OutcomeLaws.{clash}
use Rattle.specification.proofs.AnswerRules.{Answers, Only, only, InOrder, sooner, later, restated, test-answers, then-answers, then-assoc, done-after, equal-tested}
use Rattle.std.proofs.lemmas.Int.{ints}

-- ---- the five cases

-- a test that holds is its value
holds : (t : Bool) → (t ≡ true) ↔ T t
holds t = grind (arith, ints)

lt_z-holds : (x y : ℤ) → (lt_z x y ≡ true) ↔ (x <ℤ y)
lt_z-holds x y = (λ e. record { lt = (holds (lt_z x y)).0 e }, λ h. (holds (lt_z x y)).1 h.lt)

le_z-holds : (x y : ℤ) → (le_z x y ≡ true) ↔ (x ≤ℤ y)
le_z-holds x y = (λ e. record { le = (holds (le_z x y)).0 e }, λ h. (holds (le_z x y)).1 h.le)

module _ (l : LayoutModel) where
  abbrev Wide : Type 0
  Wide = SomeAxis l.axes (λ a. (1 < a.extent) × (most_signed < a.extent - 1))

  abbrev SpanOut : Type 0
  SpanOut = SomeAxis l.axes (λ a. ¬ (SFits w64 (span a)))

  abbrev tested : Bool
  tested = list_any is_too_wide l.axes || list_any (λ a. not (fits (span a))) l.axes || lt_z (pos most_signed) (highest l) || lt_z (lowest l) (pos 0) || le_z (pos l.buffer) (highest l)

  five-cases : (tested ≡ true) ↔ IsOutOfBounds l
  five-cases = (λ e. case (split.0 e), λ o. split.1 (of-case o))
    where
      split : (tested ≡ true) ↔ ((((Wide ⊎ SpanOut) ⊎ (pos most_signed <ℤ highest l)) ⊎ (lowest l <ℤ pos 0)) ⊎ (pos l.buffer ≤ℤ highest l))
      split = or-holds _ _ (or-holds _ _ (or-holds _ _ (or-holds _ _ (too_wide l.axes) (list_any-axis (λ a. not (fits (span a))) (λ a. not-holds (fits (span a)) (in_range (span a))) l.axes)) (lt_z-holds (pos most_signed) (highest l))) (lt_z-holds (lowest l) (pos 0))) (le_z-holds (pos l.buffer) (highest l))

      case : ((((Wide ⊎ SpanOut) ⊎ (pos most_signed <ℤ highest l)) ⊎ (lowest l <ℤ pos 0)) ⊎ (pos l.buffer ≤ℤ highest l)) → IsOutOfBounds l
      case (inl (inl (inl (inl s)))) = wide s
      case (inl (inl (inl (inr s)))) = span_out s
      case (inl (inl (inr h))) = too_high h
      case (inl (inr h)) = too_low h
      case (inr h) = past_buffer h

      of-case : IsOutOfBounds l → ((((Wide ⊎ SpanOut) ⊎ (pos most_signed <ℤ highest l)) ⊎ (lowest l <ℤ pos 0)) ⊎ (pos l.buffer ≤ℤ highest l))
      of-case (wide s) = inl (inl (inl (inl s)))
      of-case (span_out s) = inl (inl (inl (inr s)))
      of-case (too_high h) = inl (inl (inr h))
      of-case (too_low h) = inl (inr h)
      of-case (past_buffer h) = inr h

  -- the bounds alone: 3 exactly if the layout is not empty and in one of the five cases
  pub data BoundsOut : ℕ → List ℕ → Type 0 where
    out : is_empty l.axes ≡ false → IsOutOfBounds l → BoundsOut 3 []

  pub bounds-tell : Answers (bounds l) ((is_empty l.axes ≡ true) ⊎ (¬ (IsOutOfBounds l))) BoundsOut
  unfolding bounds
  bounds-tell = go (is_empty l.axes) refl tested five-cases
    where
      go : (t : Bool) → is_empty l.axes ≡ t → (u : Bool) → ((u ≡ true) ↔ IsOutOfBounds l) → Answers (if t then pass else refuse_if u 3 []) ((is_empty l.axes ≡ true) ⊎ (¬ (IsOutOfBounds l))) BoundsOut
      go true e u h = record { passes = (λ q. inl e, λ w. refl); refuses = λ n vs. (λ q. absurd (clash q), λ o. absurd (full o)) }
        where
          full : {n : ℕ} {vs : List ℕ} → BoundsOut n vs → ⊥
          full (out f o) = true-not-false e f
      go false e u h = restated (test-answers u 3 [] (no-case u h)) (λ f. inr f) (λ w. second w) (λ n vs o. to o) (λ n vs o. from o)
        where
          no-case : (u : Bool) → ((u ≡ true) ↔ IsOutOfBounds l) → (u ≡ false) ↔ (¬ (IsOutOfBounds l))
          no-case true h = (λ q. absurd (true-not-false refl q), λ f. absurd (f (h.0 refl)))
          no-case false h = (λ q o. true-not-false (h.1 o) refl, λ f. refl)

          second : (is_empty l.axes ≡ true) ⊎ (¬ (IsOutOfBounds l)) → ¬ (IsOutOfBounds l)
          second (inl q) = absurd (true-not-false q e)
          second (inr f) = f

          there : (u : Bool) → ((u ≡ true) ↔ IsOutOfBounds l) → ¬ (¬ (IsOutOfBounds l)) → IsOutOfBounds l
          there true h f = h.0 refl
          there false h f = absurd (f (λ o. true-not-false (h.1 o) refl))

          to : {n : ℕ} {vs : List ℕ} → Only 3 [] (¬ (IsOutOfBounds l)) n vs → BoundsOut n vs
          to (only f) = out e (there u h f)

          from : {n : ℕ} {vs : List ℕ} → BoundsOut n vs → Only 3 [] (¬ (IsOutOfBounds l)) n vs
          from (out f o) = only (λ g. g o)

-- ---- what is done if a check passes

done-passes : {B : Type 0} (c : Check) (x y : B) → (c >> done x ≡ done y) ↔ ((c ≡ pass) × (x ≡ y))
unfolding ◌>>◌
done-passes c x y = grind (arith, ints)

-- ---- check-in

module _ (buffer : ℕ) (offset : ℤ) (extents : List ℕ) (strides : List ℤ) where
  abbrev l : LayoutModel
  l = layout_of buffer offset extents strides

  abbrev Few : Type 0
  Few = (length extents ≤ 16) × (length strides ≤ 16)

  few-tested : ((is_too_long extents || is_too_long strides) ≡ false) ↔ Few
  few-tested = grind (arith, ints)

  not-few : ¬ Few → (16 < length extents) ⊎ (16 < length strides)
  not-few f = grind (arith, ints)

  abbrev first : Check
  first = refuse_if (is_too_long extents || is_too_long strides) 1 []

  abbrev second : Check
  second = refuse_if (not (eqb (length extents) (length strides))) 2 []

  tell : Answers (first >> second >> bounds l) (IsCheckedIn buffer offset extents strides) (CheckInRefused buffer offset extents strides)
  tell = restated
      (then-answers first (second >> bounds l) (test-answers (is_too_long extents || is_too_long strides) 1 [] few-tested)
      (λ w. then-answers second (bounds l) (test-answers (not (eqb (length extents) (length strides))) 2 [] (equal-tested (length extents) (length strides))) (λ e. bounds-tell l)))
      (λ w. record { few = w.0.0; as_many = w.1.0; in_bounds = w.1.1 })
      (λ c. ((c.few, omega (arith, c.few, c.as_many)), (c.as_many, c.in_bounds)))
      (λ n vs o. to o) (λ n vs o. from o)
    where
      to : {n : ℕ} {vs : List ℕ} → InOrder Few (Only 1 [] Few) (InOrder (length extents ≡ length strides) (Only 2 [] (length extents ≡ length strides)) (BoundsOut l)) n vs → CheckInRefused buffer offset extents strides n vs
      to (sooner (only f)) = claims.too_many (not-few f)
      to (later w (sooner (only f))) = claims.wrong_length w.0 w.1 f
      to (later w (later e (out f o))) = claims.out_of_bounds w.0 e f o

      exceeds : (16 < length extents) ⊎ (16 < length strides) → ¬ Few
      exceeds (inl h) w = omega arith
      exceeds (inr h) w = omega arith

      from : {n : ℕ} {vs : List ℕ} → CheckInRefused buffer offset extents strides n vs → InOrder Few (Only 1 [] Few) (InOrder (length extents ≡ length strides) (Only 2 [] (length extents ≡ length strides)) (BoundsOut l)) n vs
      from (claims.too_many s) = sooner (only (exceeds s))
      from (claims.wrong_length h k f) = later (h, k) (sooner (only f))
      from (claims.out_of_bounds h e f o) = later (h, omega (arith, h, e)) (later e (out f o))

  chained : check_in buffer offset extents strides ≡ (first >> second >> bounds l) >> done l
  unfolding check_in
  chained = sym (then-assoc first (second >> bounds l) (done l) ∙ rw (then-assoc second (bounds l) (done l)))

lists_of_axes : (axes : List Axis) → axes_of_lists (extents axes) (strides axes) ≡ axes
unfolding axes_of_lists
lists_of_axes [] = refl
lists_of_axes (a ∷ axes) = ap (λ (rest : List Axis). a ∷ rest) (lists_of_axes axes)

pub check_in_claims : CheckInClaims
check_in_claims = record {
  lists_of_axes = lists_of_axes;
  passes = λ b o es ss x.
      let w = done-passes (first b o es ss >> second b o es ss >> bounds (l b o es ss)) (l b o es ss) x in
      (λ e. let v = w.0 (sym (chained b o es ss) ∙ e) in ((tell b o es ss).passes.0 v.0, v.1), λ v. chained b o es ss ∙ w.1 ((tell b o es ss).passes.1 v.0, v.1));
  refuses = λ b o es ss n vs.
      let w = done-after (first b o es ss >> second b o es ss >> bounds (l b o es ss)) (l b o es ss) n vs in
      (λ e. ((tell b o es ss).refuses n vs).0 (w.0 (sym (chained b o es ss) ∙ e)), λ r. chained b o es ss ∙ w.1 (((tell b o es ss).refuses n vs).1 r));
}

-- ---- the normal form

module _ (l : LayoutModel) where
  abbrev eighth : Check
  eighth = refuse_if (overfull l.axes) 8 []

  normal-tells : Answers (handed l 0 >> eighth) (IsAccepted l × (overfull l.axes ≡ false)) (NormalRefused l)
  normal-tells = restated
      (then-answers (handed l 0) eighth (handed-answers l 0) (λ w. test-answers (overfull l.axes) 8 [] ((λ e. e, λ e. e))))
      (λ w. (w.0.0, w.1)) (λ w. ((w.0, omega arith), w.1)) (λ n vs o. to o) (λ n vs o. from o)
    where
      is-over : (t : Bool) → ¬ (t ≡ false) → t ≡ true
      is-over true f = refl
      is-over false f = absurd (f refl)

      to : {n : ℕ} {vs : List ℕ} → InOrder (IsAccepted l × (0 ≤ 16)) (HandedRefused l 0) (Only 8 [] (overfull l.axes ≡ false)) n vs → NormalRefused l n vs
      to (sooner h) = handed_in h
      to (later w (only f)) = overfull_is w.0 (is-over (overfull l.axes) f)

      from : {n : ℕ} {vs : List ℕ} → NormalRefused l n vs → InOrder (IsAccepted l × (0 ≤ 16)) (HandedRefused l 0) (Only 8 [] (overfull l.axes ≡ false)) n vs
      from (handed_in h) = sooner h
      from (overfull_is a e) = later (a, omega arith) (only (λ q. true-not-false e q))

  normal-chained : normal_form l ≡ (handed l 0 >> eighth) >> done (normal_of l)
  unfolding normal_form
  normal-chained = sym (then-assoc (handed l 0) eighth (done (normal_of l)))

pub normal_call_claims : NormalCallClaims
normal_call_claims = record {
  passes = λ l x.
      let w = done-passes (handed l 0 >> eighth l) (normal_of l) x in
      (λ e. let v = w.0 (sym (normal-chained l) ∙ e) in ((normal-tells l).passes.0 v.0, v.1), λ v. normal-chained l ∙ w.1 ((normal-tells l).passes.1 v.0, v.1));
  refuses = λ l n vs.
      let w = done-after (handed l 0 >> eighth l) (normal_of l) n vs in
      (λ e. ((normal-tells l).refuses n vs).0 (w.0 (sym (normal-chained l) ∙ e)), λ r. normal-chained l ∙ w.1 (((normal-tells l).refuses n vs).1 r));
}
