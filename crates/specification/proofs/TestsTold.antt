-- Each test holds exactly if what it tests is so: of one axis, then of some axis, then of the verdict's causes of refusal 3 together.
use Rattle.std.specs.List.{list_any}
use Rattle.std.specs.Prelude.{if◌then◌else◌}
use mathlib.Core.Bool.{Bool, true, false, not, ◌&&◌, ◌||◌}
use mathlib.Core.List.{List, [], ◌∷◌}
use mathlib.Core.Logic.{◌⊎◌, inl, inr, ◌↔◌}
use mathlib.Core.Path.{◌≡◌, refl}
use Prim.Native.Nat.{ℕ, zero, suc, ◌-◌, ◌^◌, ◌<◌, ◌≤◌}
use native.Mathlib.Omega.{arith}
use lib.Dec.{eqb, ltb, leb}
use lib.IntN.{ℤ, pos, negsuc, neg_ℤ}
use lib.ListN.{length}
use mir.Syntax.{w64}
use mir.Val.{SFits}
use borrow.Author.Tests.{ltb-true, lt-ltb, leb-true, le-leb, eqb-true, eq-eqb}
use Rattle.std.specs.Int.{FitsUnsigned}
use Rattle.std.specs.Ordering.{int_eq}
use Rattle.integer.specs.Range.{fits, most_signed, most_unsigned}
use Rattle.integer.proofs.PartLaws.{fits-of-sfits, sfits-of-fits}
use Rattle.specification.specs.Axis.{Axis, positions, is_empty, active, span, upward, downward}
use Rattle.specification.specs.CheckIn.{is_too_wide}
use Rattle.specification.specs.Views.{axis_at}
use Rattle.specification.specs.Normal.{overfull}
use Rattle.specification.specs.Verdict.{is_out_of_range}
use Rattle.specification.specs.TestClaims.{SomeAxis, IsOutOfRange, wide, span_out, upward_out, downward_out, least_stride, TestClaims}
use Rattle.specification.proofs.ReachLaws.{and-true}
use Rattle.specification.proofs.TestLaws.{true-not-false}
use Rattle.std.proofs.lemmas.Bool.Decides.{Decides-int_eq}
use Rattle.std.proofs.lemmas.Int.{ints}

-- ---- tests on tests

pub or-holds : (s t : Bool) {P Q : Type 0} → ((s ≡ true) ↔ P) → ((t ≡ true) ↔ Q) → ((s || t) ≡ true) ↔ (P ⊎ Q)
or-holds s t h k = grind (arith, ints)

pub and-holds : {P Q : Type 0} (s t : Bool) → ((s ≡ true) ↔ P) → ((t ≡ true) ↔ Q) → ((s && t) ≡ true) ↔ (P × Q)
and-holds s t h k = (λ e. let w = and-true s t e in (h.0 w.0, k.0 w.1), λ w. rw (h.1 w.0, k.1 w.1))

pub not-holds : {P : Type 0} (t : Bool) → ((t ≡ true) ↔ P) → (not t ≡ true) ↔ (¬ P)
not-holds t h = grind (arith, ints)

ltb-holds : (a b : ℕ) → (ltb a b ≡ true) ↔ (a < b)
ltb-holds a b = (ltb-true a b, lt-ltb a b)

pub leb-holds : (a b : ℕ) → (leb a b ≡ true) ↔ (a ≤ b)
leb-holds a b = (leb-true a b, le-leb a b)

pub eqb-holds : (a b : ℕ) → (eqb a b ≡ true) ↔ (a ≡ b)
eqb-holds a b = (eqb-true a b, eq-eqb a b)

int_eq-holds : (x y : ℤ) → (int_eq x y ≡ true) ↔ (x ≡ y)
int_eq-holds x y = Decides-int_eq x y

pub in_range : (z : ℤ) → (fits z ≡ true) ↔ SFits w64 z
in_range z = (sfits-of-fits z, fits-of-sfits z)

pub in_word : (n : ℕ) → (n ≤ most_unsigned) ↔ FitsUnsigned w64 (pos n)
in_word n = (λ h. omega (arith, ints), λ h. omega (arith, ints, h.1))

-- ---- some axis

pub list_any-axis : (test : Axis → Bool) {So : Axis → Type 0} → ((a : Axis) → (test a ≡ true) ↔ So a) → (axes : List Axis) → (list_any test axes ≡ true) ↔ SomeAxis axes So
list_any-axis test h [] = (λ e. absurd (true-not-false e refl), λ w. absurd (omega (arith, w.in_rank)))
list_any-axis test {So} h (a ∷ rest) =
    let w = or-holds (test a) (list_any test rest) (h a) (list_any-axis test h rest) in
    (λ e. found (w.0 e), λ s. w.1 (split s.axis s.in_rank s.is_so))
  where
    found : So a ⊎ SomeAxis rest So → SomeAxis (a ∷ rest) So
    found (inl p) = record { axis = 0; in_rank = omega arith; is_so = p }
    found (inr s) = record { axis = suc s.axis; in_rank = omega (arith, s.in_rank); is_so = s.is_so }

    split : (i : ℕ) → i < length (a ∷ rest) → So (axis_at (a ∷ rest) i) → So a ⊎ SomeAxis rest So
    split zero l p = inl p
    split (suc i) l p = inr (record { axis = i; in_rank = omega arith; is_so = p })

empty : (axes : List Axis) → (is_empty axes ≡ true) ↔ SomeAxis axes (λ a. a.extent ≡ 0)
unfolding is_empty
empty = list_any-axis (λ a. eqb a.extent 0) (λ a. eqb-holds a.extent 0)

pub too_wide : (axes : List Axis) → (list_any is_too_wide axes ≡ true) ↔ SomeAxis axes (λ a. (1 < a.extent) × (most_signed < a.extent - 1))
too_wide = list_any-axis is_too_wide (λ a. and-holds (active a) (ltb most_signed (a.extent - 1)) (ltb-holds 1 a.extent) (ltb-holds most_signed (a.extent - 1)))

-- an active axis of stride s
active-stride : (s : ℤ) (axes : List Axis) → (list_any (λ a. active a && int_eq a.stride s) axes ≡ true) ↔ SomeAxis axes (λ a. (1 < a.extent) × (a.stride ≡ s))
active-stride s = list_any-axis (λ a. active a && int_eq a.stride s) (λ a. and-holds (active a) (int_eq a.stride s) (ltb-holds 1 a.extent) (int_eq-holds a.stride s))

over : (axes : List Axis) → (overfull axes ≡ true) ↔ (¬ (SomeAxis axes (λ a. a.extent ≡ 0))) × (most_unsigned < positions axes)
unfolding overfull
over axes = go (is_empty axes) (empty axes)
  where
    go : (t : Bool) → ((t ≡ true) ↔ SomeAxis axes (λ a. a.extent ≡ 0)) → ((if t then false else ltb most_unsigned (positions axes)) ≡ true) ↔ (¬ (SomeAxis axes (λ a. a.extent ≡ 0))) × (most_unsigned < positions axes)
    go true h = (λ e. absurd (true-not-false e refl), λ w. absurd (w.0 (h.0 refl)))
    go false h = (λ e. (λ s. true-not-false (h.1 s) refl, ltb-true most_unsigned (positions axes) e), λ w. lt-ltb most_unsigned (positions axes) w.1)

-- ---- the verdict's refusal 3

above_most : (n : ℕ) → (not (fits (pos n)) ≡ true) ↔ (most_signed < n)
above_most n = grind (arith, ints)

below-least : (n : ℕ) → (not (fits (neg_ℤ (pos n))) ≡ true) ↔ (2 ^ 63 < n)
below-least n = grind (arith, ints)

module _ (axes : List Axis) where
  abbrev Wide : Type 0
  Wide = SomeAxis axes (λ a. (1 < a.extent) × (most_signed < a.extent - 1))

  abbrev SpanOut : Type 0
  SpanOut = SomeAxis axes (λ a. ¬ (SFits w64 (span a)))

  abbrev LeastStride : Type 0
  LeastStride = SomeAxis axes (λ a. (1 < a.extent) × (a.stride ≡ negsuc most_signed))

  five-causes : (is_out_of_range axes ≡ true) ↔ ((((Wide ⊎ SpanOut) ⊎ (most_signed < upward axes)) ⊎ (2 ^ 63 < downward axes)) ⊎ LeastStride)
  unfolding is_out_of_range
  five-causes = or-holds _ _ (or-holds _ _ (or-holds _ _ (or-holds _ _ (too_wide axes) (list_any-axis (λ a. not (fits (span a))) (λ a. not-holds (fits (span a)) (in_range (span a))) axes)) (above_most (upward axes))) (below-least (downward axes))) (active-stride (negsuc most_signed) axes)

  out_of_range : (is_out_of_range axes ≡ true) ↔ IsOutOfRange axes
  out_of_range = (λ e. cause (five-causes.0 e), λ o. five-causes.1 (of-cause o))
    where
      cause : (((Wide ⊎ SpanOut) ⊎ (most_signed < upward axes)) ⊎ (2 ^ 63 < downward axes)) ⊎ LeastStride → IsOutOfRange axes
      cause (inl (inl (inl (inl s)))) = wide s
      cause (inl (inl (inl (inr s)))) = span_out s
      cause (inl (inl (inr h))) = upward_out h
      cause (inl (inr h)) = downward_out h
      cause (inr s) = least_stride s

      of-cause : IsOutOfRange axes → (((Wide ⊎ SpanOut) ⊎ (most_signed < upward axes)) ⊎ (2 ^ 63 < downward axes)) ⊎ LeastStride
      of-cause (wide s) = inl (inl (inl (inl s)))
      of-cause (span_out s) = inl (inl (inl (inr s)))
      of-cause (upward_out h) = inl (inl (inr h))
      of-cause (downward_out h) = inl (inr h)
      of-cause (least_stride s) = inr s

pub test_claims : TestClaims
test_claims = record {
  in_range = in_range;
  in_word = in_word;
  empty = empty;
  over = over;
  too_wide = too_wide;
  stands_still = active-stride (pos 0);
  out_of_range = out_of_range;
}
