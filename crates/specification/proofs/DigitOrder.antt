-- The difference vectors stand in the order of the numbers whose digits they are: vector k is the one of number k, and the middle one is zero.
use mathlib.Core.Path.{◌≡◌, refl, sym, ap, ap₂, subst, ◌∙◌}
use mathlib.Core.List.{List, [], ◌∷◌}
use Prim.Native.Nat.{ℕ, zero, suc, ◌+◌, ◌-◌, ◌*◌, ◌<◌}
use native.Mathlib.Omega.{arith}
use lib.IntN.{ℤ, pos, nat_abs, ◌+ℤ◌, ◌-ℤ◌, -ℤ-+ℤ_cancel}
use lib.ListN.{length, get_or}
use Rattle.integer.specs.Parts.{positive_part, negative_part}
use Rattle.integer.proofs.SignedEquation.{nat_abs-of-shifted, positive_part-of-nat_abs, shifted}
use Rattle.specification.specs.Search.{ActiveAxis, lengths, widths, box, half, from_digits, difference_at}
use Rattle.specification.specs.Verdict.{block_of, others_of}
use Rattle.specification.specs.CountClaims.{number_of_digits, IsSmall, NoneEmpty, DigitClaims}
use Rattle.specification.proofs.Positions.{IndexVector, empty, ◌and◌, place}
use Rattle.specification.proofs.Digits.{PositiveExtents, none, more, index_at-within, place-index_at, index_at-place, place-lt}
use Rattle.specification.proofs.Differences.{no_difference}
use Rattle.specification.proofs.DifferenceWalk.{widths-positive, no_difference-within, middle, half-half}
use Rattle.specification.proofs.Sorting.{each-two-at}
use Rattle.specification.proofs.SearchLaws.{half_is}
use Rattle.specification.proofs.AxisNumbers.{others-ascend}
use Rattle.std.proofs.lemmas.Int.{ints}

-- the axis that is read past the end of a list
abbrev no_axis : ActiveAxis
no_axis = record { axis = 0; extent = 0; stride = 0 }

none-empty : (others : List ActiveAxis) → NoneEmpty others → PositiveExtents (lengths others)
none-empty [] h = none
none-empty (a ∷ r) h = more (h 0 (omega arith)) (none-empty r (λ i k. h (suc i) (omega arith)))

-- ---- digits of differences

-- the digits delta + extent - 1
digits_of : List ActiveAxis → List ℤ → List ℕ
digits_of [] deltas = []
digits_of (a ∷ rest) [] = []
digits_of (a ∷ rest) (d ∷ deltas) = nat_abs (d +ℤ pos (a.extent - 1)) ∷ digits_of rest deltas

number-is-place : (others : List ActiveAxis) (deltas : List ℤ) → number_of_digits others deltas ≡ place (widths others) (digits_of others deltas)
unfolding number_of_digits place digits_of
number-is-place [] deltas = refl
number-is-place (a ∷ r) [] = refl
number-is-place (a ∷ r) (d ∷ deltas) = ap (λ (n : ℕ). nat_abs (d +ℤ pos (a.extent - 1)) + (2 * a.extent - 1) * n) (number-is-place r deltas)

digits-of-digits : (others : List ActiveAxis) {digits : List ℕ} → IndexVector (widths others) digits → digits_of others (from_digits others digits) ≡ digits
unfolding digits_of from_digits
digits-of-digits [] empty = refl
digits-of-digits (a ∷ r) (◌and◌ {i = i} h b) = ap₂ (λ (x : ℕ) (y : List ℕ). x ∷ y) (ap nat_abs (-ℤ-+ℤ_cancel (pos i) (pos (a.extent - 1)))) (digits-of-digits r b)

-- a difference d of at most m, sign aside, has the digit d + m
digit-is : (d : ℤ) (m : ℕ) → nat_abs d < suc m → nat_abs (d +ℤ pos m) + negative_part d ≡ positive_part d + m
digit-is d m h = grind (arith, ints)

difference-of-digit : (d : ℤ) (m : ℕ) → nat_abs d < suc m → pos (nat_abs (d +ℤ pos m)) -ℤ pos m ≡ d
difference-of-digit d m h = omega (arith, ints, digit-is d m h)

-- ---- small differences

-- each difference is below its extent, axis by axis
data EachSmall : List ActiveAxis → List ℤ → Type 0 where
  none_left : EachSmall [] []
  small_and : {a : ActiveAxis} {d : ℤ} {r : List ActiveAxis} {deltas : List ℤ} → nat_abs d < a.extent → EachSmall r deltas → EachSmall (a ∷ r) (d ∷ deltas)

each-small : (others : List ActiveAxis) (deltas : List ℤ) → IsSmall others deltas → EachSmall others deltas
each-small [] [] s = none_left
each-small [] (d ∷ deltas) s = absurd (omega (arith, s.0))
each-small (a ∷ r) [] s = absurd (omega (arith, s.0))
each-small (a ∷ r) (d ∷ deltas) s = small_and (s.1 0 (omega arith)) (each-small r deltas (omega (arith, s.0), λ i h. s.1 (suc i) (omega arith)))

digits-within : {others : List ActiveAxis} {deltas : List ℤ} → EachSmall others deltas → IndexVector (widths others) (digits_of others deltas)
unfolding digits_of
digits-within none_left = empty
digits-within (small_and {a} {d} h t) =
    let k : nat_abs d < suc (a.extent - 1) = omega arith in
    let z : nat_abs (d +ℤ pos (a.extent - 1)) < 2 * a.extent - 1 = omega (arith, digit-is d (a.extent - 1) k, positive_part-of-nat_abs d (a.extent - 1) k) in
    ◌and◌ z (digits-within t)

differences-of-digits : {others : List ActiveAxis} {deltas : List ℤ} → EachSmall others deltas → from_digits others (digits_of others deltas) ≡ deltas
unfolding digits_of from_digits
differences-of-digits none_left = refl
differences-of-digits (small_and {a} {d} h t) = ap₂ (λ (x : ℤ) (y : List ℤ). x ∷ y) (difference-of-digit d (a.extent - 1) (omega arith)) (differences-of-digits t)

differences-small : (others : List ActiveAxis) {digits : List ℕ} → IndexVector (widths others) digits → IsSmall others (from_digits others digits)
unfolding from_digits
differences-small [] empty = (refl, λ i h. absurd (omega arith))
differences-small (a ∷ r) (◌and◌ {i = d} {is = digits} k b) = let s = differences-small r b in (ap suc s.0, go s)
  where
    go : IsSmall r (from_digits r digits) → (i : ℕ) → i < length (a ∷ r) → nat_abs (get_or ((pos d -ℤ pos (a.extent - 1)) ∷ from_digits r digits) i (pos 0)) < (get_or (a ∷ r) i no_axis).extent
    go s zero h = omega (arith, nat_abs-of-shifted (pos d -ℤ pos (a.extent - 1)) d (a.extent - 1) (shifted d (a.extent - 1)) (omega arith))
    go s (suc i) h = s.1 i (omega arith)

-- ---- the zero vector

no-difference-zero : (others : List ActiveAxis) (i : ℕ) → get_or (from_digits others (no_difference others)) i (pos 0) ≡ pos 0
unfolding from_digits
no-difference-zero [] i = refl
no-difference-zero (a ∷ r) zero = omega (arith, ints)
no-difference-zero (a ∷ r) (suc i) = no-difference-zero r i

half-is-zero : (others : List ActiveAxis) → PositiveExtents (lengths others) → difference_at others (half others) ≡ from_digits others (no_difference others)
unfolding middle
half-is-zero others h = ap (λ (k : ℕ). difference_at others k) (half_is others h) ∙ ap (from_digits others) (index_at-place (no_difference-within others h))

-- ---- the claims

pub digit_claims : DigitClaims
digit_claims = record {
  small = λ others k n h. differences-small others (index_at-within (widths-positive others (none-empty others n)) k h);
  number = λ others k n h. let p = widths-positive others (none-empty others n) in
      number-is-place others (difference_at others k) ∙ ap (place (widths others)) (digits-of-digits others (index_at-within p k h)) ∙ place-index_at p k h;
  every = λ others deltas s. let e = number-is-place others deltas in let t = each-small others deltas s in let b = digits-within t in (
    subst (λ (k : ℕ). k < box others) (sym e) (place-lt b),
    ap (λ (k : ℕ). difference_at others k) e ∙ ap (from_digits others) (index_at-place b) ∙ differences-of-digits t,
  );
  zero_at_half = λ others n i. ap (λ (deltas : List ℤ). get_or deltas i (pos 0)) (half-is-zero others (none-empty others n)) ∙ no-difference-zero others i;
  as_many_above = λ others n. omega (arith, half_is others (none-empty others n), half-half others (none-empty others n));
  ascending = λ axes i h. each-two-at (λ a b. a.axis < b.axis) (others_of (block_of axes)) (others-ascend axes) i no_axis h;
}
