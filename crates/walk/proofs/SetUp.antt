-- What Euclid's steps leave for two axes.
use Rattle.std.proofs.Common.{◌≡◌, ℕ, ◌+◌, ◌*◌, ◌-◌, ◌/◌, ◌%◌, ◌<◌, ◌≤◌, sym, ap, arith}
use native.Mathlib.Nat.{div-mul_cancel, mul-le-mul_right}
use Rattle.integer.specs.Gcd.{gcd}
use Rattle.integer.specs.Congruence.{IsGcdInverse}
use Rattle.integer.proofs.Congruence.{mod-of-congruent}
use Rattle.integer.proofs.GcdLaws.{gcd-divides-left, gcd-divides-right, gcd-pos}

module _ (a b g inverse : ℕ) (k : IsGcdInverse a b g inverse) where
  pub divisor_facts : 0 < a → (0 < g) × (a / g * g ≡ a) × (b / g * g ≡ b) × (inverse * a % b ≡ g % b)
  divisor_facts h = (
    rw k.is_gcd (gcd-pos a b h),
    rw k.is_gcd (div-mul_cancel (gcd a b) {m = a} (gcd-divides-left a b)),
    rw k.is_gcd (div-mul_cancel (gcd a b) {m = b} (gcd-divides-right a b)),
    sym (mod-of-congruent b g (inverse * a) k.multiple),
  )

  pub window_low : 0 < a → (d : ℕ) → 1 < d → d ≤ b / gcd a b → g * (d - 1) < b
  window_low h d l f =
      let e : d ≤ b / g = rw k.is_gcd f in
      let o : d - 1 + 1 ≡ d = omega arith in
      omega (arith, divisor_facts h, mul-le-mul_right g e, ap (λ (y : ℕ). g * y) o)
