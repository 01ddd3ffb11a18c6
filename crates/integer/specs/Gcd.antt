-- The greatest common divisor: Euclid's remainders, and the claim that pins them to the name.
use Rattle.std.specs.Prelude.{◌%◌, suc, zero, ℕ}
use Rattle.std.specs.Int.{IsGcd}

-- Euclid's remainders, so many steps at most.
unfoldable pub gcd_within : ℕ → ℕ → ℕ → ℕ
gcd_within zero a b = a
gcd_within (suc steps) a zero = a
gcd_within (suc steps) a (suc b) = gcd_within steps (suc b) (a % suc b)

-- The second number falls at every step, so as many steps as it says are enough.
unfoldable pub gcd : ℕ → ℕ → ℕ
gcd a b = gcd_within b a b

-- What is proved of `gcd`: it divides both, and every number that divides both divides it. Of 0 and 0 it is 0, which every number divides.
pub record GcdClaims : Type 0 where
  pub is_gcd : (a b : ℕ) → IsGcd a b (gcd a b)
