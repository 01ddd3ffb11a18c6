-- Congruence modulo b, and the greatest common divisor as a multiple modulo b.
use Rattle.std.specs.Prelude.{◌≡◌, ℕ, ◌+◌, ◌*◌, ◌<◌}
use Rattle.integer.specs.Gcd.{gcd}

-- x and y differ by a multiple of b. Said by two multiples, one on each side, so that no difference need be taken.
pub record IsCongruent (b x y : ℕ) : Type 0 where
  pub p : ℕ
  pub q : ℕ
  pub eq : x + p * b ≡ y + q * b

-- g is the greatest common divisor of a and b, and is inverse times a modulo b. So inverse times a / g is 1 modulo b / g.
pub record IsGcdInverse (a b g inverse : ℕ) : Type 0 where
  pub is_gcd : g ≡ gcd a b
  pub below : inverse < b
  pub multiple : IsCongruent b g (inverse * a)
