-- The signed equation x s + y t + z = 0 with |x| ≤ m and |y| ≤ n, said of the shifted unknowns u = x + m and v = y + n in ℕ.
use Rattle.std.proofs.Common.{◌≡◌, ℕ, suc, ◌*◌, ◌+◌, ◌-◌, ◌<◌, ◌≤◌, ap, arith}
use Rattle.std.specs.Prelude.{◌*ℤ◌, ◌+ℤ◌, ◌-ℤ◌, nat_abs, negsuc, pos, ℤ}
use native.Mathlib.Nat.{mul-le-mul_right}
use Rattle.integer.specs.Equation.{Solution}
use Rattle.integer.specs.Parts.{negative_part, positive_part}
use Rattle.std.proofs.lemmas.Int.{ints}

-- An integer u - m with u ≤ 2 m has a magnitude of at most m.
pub nat_abs-of-shifted : (z : ℤ) (u m : ℕ) → positive_part z + m ≡ u + negative_part z → u ≤ 2 * m → nat_abs z < suc m
nat_abs-of-shifted z u m e h = grind (arith, ints)

-- Neither part is above the magnitude.
pub negative_part-of-nat_abs : (z : ℤ) (m : ℕ) → nat_abs z < suc m → negative_part z ≤ m
negative_part-of-nat_abs z m h = grind (arith, ints)

pub positive_part-of-nat_abs : (z : ℤ) (m : ℕ) → nat_abs z < suc m → positive_part z ≤ m
positive_part-of-nat_abs z m h = grind (arith, ints)

-- u - m, by its parts.
pub shifted : (u m : ℕ) → positive_part (pos u -ℤ pos m) + m ≡ u + negative_part (pos u -ℤ pos m)
shifted u m = omega (arith, ints)

-- The equation by its parts.
pub parts-of-equation : (x y z : ℤ) (s t : ℕ) → (x *ℤ pos s +ℤ y *ℤ pos t) +ℤ z ≡ pos 0
    → positive_part x * s + positive_part y * t + positive_part z ≡ negative_part x * s + negative_part y * t + negative_part z
parts-of-equation x y z s t e = omega (arith, ints)

-- With c = m s + n t - z: the signed equation has a solution if u s + v t = c has one with u ≤ 2 m and v ≤ 2 n.
module _ (s t m n : ℕ) (z : ℤ) where
  pub signed-of-solution : (c u v : ℕ) → pos (m * s + n * t) -ℤ z ≡ pos c → u * s + v * t ≡ c
      → ((pos u -ℤ pos m) *ℤ pos s +ℤ (pos v -ℤ pos n) *ℤ pos t) +ℤ z ≡ pos 0
  signed-of-solution c u v e q = omega (arith, ints, ap (λ (k : ℕ). k * s) (shifted u m), ap (λ (k : ℕ). k * t) (shifted v n))

  pub solution-of-signed : (c : ℕ) (x y : ℤ) → pos (m * s + n * t) -ℤ z ≡ pos c → nat_abs x < suc m → nat_abs y < suc n → (x *ℤ pos s +ℤ y *ℤ pos t) +ℤ z ≡ pos 0
      → Solution s t (2 * m) (2 * n) c
  solution-of-signed c x y e hx hy q =
      let ex : positive_part x + m - negative_part x + negative_part x ≡ positive_part x + m = omega (arith, negative_part-of-nat_abs x m hx) in
      let ey : positive_part y + n - negative_part y + negative_part y ≡ positive_part y + n = omega (arith, negative_part-of-nat_abs y n hy) in
      record {
        u = positive_part x + m - negative_part x;
        v = positive_part y + n - negative_part y;
        u_within = omega (arith, positive_part-of-nat_abs x m hx);
        v_within = omega (arith, positive_part-of-nat_abs y n hy);
        sum = omega (arith, ints, ap (λ (k : ℕ). k * s) ex, ap (λ (k : ℕ). k * t) ey);
      }

  -- and none if c would be negative
  pub no-signed-above : (c : ℕ) (x y : ℤ) → pos (m * s + n * t) -ℤ z ≡ negsuc c → nat_abs x < suc m → nat_abs y < suc n → (x *ℤ pos s +ℤ y *ℤ pos t) +ℤ z ≡ pos 0 → ⊥
  no-signed-above c x y e hx hy q = omega (arith, ints, mul-le-mul_right s (negative_part-of-nat_abs x m hx), mul-le-mul_right t (negative_part-of-nat_abs y n hy))
