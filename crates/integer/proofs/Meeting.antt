-- When i₁ s₁ + i₂ s₂ takes a value twice, for i₁ and i₂ below bounds: the two-axis case of the verdict.
use Rattle.std.proofs.Common.{◌≡◌, ℕ, zero, suc, ◌*◌, ◌+◌, ◌-◌, ◌/◌, ◌<◌, ◌≤◌, ap, arith, sym}
use native.Mathlib.Decide.{dec_lt}
use native.Mathlib.Nat.{div-add-mod', dvd-mul_left, eq_of_mul-eq-mul_right, le_of_mul-le-mul_right, mul-lt-mul_of_pos_right, zero-mod}
use Rattle.integer.proofs.Congruence.{coefficient, coefficient-inverse, congruent-by-inverse, mod-of-congruent}
use Rattle.integer.proofs.GcdLaws.{gcd-pos, left_back, right-back, right-pos}
use Rattle.std.specs.Int.{◌∣◌}
use Rattle.integer.specs.Gcd.{gcd}

-- Two different pairs of numbers below d₁ and d₂ with equal sums i₁ s₁ + i₂ s₂.
pub record Meet (s₁ d₁ s₂ d₂ : ℕ) : Type 0 where
  pub i₁ : ℕ
  pub i₂ : ℕ
  pub j₁ : ℕ
  pub j₂ : ℕ
  pub i₁_below : i₁ < d₁
  pub i₂_below : i₂ < d₂
  pub j₁_below : j₁ < d₁
  pub j₂_below : j₂ < d₂
  pub other : ¬ ((i₁ ≡ j₁) × (i₂ ≡ j₂))
  pub same : i₁ * s₁ + i₂ * s₂ ≡ j₁ * s₁ + j₂ * s₂

at-least : (k a b x y : ℕ) → x ≡ k * b → y ≡ k * a → 0 < x → (b ≤ x) × (a ≤ y)
at-least zero a b x y e f h = absurd (omega arith)
at-least (suc k) a b x y e f h = (omega arith, omega arith)

module _ (s₁ s₂ : ℕ) (h₁ : 0 < s₁) (h₂ : 0 < s₂) where
  -- s₁ and s₂ without their greatest common divisor
  abbrev a : ℕ
  a = s₁ / gcd s₁ s₂

  abbrev b : ℕ
  b = s₂ / gcd s₁ s₂

  -- If x s₁ = y s₂, b divides x, and a divides y as often.
  pub common-multiple : (x y : ℕ) → x * s₁ ≡ y * s₂ → (x ≡ x / b * b) × (y ≡ x / b * a)
  common-multiple x y e =
      let times : (x * a) * gcd s₁ s₂ ≡ (y * b) * gcd s₁ s₂ = omega (arith, e, ap (λ (z : ℕ). x * z) (left_back s₁ s₂), ap (λ (z : ℕ). y * z) (right-back s₁ s₂)) in
      let same : x * a ≡ y * b = eq_of_mul-eq-mul_right (gcd s₁ s₂) (gcd-pos s₁ s₂ h₁) (x * a) (y * b) times in
      let none = congruent-by-inverse a b (coefficient s₁ s₂) x 0 (coefficient-inverse s₁ s₂ h₁ h₂) (record { p = 0; q = y; eq = omega (arith, same) }) in
      let whole : x ≡ x / b * b = omega (arith, div-add-mod' x b, mod-of-congruent b x 0 none, zero-mod b) in
      (whole, eq_of_mul-eq-mul_right b (right-pos s₁ s₂ h₂) y (x / b * a) (omega (arith, same, ap (λ (z : ℕ). z * a) whole)))

  -- They meet if both bounds are past the least common multiple: b s₁ is a s₂.
  pub meet-if : (d₁ d₂ : ℕ) → b < d₁ → a < d₂ → Meet s₁ d₁ s₂ d₂
  meet-if d₁ d₂ k₁ k₂ = record {
    i₁ = b;
    i₂ = 0;
    j₁ = 0;
    j₂ = a;
    i₁_below = k₁;
    i₂_below = omega arith;
    j₁_below = omega arith;
    j₂_below = k₂;
    other = λ w. omega (arith, w.0, right-pos s₁ s₂ h₂);
    same = omega (arith, ap (λ (z : ℕ). b * z) (left_back s₁ s₂), ap (λ (z : ℕ). a * z) (right-back s₁ s₂));
  }

  -- Equal sums with i₁ < j₁: the differences of the two are a common multiple, so they are at least b and a.
  meet-ordered : (d₁ d₂ i₁ i₂ j₁ j₂ : ℕ) → j₁ < d₁ → i₂ < d₂ → i₁ < j₁ → i₁ * s₁ + i₂ * s₂ ≡ j₁ * s₁ + j₂ * s₂ → (b < d₁) × (a < d₂)
  meet-ordered d₁ d₂ i₁ i₂ j₁ j₂ l₁ l₂ lt e =
      let t : i₁ * s₁ < j₁ * s₁ = mul-lt-mul_of_pos_right lt h₁ in
      let u : j₂ * s₂ ≤ i₂ * s₂ = omega arith in
      let v : j₂ ≤ i₂ = le_of_mul-le-mul_right u h₂ in
      let p : i₁ + (j₁ - i₁) ≡ j₁ = omega arith in
      let q : j₂ + (i₂ - j₂) ≡ i₂ = omega arith in
      let f : (j₁ - i₁) * s₁ ≡ (i₂ - j₂) * s₂ = omega (arith, ap (λ (z : ℕ). z * s₁) p, ap (λ (z : ℕ). z * s₂) q) in
      let m = common-multiple (j₁ - i₁) (i₂ - j₂) f in
      let n = at-least ((j₁ - i₁) / b) a b (j₁ - i₁) (i₂ - j₂) m.0 m.1 (omega arith) in
      (omega arith, omega arith)

  -- And only if.
  pub meet-only-if : (d₁ d₂ : ℕ) → Meet s₁ d₁ s₂ d₂ → (b < d₁) × (a < d₂)
  meet-only-if d₁ d₂ m = go (dec_lt m.i₁ m.j₁) (dec_lt m.j₁ m.i₁)
    where
      go : Dec (m.i₁ < m.j₁) → Dec (m.j₁ < m.i₁) → (b < d₁) × (a < d₂)
      go (yes p) d = meet-ordered d₁ d₂ m.i₁ m.i₂ m.j₁ m.j₂ m.j₁_below m.i₂_below p m.same
      go (no p) (yes q) = meet-ordered d₁ d₂ m.j₁ m.j₂ m.i₁ m.i₂ m.i₁_below m.j₂_below q (sym m.same)
      go (no p) (no q) =
          let e : m.i₁ ≡ m.j₁ = omega arith in
          let f : m.i₂ * s₂ ≡ m.j₂ * s₂ = omega (arith, m.same, ap (λ (z : ℕ). z * s₁) e) in
          absurd (m.other (e, eq_of_mul-eq-mul_right s₂ h₂ m.i₂ m.j₂ f))

of-multiple : (c k x : ℕ) → x ≡ k * c → c ∣ x
of-multiple c k x e = rw e (dvd-mul_left c k)

-- Euclid's lemma: if x a is a multiple of b, x is one of b without the greatest common divisor.
pub euclid-left : (x y a b : ℕ) → 0 < a → x * a ≡ y * b → b / gcd a b ∣ x
euclid-left zero y a b h e = of-multiple (b / gcd a b) 0 0 (omega arith)
euclid-left (suc x) y a zero h e = absurd (omega arith)
euclid-left (suc x) y a (suc b) h e = of-multiple (suc b / gcd a (suc b)) _ (suc x) (common-multiple a (suc b) h (omega arith) (suc x) y e).0
