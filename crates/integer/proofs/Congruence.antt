-- Laws of congruence, each by two multiples that `omega` adds and cancels; and an inverse, by the coefficient that Euclid's remainders leave.
use Rattle.std.proofs.Common.{◌≡◌, ◌∙◌, ℕ, zero, suc, ◌%◌, ◌*◌, ◌+◌, ◌-◌, ◌/◌, ◌<◌, ap, arith, refl, sym}
use native.Mathlib.Nat.{add-mul-mod_self_right, div-add-mod', eq_of_mul-eq-mul_right, mod-eq_of_lt, mod-lt}
use Rattle.integer.proofs.GcdLaws.{gcd-pos, left_back, right-back}
-- passed on, so that a proof has the record and its laws from one place
pub use Rattle.integer.specs.Congruence.{IsCongruent}
use Rattle.integer.specs.Gcd.{gcd, gcd_within}

-- Two numbers are congruent if their remainders are equal.
pub congruent-of-mod : (b x y : ℕ) → x % b ≡ y % b → IsCongruent b x y
congruent-of-mod b x y e = record { p = y / b; q = x / b; eq = omega (arith, div-add-mod' x b, div-add-mod' y b) }

pub mod-of-congruent : (b x y : ℕ) → IsCongruent b x y → x % b ≡ y % b
mod-of-congruent b x y c = sym (add-mul-mod_self_right x c.p b) ∙ ap (λ (z : ℕ). z % b) c.eq ∙ add-mul-mod_self_right y c.q b

-- A remainder is congruent to the number itself, and of those below b it is the only one.
pub congruent-of-equal : (b r x : ℕ) → r ≡ x % b → IsCongruent b r x
congruent-of-equal b r x e = record { p = x / b; q = 0; eq = omega (arith, div-add-mod' x b) }

pub mod-congruent : (b x : ℕ) → IsCongruent b (x % b) x
mod-congruent b x = congruent-of-equal b (x % b) x refl

pub equal-of-congruent : (b r x : ℕ) → r < b → IsCongruent b r x → r ≡ x % b
equal-of-congruent b r x h c = sym (mod-eq_of_lt h) ∙ mod-of-congruent b r x c

-- It is an equivalence, and is kept by a product.
pub congruent-sym : {b x y : ℕ} → IsCongruent b x y → IsCongruent b y x
congruent-sym c = record { p = c.q; q = c.p; eq = sym c.eq }

pub congruent-trans : {b x y z : ℕ} → IsCongruent b x y → IsCongruent b y z → IsCongruent b x z
congruent-trans {b} {x} {y} {z} c d = record { p = c.p + d.p; q = c.q + d.q; eq = omega (arith, c.eq, d.eq) }

pub congruent-mul : {b x y : ℕ} (k : ℕ) → IsCongruent b x y → IsCongruent b (x * k) (y * k)
congruent-mul {b} {x} {y} k c = record { p = c.p * k; q = c.q * k; eq = omega (arith, ap (λ (z : ℕ). z * k) c.eq) }

-- A step of Euclid's with coefficients: if r₀ and r₁ are s₀ and s₁ times a, so is the remainder r₂ = r₀ - q r₁, with s₀ - q s₁.
euclid-step : (b a r₀ r₁ r₂ s₀ s₁ s₂ q : ℕ) → IsCongruent b r₀ (s₀ * a) → IsCongruent b r₁ (s₁ * a) → r₂ + q * r₁ ≡ r₀ → IsCongruent b (s₂ + q * s₁) s₀
    → IsCongruent b r₂ (s₂ * a)
euclid-step b a r₀ r₁ r₂ s₀ s₁ s₂ q c₀ c₁ e d =
    let m = congruent-mul a d in
    let k = congruent-mul q c₁ in
    record { p = c₀.p + k.q + m.q; q = c₀.q + k.p + m.p; eq = omega (arith, c₀.eq, k.eq, m.eq) }

-- x - y modulo b.
unfoldable pub sub_mod : ℕ → ℕ → ℕ → ℕ
sub_mod b x y = (x + (b - y % b)) % b

sub-mod : (b x y : ℕ) → 0 < b → IsCongruent b (sub_mod b x y + y) x
unfolding sub_mod
sub-mod b x y h = let l = mod-lt y h in
    record { p = (x + (b - y % b)) / b; q = y / b + 1; eq = omega (arith, div-add-mod' (x + (b - y % b)) b, div-add-mod' y b) }

-- Euclid's remainders, so many steps at most, with the coefficient of a that each has modulo b. The last one's is the answer.
unfoldable pub coefficient_within : ℕ → ℕ → ℕ → ℕ → ℕ → ℕ → ℕ
coefficient_within b zero r₀ r₁ s₀ s₁ = s₀
coefficient_within b (suc f) r₀ zero s₀ s₁ = s₀
coefficient_within b (suc f) r₀ (suc r₁) s₀ s₁ = coefficient_within b f (suc r₁) (r₀ % suc r₁) s₁ (sub_mod b s₀ (r₀ / suc r₁ * s₁))

-- So the answer times a is what `gcd_within` gives.
coefficient_within-is : (a b f r₀ r₁ s₀ s₁ : ℕ) → 0 < b → IsCongruent b r₀ (s₀ * a) → IsCongruent b r₁ (s₁ * a)
    → IsCongruent b (gcd_within f r₀ r₁) (coefficient_within b f r₀ r₁ s₀ s₁ * a)
unfolding coefficient_within gcd_within
coefficient_within-is a b zero r₀ r₁ s₀ s₁ h c₀ c₁ = c₀
coefficient_within-is a b (suc f) r₀ zero s₀ s₁ h c₀ c₁ = c₀
coefficient_within-is a b (suc f) r₀ (suc r₁) s₀ s₁ h c₀ c₁ =
    coefficient_within-is a b f (suc r₁) (r₀ % suc r₁) s₁ (sub_mod b s₀ (r₀ / suc r₁ * s₁)) h c₁
    (euclid-step b a r₀ (suc r₁) (r₀ % suc r₁) s₀ s₁ (sub_mod b s₀ (r₀ / suc r₁ * s₁)) (r₀ / suc r₁) c₀ c₁
    (omega (arith, div-add-mod' r₀ (suc r₁))) (sub-mod b s₀ (r₀ / suc r₁ * s₁) h))

-- The coefficient of a in the greatest common divisor of a and b, modulo b.
unfoldable pub coefficient : ℕ → ℕ → ℕ
coefficient a b = coefficient_within b b a b (1 % b) 0

coefficient-is : (a b : ℕ) → 0 < b → IsCongruent b (gcd a b) (coefficient a b * a)
unfolding coefficient gcd
coefficient-is a b h =
    let m = congruent-mul a (mod-congruent b 1) in
    coefficient_within-is a b b a b (1 % b) 0 h (record { p = m.q; q = m.p; eq = omega (arith, m.eq) }) (record { p = 0; q = 1; eq = omega arith })

-- If s times a is the greatest common divisor of a and b modulo b, s is an inverse of a / gcd modulo b / gcd.
pub inverse-divided : (a b s : ℕ) → 0 < a → IsCongruent b (gcd a b) (s * a) → IsCongruent (b / gcd a b) 1 (s * (a / gcd a b))
inverse-divided a b s h c = divided (gcd a b) a b (a / gcd a b) (b / gcd a b) (gcd-pos a b h) (left_back a b) (right-back a b) c
  where
    divided : (g a b x y : ℕ) → 0 < g → x * g ≡ a → y * g ≡ b → IsCongruent b g (s * a) → IsCongruent y 1 (s * x)
    divided g a b x y h e f c =
        let k : (1 + c.p * y) * g ≡ (s * x + c.q * y) * g = omega (arith, c.eq, ap (λ (z : ℕ). s * z) e, ap (λ (z : ℕ). c.p * z) f, ap (λ (z : ℕ). c.q * z) f) in
        record { p = c.p; q = c.q; eq = eq_of_mul-eq-mul_right g h (1 + c.p * y) (s * x + c.q * y) k }

pub coefficient-inverse : (a b : ℕ) → 0 < a → 0 < b → IsCongruent (b / gcd a b) 1 (coefficient a b * (a / gcd a b))
coefficient-inverse a b ha hb = inverse-divided a b (coefficient a b) ha (coefficient-is a b hb)

-- With an inverse s of a, the factor a cancels.
pub congruent-by-inverse : (a b s u w : ℕ) → IsCongruent b 1 (s * a) → IsCongruent b (u * a) (w * a) → IsCongruent b u w
congruent-by-inverse a b s u w i c =
    let k = congruent-mul s c in
    let x = congruent-mul u i in
    let y = congruent-mul w i in
    record { p = k.p + x.p + y.q; q = k.q + x.q + y.p; eq = omega (arith, k.eq, x.eq, y.eq) }

-- With an inverse s of a modulo b, the number u below b such that u a is c modulo b.
unfoldable pub root : ℕ → ℕ → ℕ → ℕ
root b s c = c % b * s % b

pub root_is : (a b s c : ℕ) → IsCongruent b 1 (s * a) → IsCongruent b (root b s c * a) c
unfolding root
root_is a b s c i =
    let x = congruent-mul a (mod-congruent b (c % b * s)) in
    let y = congruent-mul (s * a) (mod-congruent b c) in
    let z = congruent-mul c i in
    record { p = x.p + y.p + z.q; q = x.q + y.q + z.p; eq = omega (arith, x.eq, y.eq, z.eq) }
