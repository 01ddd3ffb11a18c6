-- Why the functions of `modular` are right: a product by doubling, and Euclid's loop with signed multiples.
use Rattle.std.proofs.Common.{◌≡◌, ◌∙◌, Bool, false, not, true, ℕ, ◌%◌, ◌*◌, ◌+◌, ◌-◌, ◌/◌, ◌<◌, ◌≤◌, ap, arith, sym}
use native.Mathlib.Nat.{div-add-mod', mod-lt, mul-le-mul_left}
use Rattle.integer.proofs.Congruence.{congruent-mul, congruent-of-equal, congruent-sym, congruent-trans, equal-of-congruent, mod-congruent}
use Rattle.integer.proofs.GcdLaws.{gcd-step, gcd-zero}
use Rattle.integer.specs.Congruence.{IsCongruent, IsGcdInverse}
use Rattle.integer.specs.Gcd.{gcd}
use Rattle.std.specs.Prelude.{if◌then◌else◌}

-- The product by doubling: what is summed up and what is left to add make the product.
pub record Doubling (x y m sum base left : ℕ) : Type 0 where
  pub sum_below : sum < m
  pub base_below : base < m
  pub whole : IsCongruent m (sum + base * left) (x * y)

-- One bit of `left` goes into the sum, and the base is doubled.
doubling-next : (x y m sum base left s b : ℕ) → Doubling x y m sum base left → s < m → IsCongruent m s (sum + left % 2 * base)
    → b < m → b ≡ (base + base) % m → Doubling x y m s b (left / 2)
doubling-next x y m sum base left s b d hs cs hb eb = record {
  sum_below = hs;
  base_below = hb;
  whole =
      let k = congruent-mul (left / 2) (congruent-of-equal m b (base + base) eb) in
      let e : base * left ≡ (base + base) * (left / 2) + left % 2 * base = omega (arith, ap (λ (z : ℕ). base * z) (div-add-mod' left 2)) in
      let o = d.whole in
      record { p = cs.p + k.p + o.p; q = cs.q + k.q + o.q; eq = omega (arith, cs.eq, k.eq, o.eq) };
}

-- An odd `left` puts the base into the sum, an even one leaves the sum as it is.
pub doubling-odd : (x y m sum base left s b : ℕ) → Doubling x y m sum base left → left % 2 ≡ 1 → s < m → s ≡ (sum + base) % m
    → b < m → b ≡ (base + base) % m → Doubling x y m s b (left / 2)
doubling-odd x y m sum base left s b d odd hs es =
    let k = congruent-of-equal m s (sum + base) es in
    doubling-next x y m sum base left s b d hs (record { p = k.p; q = k.q; eq = omega (arith, k.eq, ap (λ (z : ℕ). z * base) odd) })

pub doubling-even : (x y m sum base left b : ℕ) → Doubling x y m sum base left → left % 2 ≡ 0
    → b < m → b ≡ (base + base) % m → Doubling x y m sum b (left / 2)
doubling-even x y m sum base left b d even =
    doubling-next x y m sum base left sum b d d.sum_below (record { p = 0; q = 0; eq = omega (arith, ap (λ (z : ℕ). z * base) even) })

pub doubling-end : (x y m sum base left : ℕ) → Doubling x y m sum base left → left ≤ 0 → sum ≡ x * y % m
doubling-end x y m sum base left d h =
    let e : left ≡ 0 = omega arith in
    let o = d.whole in
    equal-of-congruent m sum (x * y) d.sum_below (record { p = o.p; q = o.q; eq = omega (arith, o.eq, ap (λ (z : ℕ). base * z) e) })

-- r is t times a modulo b, or minus t times a.
abbrev pub SignedMultiple : Bool → ℕ → ℕ → ℕ → ℕ → Type 0
SignedMultiple true b a r t = IsCongruent b r (t * a)
SignedMultiple false b a r t = IsCongruent b (r + t * a) 0

-- Euclid's loop: two remainders r0, r1 of b and a, each a signed multiple of a, with signs that differ. That `total` is b bounds the multiples.
pub record EuclidLoop (a b r0 r1 t0 t1 : ℕ) (positive : Bool) : Type 0 where
  pub total : t0 * r1 + t1 * r0 ≡ b
  pub above : 0 < r0
  pub at_most : t0 ≤ b
  pub same_gcd : gcd r0 r1 ≡ gcd a b
  pub first : SignedMultiple positive b a r0 t0
  pub second : SignedMultiple (not positive) b a r1 t1

pub euclid-start : (a b : ℕ) → 0 < b → EuclidLoop a b b (a % b) 0 1 false
euclid-start a b h = record {
  total = omega arith;
  above = h;
  at_most = omega arith;
  same_gcd = sym (gcd-step a b);
  first = record { p = 0; q = 1; eq = omega arith };
  second = let c = mod-congruent b a in record { p = c.p; q = c.q; eq = omega (arith, c.eq) };
}

signed-multiple-next : (positive : Bool) (b a r0 r1 t0 t1 : ℕ) → SignedMultiple positive b a r0 t0 → SignedMultiple (not positive) b a r1 t1
    → (q r2 : ℕ) → q * r1 + r2 ≡ r0 → SignedMultiple (not (not positive)) b a r2 (t0 + q * t1)
signed-multiple-next true b a r0 r1 t0 t1 first second q r2 e = let k = congruent-mul q second in
    record { p = first.p + k.q; q = first.q + k.p; eq = omega (arith, first.eq, k.eq, e) }
signed-multiple-next false b a r0 r1 t0 t1 first second q r2 e = let k = congruent-mul q second in
    record { p = first.p + k.q; q = first.q + k.p; eq = omega (arith, first.eq, k.eq, e) }

pub euclid-next : (a b r0 r1 t0 t1 : ℕ) (positive : Bool) → 0 < r1 → EuclidLoop a b r0 r1 t0 t1 positive
    → EuclidLoop a b r1 (r0 % r1) t1 (t0 + r0 / r1 * t1) (not positive)
euclid-next a b r0 r1 t0 t1 positive h u =
    let d = div-add-mod' r0 r1 in
    record {
      total = omega (arith, u.total, ap (λ (z : ℕ). z * t1) d);
      above = h;
      at_most = omega (arith, u.total, mul-le-mul_left t1 u.above);
      same_gcd = sym (gcd-step r0 r1) ∙ u.same_gcd;
      first = u.second;
      second = signed-multiple-next positive b a r0 r1 t0 t1 u.first u.second (r0 / r1) (r0 % r1) d;
    }

-- If the second remainder is 0, the first is the greatest common divisor.
pub euclid-ends : (a b r0 r1 t0 t1 : ℕ) (positive : Bool) → EuclidLoop a b r0 r1 t0 t1 positive → 0 < b → r1 ≡ 0
    → IsGcdInverse a b r0 (if positive then t0 % b else (b - t0) % b)
euclid-ends a b r0 r1 t0 t1 true u h e = record {
  is_gcd = sym (gcd-zero r0 r1 e) ∙ u.same_gcd;
  below = mod-lt t0 h;
  multiple = congruent-trans u.first (congruent-sym (congruent-mul a (mod-congruent b t0)));
}
euclid-ends a b r0 r1 t0 t1 false u h e = record {
  is_gcd = sym (gcd-zero r0 r1 e) ∙ u.same_gcd;
  below = mod-lt (b - t0) h;
  multiple =
      let k = congruent-mul a (mod-congruent b (b - t0)) in
      let o = u.first in
      let s : (b - t0) + t0 ≡ b = omega (arith, u.at_most) in
      record { p = o.p + k.q + a; q = o.q + k.p; eq = omega (arith, o.eq, k.eq, ap (λ (z : ℕ). z * a) s) };
}
