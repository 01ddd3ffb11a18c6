-- What some difference of each of two axes completes to 0: what a residue tells of it, and that the two tests settle it.
use Rattle.std.proofs.Common.{◌≡◌, ◌∙◌, ℕ, zero, suc, ◌+◌, ◌*◌, ◌-◌, ◌/◌, ◌%◌, ◌<◌, ◌≤◌, Bool, true, false, IsTrue, ap, ℤ, pos, arith}
use mathlib.Core.Logic.{◌↔◌}
use lib.IntN.{◌-ℤ◌}
use native.Mathlib.Decide.{dec_le}
use native.Mathlib.Nat.{div-add-mod', le_of_mul-le-mul_right, mod-le, mul-le-mul_left, mul-le-mul_right, zero-mod}
use Rattle.std.proofs.lemmas.Int.{ints}
use Rattle.integer.specs.Congruence.{IsCongruent}
use Rattle.integer.specs.Parts.{positive_part, negative_part}
use Rattle.integer.proofs.Congruence.{congruent-of-mod, mod-of-congruent, congruent-sym, equal-of-congruent}
use Rattle.integer.proofs.PartLaws.{nat_abs-parts}
use Rattle.integer.proofs.SignedEquation.{parts-of-equation, shifted}
use Rattle.specification.specs.Search.{Completes}
use Rattle.specification.proofs.TestLaws.{true-not-false}
use Rattle.walk.specs.declared.two_axes.TwoAxes.{TwoAxes}

-- p - p' and q - q' are differences of the two that complete up - down to 0
pub record Balance (t : TwoAxes) (up down : ℕ) : Type 0 where
  pub p : ℕ
  pub p' : ℕ
  pub q : ℕ
  pub q' : ℕ
  pub first_above : p ≤ p' + (t.first.extent - 1)
  pub first_below : p' ≤ p + (t.first.extent - 1)
  pub second_above : q ≤ q' + (t.second.extent - 1)
  pub second_below : q' ≤ q + (t.second.extent - 1)
  pub sum : p * t.first.stride + q * t.second.stride + up ≡ p' * t.first.stride + q' * t.second.stride + down

-- k is a multiple of b
multiple : (b k : ℕ) → IsCongruent b k 0 → k / b * b ≡ k
multiple b k c = let z : k % b ≡ 0 = mod-of-congruent b k 0 c ∙ zero-mod b in omega (arith, div-add-mod' k b)

-- what lies between 0 and 2 b is b
once : (b k : ℕ) → 0 < k → k < 2 * b → IsCongruent b k 0 → k ≡ b
once b k low high c = go (k / b) (multiple b k c)
  where
    go : (n : ℕ) → n * b ≡ k → k ≡ b
    go zero m = absurd (omega arith)
    go (suc zero) m = omega arith
    go (suc (suc n)) m = absurd (omega arith)

module _ (t : TwoAxes) where
  -- the inverse undoes the first stride up to the common divisor
  inverts : IsCongruent t.second.stride (t.inverse * t.first.stride) t.g
  inverts = congruent-of-mod t.second.stride (t.inverse * t.first.stride) t.g t.inverts

  module _ {up down : ℕ} where
    abbrev turned : Balance t up down → Balance t down up
    turned n = record {
      p = n.p';
      p' = n.p;
      q = n.q';
      q' = n.q;
      first_above = n.first_below;
      first_below = n.first_above;
      second_above = n.second_below;
      second_below = n.second_above;
      sum = omega (arith, n.sum);
    }

    module _ (z : ℤ) (parts : positive_part z + down ≡ up + negative_part z) where
      pub balance-of : Completes t.first t.second z → Balance t up down
      balance-of w = record {
        p = positive_part w.x;
        p' = negative_part w.x;
        q = positive_part w.y;
        q' = negative_part w.y;
        first_above = omega (arith, nat_abs-parts w.x, w.x_below);
        first_below = omega (arith, nat_abs-parts w.x, w.x_below);
        second_above = omega (arith, nat_abs-parts w.y, w.y_below);
        second_below = omega (arith, nat_abs-parts w.y, w.y_below);
        sum = omega (arith, parts-of-equation w.x w.y z t.first.stride t.second.stride w.to_zero, parts);
      }

      pub completes-of : Balance t up down → Completes t.first t.second z
      completes-of n = record {
        x = pos n.p -ℤ pos n.p';
        y = pos n.q -ℤ pos n.q';
        x_below = omega (arith, ints, t.long, n.first_above, n.first_below);
        y_below = omega (arith, ints, t.some, n.second_above, n.second_below);
        to_zero = omega (arith, ints, n.sum, parts, ap (λ (k : ℕ). k * t.first.stride) (shifted n.p n.p'), ap (λ (k : ℕ). k * t.second.stride) (shifted n.q n.q'));
      }

    -- a residue of the sum times c, if c times the second's stride is 0, is that of the first's part of it
    balance-residue : (n : Balance t up down) (m c e r w : ℕ) → IsCongruent m (c * t.first.stride) e → IsCongruent m (c * t.second.stride) 0
        → IsCongruent m (r + down * c) (up * c + w) → IsCongruent m (r + n.p * e) (n.p' * e + w)
    balance-residue n m c e r w i o k =
        let first = λ (x : ℕ). ap (λ (y : ℕ). x * y) i.eq in
        let second = λ (x : ℕ). ap (λ (y : ℕ). x * y) o.eq in
        record {
          p = k.p + n.p * i.q + n.p' * i.p + n.q * o.q + n.q' * o.p;
          q = k.q + n.p * i.p + n.p' * i.q + n.q * o.p + n.q' * o.q;
          eq = omega (arith, k.eq, first n.p, first n.p', second n.q, second n.q', ap (λ (y : ℕ). y * c) n.sum);
        }

    -- modulo the second's stride with the inverse
    by-inverse : (n : Balance t up down) (r w : ℕ) → IsCongruent t.second.stride (r + down * t.inverse) (up * t.inverse + w)
        → IsCongruent t.second.stride (r + n.p * t.g) (n.p' * t.g + w)
    by-inverse n r w = balance-residue n t.second.stride t.inverse t.g r w inverts (record { p = 0; q = t.inverse; eq = omega arith })

    -- the residue moved up by the window is at most twice the window
    pub within-window : Balance t up down → (r : ℕ) → r < t.second.stride
        → IsCongruent t.second.stride (r + down * t.inverse) (up * t.inverse + t.window) → r ≤ 2 * t.window
    within-window n r l k =
        let c = by-inverse n r t.window k in
        let h = mul-le-mul_right t.g n.first_above in
        let h' = mul-le-mul_right t.g n.first_below in
        let s = n.p' * t.g + t.window - n.p * t.g in
        let d : IsCongruent t.second.stride r s = record { p = c.p; q = c.q; eq = omega (arith, c.eq, h, t.window_is) } in
        omega (arith, equal-of-congruent t.second.stride r s l d, mod-le s t.second.stride, h', t.window_is)

    -- and the rest modulo the common divisor is 0
    pub none-left : Balance t up down → (c r : ℕ) → r < t.g → IsCongruent t.g (r + down * c) (up * c) → r ≡ 0
    none-left n c r l k =
        let first : IsCongruent t.g (c * t.first.stride) 0 =
        record { p = 0; q = c * t.part; eq = omega (arith, ap (λ (y : ℕ). c * y) t.divides_first) } in
        let second : IsCongruent t.g (c * t.second.stride) 0 =
        record { p = 0; q = c * (t.second.stride / t.g); eq = omega (arith, ap (λ (y : ℕ). c * y) t.divides_second) } in
        let m = balance-residue n t.g c 0 r 0 first second (record { p = k.p; q = k.q; eq = omega (arith, k.eq) }) in
        equal-of-congruent t.g r 0 l (record { p = m.p; q = m.q; eq = omega (arith, m.eq) }) ∙ zero-mod t.g

  -- ---- the tests of up - down with its residue k

  abbrev span : ℕ
  span = (t.second.extent - 1) * t.second.stride

  abbrev Near : ℕ → ℕ → ℕ → Type 0
  Near up down k = (k ≤ t.window) × (up ≤ down + k * t.part + span) × (down + k * t.part ≤ up + span)

  module _ (up down k : ℕ) (residue : IsCongruent t.second.stride (k + down * t.inverse) (up * t.inverse)) where
    -- the first's difference is not above 0: it is k / g without its sign
    near-of : (b : Balance t up down) → b.p ≤ b.p' → k < t.second.stride + (b.p' - b.p) → Near up down k
    near-of b l low =
        let c = by-inverse b k 0 (record { p = residue.p; q = residue.q; eq = omega (arith, residue.eq) }) in
        let d : b.p' - b.p + b.p ≡ b.p' = omega arith in
        let dg = ap (λ (y : ℕ). y * t.g) d in
        let m : (b.p' - b.p) * t.g ≤ t.window = omega (arith, dg, mul-le-mul_right t.g b.first_below, t.window_is) in
        let more : b.p' - b.p ≤ (b.p' - b.p) * t.g = omega (arith, mul-le-mul_left (b.p' - b.p) t.above) in
        let left = k + (t.second.stride - (b.p' - b.p) * t.g) in
        let o = once t.second.stride left (omega (arith, m, t.apart)) (omega (arith, m, more, low, t.apart))
        (record { p = c.p; q = c.q + 1; eq = omega (arith, c.eq, dg, m, t.apart) }) in
        let e : k ≡ (b.p' - b.p) * t.g = omega (arith, o, m, t.apart) in
        let a = ap (λ (y : ℕ). y * t.part) e in
        let f = ap (λ (y : ℕ). (b.p' - b.p) * y) t.divides_first in
        let g = ap (λ (y : ℕ). y * t.first.stride) d in
        let above = mul-le-mul_right t.second.stride b.second_above in
        let below = mul-le-mul_right t.second.stride b.second_below in
        (omega (arith, e, m), omega (arith, a, f, g, b.sum, above, below), omega (arith, a, f, g, b.sum, above, below))

    -- and back, if the common divisor divides up - down
    near-balance : IsCongruent t.g up down → Near up down k → Balance t up down
    near-balance divides h =
        let i = inverts in
        let part-is : IsCongruent t.second.stride (down + k * t.part) up = record {
          p = residue.p * t.part + divides.q * i.p + divides.p * i.q;
          q = residue.q * t.part + divides.q * i.q + divides.p * i.p;
          eq = omega (
            arith,
            ap (λ (y : ℕ). y * t.part) residue.eq,
            ap (λ (y : ℕ). y * t.inverse * t.part) divides.eq,
            ap (λ (y : ℕ). divides.p * t.inverse * y) t.divides_first,
            ap (λ (y : ℕ). divides.q * t.inverse * y) t.divides_first,
            ap (λ (y : ℕ). divides.p * y) i.eq,
            ap (λ (y : ℕ). divides.q * y) i.eq,
            divides.eq,
          );
        } in
        let b-times = λ (x : ℕ). ap (λ (y : ℕ). x * y) t.divides_second in
        let k-times = multiple t.g k (record {
          p = residue.p * (t.second.stride / t.g) + divides.p * t.inverse;
          q = residue.q * (t.second.stride / t.g) + divides.q * t.inverse;
          eq = omega (arith, residue.eq, ap (λ (y : ℕ). y * t.inverse) divides.eq, b-times residue.p, b-times residue.q);
        }) in
        let rest = span + (down + k * t.part) - up in
        let gone : IsCongruent t.second.stride rest 0 =
        record { p = part-is.p; q = part-is.q + (t.second.extent - 1); eq = omega (arith, part-is.eq, h) } in
        let m = multiple t.second.stride rest gone in
        record {
          p = 0;
          p' = k / t.g;
          q = rest / t.second.stride;
          q' = t.second.extent - 1;
          first_above = omega arith;
          first_below = le_of_mul-le-mul_right {k = t.g} (omega (arith, k-times, h, t.window_is)) t.above;
          second_above = le_of_mul-le-mul_right {k = t.second.stride} (omega (arith, m, h)) (omega (arith, t.apart));
          second_below = omega arith;
          sum = omega (arith, m, ap (λ (y : ℕ). k / t.g * y) t.divides_first, ap (λ (y : ℕ). y * t.part) k-times, h);
        }

  module _ (up down k : ℕ) (low : k < t.second.stride) (residue : IsCongruent t.second.stride (k + down * t.inverse) (up * t.inverse)) where
    -- the opposite sum has the opposite residue
    opposite : IsCongruent t.second.stride (t.second.stride - k + up * t.inverse) (down * t.inverse)
    opposite = record { p = residue.q; q = 1 + residue.p; eq = omega (arith, residue.eq, low) }

    abbrev Completed : Type 0
    Completed = Completes t.first t.second (pos up -ℤ pos down)

    module _ (divides : IsCongruent t.g up down) (y : Bool) (tells : IsTrue y ↔ Near up down k) where
      -- what is near is completed
      pub near-tells : y ≡ true → IsTrue y ↔ Completed
      near-tells e = (λ _. completes-of _ (shifted up down) (near-balance up down k residue divides (tells.0 e)), λ _. e)

      -- else what is completed is far: its opposite is near
      pub far-tells : y ≡ false → (f : Bool) → IsTrue f ↔ Near down up (t.second.stride - k) → IsTrue f ↔ Completed
      far-tells e f far = (λ g. to (far.0 g), λ w. let b = balance-of _ (shifted up down) w in far.1 (back b (dec_le b.p b.p')))
        where
          to : Near down up (t.second.stride - k) → Completed
          to h = completes-of _ (shifted up down) (turned (near-balance down up (t.second.stride - k) opposite (congruent-sym divides) h))

          back : (b : Balance t up down) → Dec (b.p ≤ b.p') → Near down up (t.second.stride - k)
          back b (yes l) = absurd (true-not-false (tells.1 (near-of up down k residue b l (omega (arith, low)))) e)
          back b (no n) = near-of down up (t.second.stride - k) opposite (turned b) (omega arith) (omega arith)

-- the window's part of the first stride is the first's span
pub window_part : (t : TwoAxes) → t.window * t.part ≡ (t.first.extent - 1) * t.first.stride
window_part t = omega (arith, ap (λ (y : ℕ). y * t.part) t.window_is, ap (λ (y : ℕ). (t.first.extent - 1) * y) t.divides_first)
