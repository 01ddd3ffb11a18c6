-- What is asked where a walk stands: its vector's sum, of which the code holds the two parts, and what the residues tell of it.
use Rattle.std.proofs.Common.{◌≡◌, ℕ, ◌+◌, ◌*◌, ◌-◌, ◌/◌, ◌%◌, ◌^◌, ◌<◌, ◌≤◌, List, ℤ, pos, ap, arith}
use lib.IntN.{◌-ℤ◌}
use native.Mathlib.Nat.{div-add-mod'}
use Rattle.integer.specs.Congruence.{IsCongruent}
use Rattle.integer.specs.Parts.{positive_part, negative_part}
use Rattle.integer.proofs.Congruence.{mod-congruent}
use Rattle.integer.proofs.PartLaws.{parts-ext}
use Rattle.integer.proofs.SignedEquation.{shifted}
use Rattle.specification.specs.Search.{Completes, span_sum, difference_at, difference_sum}
use Rattle.differences.specs.AxisDifferences.{number_of}
use Rattle.differences.proofs.DistanceLaws.{parts-at}
use Rattle.walk.specs.Underway.{vector_of, others_of, sum_above, sum_below, Stands}
use Rattle.walk.specs.declared.two_axes.TwoAxes.{TwoAxes}
use Rattle.walk.specs.declared.difference_axis.Residues.{Residues}
use Rattle.walk.specs.declared.difference_axis.DifferenceAxis.{DifferenceAxis}
use Rattle.walk.proofs.Vectors.{small-of, above-is, below-is, sums-low}
use Rattle.walk.proofs.Completing.{balance-of, within-window, none-left}

module _ {t : TwoAxes} {ds : List DifferenceAxis} {r : Residues} (s : Stands t ds r) where
  abbrev sum : ℤ
  sum = difference_sum (others_of ds) (difference_at (others_of ds) (number_of (vector_of ds)))

  parts : positive_part sum + sum_below ds ≡ sum_above ds + negative_part sum
  parts = omega (arith, parts-at (vector_of ds) (small-of t ds s.fit), above-is ds, below-is ds)

  -- the residues of a sum that is completed
  pub residues-of : Completes t.first t.second sum → (r.z ≤ 2 * t.window) × (r.q ≡ 0)
  residues-of w =
      let n = balance-of t sum parts w in
      let q : IsCongruent t.g (r.q + sum_below ds * (1 % t.g)) (sum_above ds * (1 % t.g)) =
      record { p = s.q.so.p; q = s.q.so.q; eq = omega (arith, s.q.so.eq) } in
      (within-window t n r.z s.z.low s.z.so, none-left t n (1 % t.g) r.q s.q.low q)

  -- both parts fit, also with both spans
  pub sums-fit : (t.first.extent - 1) * t.first.stride + ((t.second.extent - 1) * t.second.stride + (sum_above ds + sum_below ds)) < 2 ^ 64
  unfolding span_sum
  sums-fit = omega (arith, sums-low t ds s.fit, s.fits)

  module _ (up down : ℕ) (is-up : up ≡ sum_above ds) (is-down : down ≡ sum_below ds) where
    pub sum-is : sum ≡ pos up -ℤ pos down
    sum-is = parts-ext (omega (arith, parts, shifted up down))

    -- the residues of it
    pub residue-of : (k : ℕ) → k ≡ (r.z + (t.second.stride - t.window)) % t.second.stride
        → IsCongruent t.second.stride (k + down * t.inverse) (up * t.inverse)
    residue-of k e =
        let m = div-add-mod' (r.z + (t.second.stride - t.window)) t.second.stride in
        let times = λ (x y : ℕ) (e : x ≡ y). ap (λ (n : ℕ). n * t.inverse) e in
        record {
          p = (r.z + (t.second.stride - t.window)) / t.second.stride + s.z.so.p;
          q = 1 + s.z.so.q;
          eq = omega (arith, e, m, s.z.so.eq, t.apart, times _ _ is-up, times _ _ is-down);
        }

    pub divided : r.q ≡ 0 → IsCongruent t.g up down
    divided none =
        let o = mod-congruent t.g 1 in
        let one = λ (n : ℕ). ap (λ (y : ℕ). n * y) o.eq in
        let times = λ (x y : ℕ) (e : x ≡ y). ap (λ (n : ℕ). n * (1 % t.g)) e in
        record {
          p = down * o.p + s.q.so.q + up * o.q;
          q = down * o.q + s.q.so.p + up * o.p;
          eq = omega (arith, s.q.so.eq, one up, one down, times _ _ is-up, times _ _ is-down);
        }
