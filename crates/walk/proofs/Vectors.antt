-- The axes of a walk as a vector of differences: its two sums, and another digit at a place.
use Rattle.std.specs.Prelude.{sum_by}
use Rattle.std.proofs.Common.{◌≡◌, ◌∙◌, ℕ, ◌+◌, ◌*◌, ◌-◌, ◌%◌, ◌<◌, ◌≤◌, List, [], ◌∷◌, length, get_or, set, refl, sym, ap, arith}
use native.Mathlib.Nat.{mul-le-mul_right}
use Rattle.std.specs.List.{All}
use Rattle.std.proofs.Math.ListN.{get_or-map}
use Rattle.std.proofs.lemmas.List.{map-set, length-map}
use Rattle.std.proofs.lemmas.List.Elements.{All-nil, All-cons, All-head, All-tail}
use Rattle.std.proofs.lemmas.List.Sums.{sum_by-cons, sum_by-set}
use Rattle.integer.specs.Congruence.{IsCongruent}
use Rattle.integer.proofs.Congruence.{congruent-of-equal}
use Rattle.specification.specs.Search.{span_sum}
use Rattle.differences.specs.declared.AxisDifference.{AxisDifference}
use Rattle.differences.specs.AxisDifferences.{axes_of, number_of, sum_of, up_of, down_of, IsSmall}
use Rattle.differences.proofs.VectorLaws.{entry, digit_of, box_before, axes-set, number-set, sum-cons}
use Rattle.walk.specs.Underway.{difference_of, vector_of, others_of, above, below, sum_above, sum_below, IsFit, IsResidue}
use Rattle.walk.specs.declared.two_axes.TwoAxes.{TwoAxes}
use Rattle.walk.specs.declared.difference_axis.Step.{Step}
use Rattle.walk.specs.declared.difference_axis.DifferenceAxis.{DifferenceAxis}

-- what is read past the end
abbrev pub nothing : DifferenceAxis
nothing =
    let none : Step = record { up = 0; back = 0 } in
    record { axis = record { axis = 0; extent = 0; stride = 0 }; digit = 0; z = none; q = none }

abbrev pub at : List DifferenceAxis → ℕ → DifferenceAxis
at ds j = get_or ds j nothing

pub small-of : (t : TwoAxes) (ds : List DifferenceAxis) → All (IsFit t) ds → All IsSmall (vector_of ds)
small-of t [] h = All-nil IsSmall
small-of t (d ∷ ds) h =
    let l = (All-head (IsFit t) d ds h).digit_low in
    let rest = small-of t ds (All-tail (IsFit t) d ds h) in
    All-cons IsSmall (difference_of d) (vector_of ds) (omega (arith, l), omega (arith, l)) rest

-- ---- its sums

pub sum-is : (part : AxisDifference → ℕ) (ds : List DifferenceAxis) → sum_of part (vector_of ds) ≡ sum_by (λ d. part (difference_of d) * d.axis.stride) ds
sum-is part [] = refl
sum-is part (d ∷ ds) =
    omega (arith, sum-is part ds, sum-cons part (difference_of d) (vector_of ds), sum_by-cons (λ x. part (difference_of x) * x.axis.stride) d ds)

pub above-is : (ds : List DifferenceAxis) → up_of (vector_of ds) ≡ sum_above ds
above-is = sum-is (λ d. d.above)

pub below-is : (ds : List DifferenceAxis) → down_of (vector_of ds) ≡ sum_below ds
below-is = sum-is (λ d. d.below)

-- the two together are at most the span
pub sums-low : (t : TwoAxes) (ds : List DifferenceAxis) → All (IsFit t) ds → sum_above ds + sum_below ds ≤ span_sum (others_of ds)
unfolding span_sum
sums-low t [] f = omega arith
sums-low t (d ∷ ds) f =
    let m = d.axis.extent - 1 in
    let l : d.digit - m + (m - d.digit) ≤ m = omega (arith, (All-head (IsFit t) d ds f).digit_low) in
    let rest = sums-low t ds (All-tail (IsFit t) d ds f) in
    omega (arith, sum_by-cons above d ds, sum_by-cons below d ds, mul-le-mul_right d.axis.stride l, rest)

-- ---- digit v at place j

digit-is : (d : DifferenceAxis) → digit_of (difference_of d) ≡ d.digit
digit-is d = omega arith

pub entry-is : (ds : List DifferenceAxis) (j : ℕ) → entry (vector_of ds) j ≡ difference_of (at ds j)
entry-is ds j = get_or-map difference_of ds j nothing

module _ (ds : List DifferenceAxis) (j v : ℕ) where
  abbrev here : DifferenceAxis
  here = at ds j

  abbrev there : DifferenceAxis
  there = record here { digit = v }

  abbrev pub turned : List DifferenceAxis
  turned = set ds j there

  set-vector : vector_of turned ≡ set (vector_of ds) j (difference_of there)
  set-vector = map-set difference_of ds j there

  same_axis : here.axis ≡ (entry (vector_of ds) j).axis
  same_axis = ap (λ (d : AxisDifference). d.axis) (sym (entry-is ds j))

  pub turned-others : others_of turned ≡ others_of ds
  turned-others = ap axes_of set-vector ∙ axes-set (vector_of ds) j (difference_of there) same_axis

  module _ (h : j < length ds) where
    abbrev b : ℕ
    b = box_before (vector_of ds) j

    pub turned-number : number_of (vector_of turned) + here.digit * b ≡ number_of (vector_of ds) + v * b
    turned-number =
        let n = number-set (vector_of ds) j (difference_of there) (omega (arith, length-map ds difference_of)) same_axis in
        let e = ap (λ (d : AxisDifference). digit_of d * b) (entry-is ds j) in
        let digit = λ (d : DifferenceAxis). ap (λ (k : ℕ). k * b) (digit-is d) in
        omega (arith, ap number_of set-vector, n, e, digit here, digit there)

    -- how the sum changes
    turned-sum : sum_above turned + sum_below ds + here.digit * here.axis.stride ≡ sum_above ds + sum_below turned + v * here.axis.stride
    turned-sum =
        let m = here.axis.extent - 1 in
        let o : here.digit - m + m ≡ here.digit + (m - here.digit) = omega arith in
        let n : v - m + m ≡ v + (m - v) = omega arith in
        let times = λ (x y : ℕ) (e : x ≡ y). ap (λ (k : ℕ). k * here.axis.stride) e in
        omega (arith, sum_by-set above ds j there nothing h, sum_by-set below ds j there nothing h, times _ _ o, times _ _ n)

    -- and with it a residue, by a step that comes to as much
    pub turned-residue : (m c w r s r' : ℕ) → IsResidue m c w ds r
        → IsCongruent m (s + here.digit * (here.axis.stride * c)) (v * (here.axis.stride * c))
        → (r' < m) × (r' ≡ (r + s) % m) → IsResidue m c w turned r'
    turned-residue m c w r s r' i k n =
        let o = congruent-of-equal m r' (r + s) n.1 in
        let sum = ap (λ (y : ℕ). y * c) turned-sum in
        record { low = n.0; so = record { p = o.p + k.p + i.so.p; q = o.q + k.q + i.so.q; eq = omega (arith, o.eq, k.eq, i.so.eq, sum) } }
