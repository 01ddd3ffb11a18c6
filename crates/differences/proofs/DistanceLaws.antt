-- How far the digits of a difference vector sum from the span is its distance; and so is how far the two sums of the code's vector are
-- apart.
use Rattle.std.proofs.Common.{◌≡◌, ap, ℕ, ◌+◌, ◌*◌, ◌-◌, ◌/◌, ◌%◌, ◌<◌, List, [], ◌∷◌, All, ℤ, pos, nat_abs, ◌-ℤ◌, ◌*ℤ◌, arith, mod-eq_of_lt, zero-add}
use Rattle.std.proofs.Math.Nat.{add-mul-mod_self_left, add-mul-div_left, div-eq_of_lt}
use Rattle.std.proofs.lemmas.List.Elements.{All-head, All-tail}
use Rattle.integer.specs.Parts.{positive_part, negative_part}
use Rattle.integer.proofs.PartLaws.{parts_add, positive_part-scale, negative_part-scale, nat_abs-parts, one-part-zero}
use Rattle.integer.proofs.SignedEquation.{shifted}
use Rattle.specification.specs.Axis.{index_at}
use Rattle.specification.specs.Search.{ActiveAxis, reach, span_sum, widths, difference_sum, difference_at, from_digits}
use Rattle.differences.specs.declared.AxisDifference.{AxisDifference}
use Rattle.differences.specs.Differences.{distance_at}
use Rattle.differences.specs.AxisDifferences.{axes_of, number_of, above, below, up_of, down_of, digit_of, IsSmall}
use Rattle.differences.proofs.VectorLaws.{sum-cons}

-- the sum of the digits of vector number k
abbrev pub digit_sum : List ActiveAxis → ℕ → ℕ
digit_sum axes k = reach axes (index_at (widths axes) k)

-- the sum of vector number k is that of its digits less the span
digit-parts : (axes : List ActiveAxis) (k : ℕ)
    → positive_part (difference_sum axes (difference_at axes k)) + span_sum axes
    ≡ digit_sum axes k + negative_part (difference_sum axes (difference_at axes k))
unfolding index_at difference_sum from_digits reach span_sum
digit-parts [] k = omega arith
digit-parts (a ∷ rest) k =
    let w = 2 * a.extent - 1 in
    let d = pos (k % w) -ℤ pos (a.extent - 1) in
    omega (
      arith,
      digit-parts rest (k / w),
      parts_add (d *ℤ pos a.stride) (difference_sum rest (difference_at rest (k / w))),
      positive_part-scale d a.stride,
      negative_part-scale d a.stride,
      ap (λ (n : ℕ). n * a.stride) (shifted (k % w) (a.extent - 1)),
    )

gap-of : (z : ℤ) (up down : ℕ) → positive_part z + down ≡ up + negative_part z → up - down + (down - up) ≡ nat_abs z
gap-of z up down e = grind (arith, nat_abs-parts z, one-part-zero z)

pub distance-is : (axes : List ActiveAxis) (k : ℕ)
    → digit_sum axes k - span_sum axes + (span_sum axes - digit_sum axes k) ≡ distance_at axes k
distance-is axes k = gap-of _ _ _ (digit-parts axes k)

-- the code's vector: its parts above 0 and the span are its parts below and its digits
digits-of-vector : (ds : List AxisDifference) → All IsSmall ds
    → digit_sum (axes_of ds) (number_of ds) + down_of ds ≡ span_sum (axes_of ds) + up_of ds
unfolding index_at number_of reach span_sum
digits-of-vector [] h = omega arith
digits-of-vector (d ∷ ds) h =
    let s = All-head IsSmall d ds h in
    let l : digit_of d < 2 * d.axis.extent - 1 = omega arith in
    let e : digit_of d + d.below ≡ d.axis.extent - 1 + d.above = omega arith in
    let w : 0 < 2 * d.axis.extent - 1 = omega arith in
    let m = add-mul-mod_self_left (digit_of d) (2 * d.axis.extent - 1) (number_of ds) in
    let q = add-mul-div_left (digit_of d) (number_of ds) w in
    rw (m, mod-eq_of_lt l, q, div-eq_of_lt l, zero-add (number_of ds))
    (omega (arith, digits-of-vector ds (All-tail IsSmall d ds h), sum-cons above d ds, sum-cons below d ds, ap (λ (n : ℕ). n * d.axis.stride) e))

-- the sum of the vector with this number, in its two parts
pub parts-at : (ds : List AxisDifference) → All IsSmall ds
    → positive_part (difference_sum (axes_of ds) (difference_at (axes_of ds) (number_of ds))) + down_of ds
    ≡ up_of ds + negative_part (difference_sum (axes_of ds) (difference_at (axes_of ds) (number_of ds)))
parts-at ds h = omega (arith, digit-parts (axes_of ds) (number_of ds), digits-of-vector ds h)

pub distance-of : (ds : List AxisDifference) → All IsSmall ds
    → up_of ds - down_of ds + (down_of ds - up_of ds) ≡ distance_at (axes_of ds) (number_of ds)
distance-of ds h = gap-of _ _ _ (parts-at ds h)
