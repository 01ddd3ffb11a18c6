-- A difference vector with another difference at one of its axes: its axes, its number and its sums.
use Rattle.std.proofs.Common.{◌≡◌, ◌∙◌, sym, ap, ℕ, zero, suc, ◌+◌, ◌*◌, ◌-◌, ◌<◌, ◌≤◌, List, [], ◌∷◌, All, length, get_or, set, take, arith, mul-le-mul_left, mul-le-mul_right}
use Rattle.std.proofs.Math.ListN.{get_or-map}
use Rattle.std.proofs.lemmas.List.{length-map, map-set, set-get_or}
use Rattle.std.proofs.lemmas.List.Elements.{All-head, All-tail}
use Rattle.std.proofs.lemmas.List.Sums.{sum_by-cons, sum_by-set}
use Rattle.specification.specs.Axis.{product}
use Rattle.specification.specs.Search.{span_sum, box}
use Rattle.differences.specs.declared.AxisDifference.{AxisDifference}
pub use Rattle.differences.specs.AxisDifferences.{digit_of}
use Rattle.differences.specs.AxisDifferences.{axes_of, number_of, sum_of, IsSmall}
use Rattle.differences.proofs.BoxLaws.{no_axis}
use Rattle.differences.proofs.BoxLaws as axes

-- what is read past the end
abbrev pub nothing : AxisDifference
nothing = record { axis = no_axis; above = 0; below = 0 }

abbrev pub entry : List AxisDifference → ℕ → AxisDifference
entry ds j = get_or ds j nothing

-- how many vectors the axes before j have
abbrev pub box_before : List AxisDifference → ℕ → ℕ
box_before ds j = box (take j (axes_of ds))

pub axes-length : (ds : List AxisDifference) → length (axes_of ds) ≡ length ds
axes-length ds = length-map ds (λ d. d.axis)

axis-entry : (ds : List AxisDifference) (j : ℕ) → get_or (axes_of ds) j no_axis ≡ (entry ds j).axis
axis-entry ds j = get_or-map (λ d. d.axis) ds j nothing

pub axes-set : (ds : List AxisDifference) (j : ℕ) (d : AxisDifference) → d.axis ≡ (entry ds j).axis → axes_of (set ds j d) ≡ axes_of ds
axes-set ds j d e =
    map-set (λ (x : AxisDifference). x.axis) ds j d
    ∙ ap (set (axes_of ds) j) (e ∙ sym (axis-entry ds j))
    ∙ set-get_or (axes_of ds) j no_axis

pub sum-cons : (part : AxisDifference → ℕ) (d : AxisDifference) (ds : List AxisDifference) → sum_of part (d ∷ ds) ≡ part d * d.axis.stride + sum_of part ds
sum-cons part = sum_by-cons (λ d. part d * d.axis.stride)

-- a sum with another difference at place j
pub sum-set : (part : AxisDifference → ℕ) (ds : List AxisDifference) (j : ℕ) (d : AxisDifference) → j < length ds
    → sum_of part (set ds j d) + part (entry ds j) * (entry ds j).axis.stride ≡ sum_of part ds + part d * d.axis.stride
sum-set part ds j d h = sum_by-set (λ x. part x * x.axis.stride) ds j d nothing h

pub number-set : (ds : List AxisDifference) (j : ℕ) (d : AxisDifference) → j < length ds → d.axis ≡ (entry ds j).axis
    → number_of (set ds j d) + digit_of (entry ds j) * box_before ds j ≡ number_of ds + digit_of d * box_before ds j
unfolding number_of product
number-set [] j d h e = absurd (omega arith)
number-set (c ∷ ds) zero d h e = omega (arith, ap (λ a. (2 * a.extent - 1) * number_of ds) e)
number-set (c ∷ ds) (suc j) d h e = omega (arith, ap (λ (n : ℕ). (2 * c.axis.extent - 1) * n) (number-set ds j d (omega arith) e))

-- one axis more
pub box-more : (ds : List AxisDifference) (j : ℕ) → j < length ds
    → box_before ds (j + 1) ≡ box_before ds j * (2 * (entry ds j).axis.extent - 1)
box-more ds j h =
    axes.box-more (axes_of ds) j (omega (arith, axes-length ds))
    ∙ ap (λ a. box_before ds j * (2 * a.extent - 1)) (axis-entry ds j)

-- no sum is above the span, if its part is below the extent
pub sum-low : (part : AxisDifference → ℕ) → ((d : AxisDifference) → IsSmall d → part d < d.axis.extent)
    → (ds : List AxisDifference) → All IsSmall ds → sum_of part ds ≤ span_sum (axes_of ds)
unfolding span_sum
sum-low part low [] h = omega arith
sum-low part low (d ∷ ds) h =
    let l : part d ≤ d.axis.extent - 1 = omega (arith, low d (All-head IsSmall d ds h)) in
    omega (arith, sum-cons part d ds, mul-le-mul_right d.axis.stride l, sum-low part low ds (All-tail IsSmall d ds h))

-- each number is below the box
pub number-low : (ds : List AxisDifference) → All IsSmall ds → number_of ds < box (axes_of ds)
unfolding number_of product
number-low [] h = omega arith
number-low (d ∷ ds) h =
    let l : digit_of d < 2 * d.axis.extent - 1 = omega (arith, All-head IsSmall d ds h) in
    omega (arith, mul-le-mul_left (2 * d.axis.extent - 1) (number-low ds (All-tail IsSmall d ds h)))
