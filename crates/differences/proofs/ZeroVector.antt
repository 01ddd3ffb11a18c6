-- The vector of no difference: its number is in the middle, and its sums are 0.
use Rattle.std.proofs.Common.{◌≡◌, ◌∙◌, refl, sym, ap, ap₂, ℕ, ◌+◌, ◌*◌, ◌-◌, ◌<◌, ◌≤◌, List, [], ◌∷◌, map, length, take, All, arith, take_all}
use Rattle.std.proofs.lemmas.List.Elements.{All-nil, All-cons}
use Rattle.specification.specs.Axis.{product}
use Rattle.specification.specs.Search.{ActiveAxis, total, box, half}
use Rattle.specification.proofs.Digits.{place}
use Rattle.specification.proofs.DifferenceWalk.{middle, half-half}
use Rattle.specification.proofs.SearchLaws.{half_is}
use Rattle.differences.specs.declared.AxisDifference.{AxisDifference}
use Rattle.differences.specs.Differences.{IsWalkable}
use Rattle.differences.specs.AxisDifferences.{axes_of, number_of, above, below, sum_of, IsSmall, Stands}
use Rattle.differences.proofs.BoxLaws.{head-some, positive-extents}
use Rattle.differences.proofs.VectorLaws.{sum-cons}

-- no difference of an axis, and of axes
abbrev pub zero_on : ActiveAxis → AxisDifference
zero_on a = record { axis = a; above = 0; below = 0 }

abbrev pub zero_vector : List ActiveAxis → List AxisDifference
zero_vector = map zero_on

pub zero-axes : (axes : List ActiveAxis) → axes_of (zero_vector axes) ≡ axes
zero-axes [] = refl
zero-axes (a ∷ rest) = ap (λ z. a ∷ z) (zero-axes rest)

pub zero-small : (axes : List ActiveAxis) → 0 < total axes → All IsSmall (zero_vector axes)
unfolding product
zero-small [] h = All-nil IsSmall
zero-small (a ∷ rest) h =
    let s = head-some a.extent (total rest) h in
    All-cons IsSmall (zero_on a) (zero_vector rest) (s.0, s.0) (zero-small rest s.1)

pub zero-sum : (part : AxisDifference → ℕ) → ((a : ActiveAxis) → part (zero_on a) ≡ 0) → (axes : List ActiveAxis) → sum_of part (zero_vector axes) ≡ 0
zero-sum part z [] = refl
zero-sum part z (a ∷ rest) = omega (arith, sum-cons part (zero_on a) (zero_vector rest), ap (λ (n : ℕ). n * a.stride) (z a), zero-sum part z rest)

zero-middle : (axes : List ActiveAxis) → number_of (zero_vector axes) ≡ middle axes
unfolding number_of place middle
zero-middle [] = refl
zero-middle (a ∷ rest) = ap₂ (λ (i n : ℕ). i + (2 * a.extent - 1) * n) (omega arith) (zero-middle rest)

pub zero-number : (axes : List ActiveAxis) → 0 < total axes → number_of (zero_vector axes) ≡ half axes
zero-number axes h = zero-middle axes ∙ sym (half_is axes (positive-extents axes h))

-- as many vectors stand above it as below
pub half-doubled : (axes : List ActiveAxis) → 0 < total axes → 2 * half axes + 1 ≡ box axes
half-doubled axes h = let p = positive-extents axes h in omega (arith, half-half axes p, half_is axes p)

pub zero-stands : (axes : List ActiveAxis) → IsWalkable axes → Stands (zero_vector axes) (record { up = 0; down = 0 })
zero-stands axes w = record {
  small = zero-small axes w.some;
  fits = rw (zero-axes axes) w.fits;
  up_is = sym (zero-sum above (λ a. refl) axes);
  down_is = sym (zero-sum below (λ a. refl) axes);
}

-- where as many axes as there are were set up
pub zero_front : (axes : List ActiveAxis) (ds : List AxisDifference) (j : ℕ) → take j ds ≡ zero_vector (take j axes) → length axes ≤ j
    → j ≤ length axes → take (length axes) ds ≡ zero_vector axes
zero_front axes ds j e l m =
    let n : length axes ≡ j = omega arith in
    ap (λ (k : ℕ). take k ds) n ∙ e ∙ ap zero_vector (take_all j axes l)
