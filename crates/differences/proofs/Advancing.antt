-- A vector with another difference at one of its axes: the next one, or the first, which leaves the step to the axis after it.
use Rattle.std.proofs.Common.{◌≡◌, refl, ap, ℕ, ◌+◌, ◌*◌, ◌-◌, ◌<◌, ◌≤◌, List, ◌++◌, ◌∙◌, length, set, take, drop, All, arith, take_all, take_at, length-take-le}
use Rattle.std.proofs.lemmas.List.Elements.{All-set, All-get_or}
use Rattle.specification.specs.Search.{span_sum, box}
use Rattle.differences.specs.declared.AxisDifference.{AxisDifference}
use Rattle.differences.specs.AxisDifferences.{axes_of, number_of, digit_of, above, below, up_of, down_of, IsSmall}
use Rattle.differences.proofs.DistanceLaws.{distance-of}
use Rattle.differences.proofs.VectorLaws.{nothing, entry, box_before, axes-length, axes-set, sum-set, number-set, box-more, sum-low, number-low}

-- with its highest difference above 0, or below, the sums still fit (the first part shows `grind` the call to match)
pub entry_within : (ds : List AxisDifference) (j : ℕ) → j < length ds → All IsSmall ds
    → (entry ds j ≡ entry ds j) × IsSmall (entry ds j)
    × ((entry ds j).above * (entry ds j).axis.stride ≤ up_of ds) × ((entry ds j).below * (entry ds j).axis.stride ≤ down_of ds)
    × (up_of ds + ((entry ds j).axis.extent - 1) * (entry ds j).axis.stride
    ≤ (entry ds j).above * (entry ds j).axis.stride + span_sum (axes_of ds))
    × (down_of ds + ((entry ds j).axis.extent - 1) * (entry ds j).axis.stride
    ≤ (entry ds j).below * (entry ds j).axis.stride + span_sum (axes_of ds))
entry_within ds j h all =
    let c = entry ds j in
    let m : IsSmall c = All-get_or IsSmall ds j nothing h all in
    let up : AxisDifference = record { axis = c.axis; above = c.axis.extent - 1; below = 0 } in
    let down : AxisDifference = record { axis = c.axis; above = 0; below = c.axis.extent - 1 } in
    let with = λ (d : AxisDifference) (s : IsSmall d). All-set IsSmall ds j d s all in (
      refl,
      m,
      omega (arith, sum-set above ds j down h),
      omega (arith, sum-set below ds j up h),
      omega (arith, sum-set above ds j up h, sum-low above (λ d s. s.0) (set ds j up) (with up (omega arith, omega arith)), ap span_sum (axes-set ds j up refl)),
      omega (
        arith,
        sum-set below ds j down h,
        sum-low below (λ d s. s.1) (set ds j down) (with down (omega arith, omega arith)),
        ap span_sum (axes-set ds j down refl),
      ),
    )

module _ (ds : List AxisDifference) (j : ℕ) (d : AxisDifference) where
  pub stands_set : j < length ds → All IsSmall ds → IsSmall d → d.axis ≡ (entry ds j).axis
      → (set ds j d ≡ set ds j d) × All IsSmall (set ds j d) × (span_sum (axes_of (set ds j d)) ≡ span_sum (axes_of ds))
      × (up_of (set ds j d) + (entry ds j).above * (entry ds j).axis.stride ≡ up_of ds + d.above * (entry ds j).axis.stride)
      × (down_of (set ds j d) + (entry ds j).below * (entry ds j).axis.stride ≡ down_of ds + d.below * (entry ds j).axis.stride)
  stands_set h all small a = (
    refl,
    All-set IsSmall ds j d small all,
    ap span_sum (axes-set ds j d a),
    omega (arith, sum-set above ds j d h, ap (λ z. d.above * z.stride) a),
    omega (arith, sum-set below ds j d h, ap (λ z. d.below * z.stride) a),
  )

  pub number_on : j < length ds → d.axis ≡ (entry ds j).axis → digit_of d ≡ digit_of (entry ds j) + 1
      → number_of (set ds j d) ≡ number_of ds + box_before ds j
  number_on h a e = omega (arith, number-set ds j d h a, ap (λ (n : ℕ). n * box_before ds j) e)

  pub number_around : j < length ds → d.axis ≡ (entry ds j).axis → digit_of d ≡ 0
      → digit_of (entry ds j) + 1 ≡ 2 * (entry ds j).axis.extent - 1
      → number_of (set ds j d) + box_before (set ds j d) (j + 1) ≡ number_of ds + box_before ds j
  number_around h a z w =
      let b = ap (λ x. box (take (j + 1) x)) (axes-set ds j d a) in
      let times = λ (n : ℕ). n * box_before ds j in
      omega (arith, number-set ds j d h a, box-more ds j h, b, ap times z, ap times w)

pub box_whole : (ds : List AxisDifference) (j : ℕ) → length ds ≤ j → box_before ds j ≡ box (axes_of ds)
box_whole ds j h = ap box (take_all j (axes_of ds) (omega (arith, axes-length ds)))

pub ruleset turns = (entry_within, stands_set, axes-set, number_on, number_around, number-low, box_whole)

-- ---- the vector in front of the unused axes

pub in_front : (v all : List AxisDifference) (len : ℕ) → length v ≡ length (take len all) → len ≤ length all
    → take len (v ++ drop len all) ≡ v
in_front v all len e h = take_at v (drop len all) len (e ∙ length-take-le len all h)

pub ruleset next = (in_front, number-low, distance-of)
