-- A difference vector as the code holds it: an axis and a difference of its indices, in two parts.
use Rattle.std.specs.Prelude.{List, [], ◌∷◌, ℕ, ◌+◌, ◌*◌, ◌-◌, ◌^◌, ◌<◌, ◌≤◌, ◌≡◌, map, sum_by}
use Rattle.std.specs.List.{All}
use Rattle.specification.specs.Search.{ActiveAxis, span_sum}
use Rattle.differences.specs.declared.AxisDifference.{AxisDifference}
use Rattle.differences.specs.declared.Sums.{Sums}

-- the axes alone
abbrev pub axes_of : List AxisDifference → List ActiveAxis
axes_of = map (λ d. d.axis)

-- a difference as a digit: difference + extent - 1
abbrev pub digit_of : AxisDifference → ℕ
digit_of d = d.above + (d.axis.extent - 1) - d.below

-- the number of the vector, the digit of the first axis the lowest
unfoldable pub number_of : List AxisDifference → ℕ
number_of [] = 0
number_of (d ∷ rest) = digit_of d + (2 * d.axis.extent - 1) * number_of rest

-- the two parts
abbrev pub above : AxisDifference → ℕ
above d = d.above

abbrev pub below : AxisDifference → ℕ
below d = d.below

-- the sum of a part, each times its stride
abbrev pub sum_of : (AxisDifference → ℕ) → List AxisDifference → ℕ
sum_of part = sum_by (λ d. part d * d.axis.stride)

abbrev pub up_of : List AxisDifference → ℕ
up_of = sum_of above

abbrev pub down_of : List AxisDifference → ℕ
down_of = sum_of below

-- each part is below its extent
abbrev pub IsSmall : AxisDifference → Type 0
IsSmall d = (d.above < d.axis.extent) × (d.below < d.axis.extent)

-- a difference in the sums of a vector, which fit a word wherever the difference goes on its axis
pub record IsWithin (d : AxisDifference) (sums : Sums) : Type 0 where
  pub small : IsSmall d
  pub up_has : d.above * d.axis.stride ≤ sums.up
  pub down_has : d.below * d.axis.stride ≤ sums.down
  pub up_fits : sums.up + (d.axis.extent - 1) * d.axis.stride < d.above * d.axis.stride + 2 ^ 64
  pub down_fits : sums.down + (d.axis.extent - 1) * d.axis.stride < d.below * d.axis.stride + 2 ^ 64

-- a vector with its sums, which fit a word
pub record Stands (vector : List AxisDifference) (sums : Sums) : Type 0 where
  pub small : All IsSmall vector
  pub fits : span_sum (axes_of vector) < 2 ^ 64
  pub up_is : sums.up ≡ up_of vector
  pub down_is : sums.down ≡ down_of vector
