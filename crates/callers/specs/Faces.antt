-- A mean that stands in an output, in plain facts (RULES, "Means along an axis").
use Rattle.std.specs.Prelude.{List, ℕ, ℤ, ◌≡◌, ◌<◌, slice_get, Some, All}
use Rattle.specification.specs.Axis.{positions}
use Rattle.specification.specs.Layout.{LayoutModel}
use Rattle.specification.specs.Readings.{reading_at}
use Rattle.means.specs.Means.{extent_along, reading_along, sum_of}
use Rattle.means.specs.MeansClaims.{IsNearest, IsBetween}

pub record StandsAt (l : LayoutModel) (axis : ℕ) (readings out : List ℤ) (k : ℕ) : Type 0 where
  pub mean : ℤ
  pub there : slice_get out k ≡ Some mean
  -- the nearest to the exact mean, halves away from zero
  pub nearest : IsNearest (sum_of (reading_along l axis readings k) (extent_along l axis)) (extent_along l axis) mean
  -- each reading that is summed is that of a position of the layout
  pub read : (i : ℕ) → i < extent_along l axis → (position : ℕ) × (position < positions l.axes) × (reading_along l axis readings k i ≡ reading_at l readings position)
  -- if all readings of the buffer lie between two numbers, so does the mean
  pub between : (low high : ℤ) → All (IsBetween low high) readings → IsBetween low high mean
