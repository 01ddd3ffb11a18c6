-- What the fields of a walk over differences are to its callers, and what they keep.
use Rattle.std.specs.Prelude.{List, ◌≤◌, take}
use Rattle.differences.specs.Differences.{DifferencesAt}
use Rattle.differences.specs.AxisDifferences.{axes_of, number_of, Stands}
use Rattle.differences.specs.declared.AxisDifference.{AxisDifference}
use Rattle.differences.specs.declared.Differences.TheInside.{Inside}

-- the vector
abbrev pub vector_of : Inside → List AxisDifference
vector_of w = take w.len w.axes

abbrev pub view_of : Inside → DifferencesAt
view_of w = record { axes = axes_of (vector_of w); number = number_of (vector_of w) }

pub record IsSound (w : Inside) : Type 0 where
  pub few : w.len ≤ 16
  pub stands : Stands (vector_of w) w.sums
