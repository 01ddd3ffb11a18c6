-- Dense strides, as the code answers them (RULES, "Beside it: dense strides").
use Rattle.std.specs.Prelude.{◌&&◌, List, ℕ, ◌*◌, ◌-◌, nat_le, ℤ, if◌then◌else◌, None, Option, Some}
use Rattle.integer.specs.Range.{most_signed}
use Rattle.specification.specs.Beside.{col_major, row_major}
use Rattle.specification.specs.Outcome.{Outcome}
use Rattle.dense.specs.declared.Major.{Major}
use Rattle.dense.specs.declared.Major.TheVariants.{Column, Row}

-- the product of a step and an extent, if it and the extent are at most the largest step
abbrev pub fitting_step : ℕ → ℕ → Option ℕ
fitting_step step extent =
    if nat_le (step * extent) most_signed && nat_le extent most_signed then Some (step * extent) else None

-- the axis where so many of so many were passed, from the densest one on
abbrev pub axis_after : Major → ℕ → ℕ → ℕ
axis_after Column rank passed = passed
axis_after Row rank passed = rank - 1 - passed

-- dense strides with this axis the densest
abbrev pub dense_by : Major → List ℕ → Outcome (List ℤ)
dense_by Column = col_major
dense_by Row = row_major
