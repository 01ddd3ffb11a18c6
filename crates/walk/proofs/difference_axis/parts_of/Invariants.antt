-- `parts_of`: the differences before the axis are summed.
use Rattle.std.proofs.Common.{◌≡◌, take}
use Rattle.walk.specs.Underway.{sum_above, sum_below}
use Rattle.walk.proofs.difference_axis.parts_of.Given as goal

abbrev pub invariant-loop-axis : goal.invariant-loop-axis
invariant-loop-axis l = (l.up ≡ sum_above (take l.axis-index l.axes)) × (l.down ≡ sum_below (take l.axis-index l.axes))
