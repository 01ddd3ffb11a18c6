-- `box_within` counts the difference vectors of the axes so far.
use Rattle.std.proofs.Common.{◌≡◌, ◌≤◌, take}
use Rattle.specification.specs.Search.{box}
use Rattle.differences.proofs.boxes.box_within.Given as goal

abbrev pub invariant-loop-axis : goal.invariant-loop-axis
invariant-loop-axis l = record {
  counted : l.vectors ≡ box (take l.axis-index l.axes);
  low : l.vectors ≤ l.most;
}
