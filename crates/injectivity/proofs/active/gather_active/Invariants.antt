-- `gather_active`: those gathered, and the active ones of the axes that are left, are all of them.
use Rattle.std.proofs.Common.{◌≡◌, ◌≤◌, ◌++◌, length, take, drop}
use Rattle.specification.specs.Verdict.{active_from}
use Rattle.injectivity.proofs.active.gather_active.Given as goal

abbrev pub invariant-loop-axis : goal.invariant-loop-axis
invariant-loop-axis l = record {
  places : length l.active ≡ 16;
  few : l.count ≤ l.axis;
  front : take l.count l.active ++ active_from l.axis (drop l.axis l.axes) ≡ active_from 0 l.axes;
}
