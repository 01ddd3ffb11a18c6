-- The axes of the entries passed, then what was there.
use Rattle.std.proofs.Common.{◌≡◌, ◌≤◌, ◌++◌, length, take, drop}
use Rattle.specification.specs.Axis.{axes_of_lists}
use Rattle.view.proofs.axes.Lists.store.Given as goal

abbrev pub invariant-loop-i : goal.invariant-loop-i
invariant-loop-i l = record {
  long : length l.axes ≡ 16;
  passed : l.i ≤ length l.self.extents.now;
  stored : l.axes ≡ axes_of_lists (take l.i l.self.extents.now) (take l.i l.self.strides.now) ++ drop l.i l.fn.axes;
}
