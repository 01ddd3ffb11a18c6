-- `merged`: so far it is the normal form of the axes passed.
use Rattle.std.proofs.Common.{◌≡◌, ◌≤◌, take}
use Rattle.specification.specs.Normal.{normal_axes}
use Rattle.specification.specs.Views.{with_axes}
use Rattle.view.specs.Model.{model_of}
use Rattle.record.proofs.normal.merged.Given as goal

abbrev pub invariant-loop-axis : goal.invariant-loop-axis
invariant-loop-axis l = record {
  few : l.form.rank ≤ l.axis-index;
  so_far : model_of l.form ≡ with_axes (model_of l.layout) (normal_axes (take l.axis-index l.axes));
}
