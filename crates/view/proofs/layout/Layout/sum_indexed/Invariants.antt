-- The sum over all axes is the sum so far with the axes and indices still left.
use Rattle.std.proofs.Common.{◌≡◌, drop}
use Rattle.specification.specs.Beside.{sum_indexed}
use Rattle.view.specs.Model.{model_of}
use Rattle.view.proofs.layout.Layout.sum_indexed.Given as goal

abbrev pub invariant-loop-i : goal.invariant-loop-i
invariant-loop-i l = sum_indexed 0 l.self.offset.0 (model_of l.self).axes l.index ≡ sum_indexed l.i l.sum.0 (drop l.i l.axes) (drop l.i l.index)
