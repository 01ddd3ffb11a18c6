-- The axes before the next one went from their last difference to their first: together they are one step of it, less one.
use Rattle.std.proofs.Common.{◌≡◌, ◌+◌}
use Rattle.differences.specs.AxisDifferences.{axes_of, number_of, Stands}
use Rattle.differences.proofs.VectorLaws.{box_before}
use Rattle.differences.proofs.advance.Given as goal

abbrev pub invariant-loop-difference : goal.invariant-loop-difference
invariant-loop-difference l = record {
  stands : Stands l.differences l.sums;
  axes : axes_of l.differences ≡ axes_of l.fn.differences;
  counted : number_of l.fn.differences + 1 ≡ number_of l.differences + box_before l.differences l.difference-index;
}
