-- `is_separated_by_column`: from the sum so far on, the axes that are left tell the same as all.
use Rattle.std.proofs.Common.{◌≡◌, drop}
use Rattle.specification.specs.Verdict.{active_from}
use Rattle.injectivity.specs.Ordered.{separated_in_order}
use Rattle.injectivity.proofs.ordered.is_separated_by_column.Given as goal

abbrev pub invariant-loop-axis : goal.invariant-loop-axis
invariant-loop-axis l = record {
  tells : separated_in_order l.span (active_from l.axis-index (drop l.axis-index l.axes)) ≡ separated_in_order 0 (active_from 0 l.axes);
}
