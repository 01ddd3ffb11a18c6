-- `is_separated_by_row`: from the sum so far on, the axes that are left tell the same as all.
use Rattle.std.proofs.Common.{◌≡◌, reverse}
use Rattle.std.specs.Iterator.Adapters.{rev_source}
use Rattle.std.specs.Slice.Iter.{iter_rest}
use Rattle.specification.specs.Verdict.{active_from}
use Rattle.injectivity.specs.Ordered.{separated_in_order}
use Rattle.injectivity.proofs.ordered.is_separated_by_row.Given as goal

abbrev pub invariant-loop-axis : goal.invariant-loop-axis
invariant-loop-axis l = record {
  tells : separated_in_order l.span (reverse (active_from 0 (iter_rest (rev_source l.axis-iterator)))) ≡ separated_in_order 0 (reverse (active_from 0 l.axes));
}
