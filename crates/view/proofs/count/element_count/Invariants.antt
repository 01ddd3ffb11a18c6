-- The product so far times the extents still left is the number of positions, and none of these is 0.
use Rattle.std.proofs.Common.{◌≡◌, ◌*◌, ◌≤◌, false, length, drop}
use Rattle.integer.specs.Range.{most_unsigned}
use Rattle.specification.specs.Axis.{product}
use Rattle.specification.specs.Beside.{zero_among}
use Rattle.view.proofs.count.element_count.Given as goal

abbrev pub invariant-loop-entry : goal.invariant-loop-entry
invariant-loop-entry g l = record {
  few : length l.list ≤ 16;
  none_zero : zero_among (g.E.Extent.extents_of l.list) ≡ false;
  count_most : l.count ≤ most_unsigned;
  left : l.count * product (drop l.entry-index (g.E.Extent.extents_of l.list)) ≡ product (g.E.Extent.extents_of l.list);
}
