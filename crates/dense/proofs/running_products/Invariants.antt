-- The strides stored so far stand before those of the extents still left, from the densest axis on. Behind all of them there is only 0.
use Rattle.std.proofs.Common.{◌≡◌, ◌≤◌, ◌-◌, pos, length, drop, replicate}
use Rattle.integer.specs.Range.{most_signed}
use Rattle.specification.specs.Beside.{running}
use Rattle.dense.proofs.DenseLaws.{behind, from_densest, stored}
use Rattle.dense.proofs.running_products.Given as goal

abbrev pub invariant-loop-passed : goal.invariant-loop-passed
invariant-loop-passed l = record {
  long : length l.strides ≡ 16;
  rest : drop l.rank l.strides ≡ replicate (16 - l.rank) (pos 0);
  most : l.step ≤ most_signed;
  so_far : running l.empty 1 (from_densest l.major l.extents)
      ≡ behind (stored l.major l.rank l.passed l.strides) (running l.empty l.step (drop l.passed (from_densest l.major l.extents)));
}
