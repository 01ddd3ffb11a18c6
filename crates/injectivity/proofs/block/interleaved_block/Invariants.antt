-- `interleaved_block`: the total and the span of the axes passed, and the block as long as it is so far, which is never one axis.
use Rattle.std.proofs.Common.{◌≡◌, ◌≤◌, length, take, drop}
use mathlib.Core.Logic.{◌≢◌}
use Rattle.specification.specs.Search.{total, span_sum}
use Rattle.specification.specs.Verdict.{up_to_last}
use Rattle.injectivity.proofs.CoverLaws.{ending}
use Rattle.injectivity.proofs.block.interleaved_block.Given as goal

abbrev pub invariant-loop-i : goal.invariant-loop-i
invariant-loop-i l = record {
  ends : ending (up_to_last l.span (drop l.i l.sorted)) (take l.i l.sorted) (take l.block.len l.sorted) ≡ up_to_last 0 l.sorted;
  total_is : l.total ≡ total (take l.i l.sorted);
  span_is : l.span ≡ span_sum (take l.i l.sorted);
  within : l.block.len ≤ length l.sorted;
  block_total_is : l.block.total ≡ total (take l.block.len l.sorted);
  block_span_is : l.block.span ≡ span_sum (take l.block.len l.sorted);
  many : l.block.len ≢ 1;
}
