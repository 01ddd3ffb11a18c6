use Rattle.std.proofs.Common.{sym, ◌∙◌, arith}
use Rattle.std.proofs.lemmas.List.{drop-set-lt}
use lib.ListN.{length-set}
use mir.Syntax.{w64}
use mir.ValLaws.{to_z_pos}
use Rattle.dense.proofs.DenseLaws.{step_most, turn}
use Rattle.dense.proofs.StridesLaws.{in_front}
use Rattle.dense.proofs.running_products.Goals as goal

pub loop-passed-preserved : goal.loop-passed-preserved
loop-passed-preserved c =
    let a = c.args in
    let l = c.loop-passed in
    let next = rw c.axis_after-axis.ensures at c.in_ok-step.ensures in record {
      long = simp length-set l.invariant.long;
      rest = drop-set-lt _ l.strides _ _ (rw c.axis_after-axis.ensures (in_front a.major _ l.passed (omega arith))) ∙ l.invariant.rest;
      most = step_most _ _ _ _ (sym next);
      so_far = rw (c.axis_after-axis.ensures, to_z_pos w64 l.step (omega (arith, l.invariant.most))) (turn a.major _ a.extents.now l.strides l.passed l.step l.invariant.so_far _ (omega arith) (omega arith) (sym next));
    }
