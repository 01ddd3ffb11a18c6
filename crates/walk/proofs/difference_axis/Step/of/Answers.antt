-- `of`: the step up, and twice the middle's steps taken back.
use native.Mathlib.Omega.{arith}
use Rattle.walk.proofs.Turning.{step_made}
use Rattle.walk.proofs.difference_axis.Step.of.Goals as goal

pub returns : goal.returns
returns c =
    step_made _ _ c.args.axis _ _ _ _ (omega arith) c.mul_mod-up.ensures c.mul_mod-half.ensures c.add_mod.ensures.1 c.neg_mod.ensures
