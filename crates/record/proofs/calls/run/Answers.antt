use Rattle.std.proofs.Common.{◌∙◌}
use Rattle.record.proofs.ChainLaws.{ends_later}
use Rattle.record.proofs.calls.run.Goals as goal

pub loop-call-preserved : goal.loop-call-preserved
loop-call-preserved c =
    ends_later c.args.calls.now c.loop-call.call-index _ c.loop-call.layout c.after.result.layout _ c.loop-call-test.true c.after.ensures ∙ c.loop-call.invariant
