use Rattle.record.specs.Chain.{no_more, called}
use Rattle.callers.proofs.steps.two_views.Goals as goal

pub returns : goal.returns
returns c = called _ _ c.after-one.ensures (called _ _ c.after-two.ensures no_more)
