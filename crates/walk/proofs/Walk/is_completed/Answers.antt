-- `is_completed`: the place is as many vectors above the one of no difference.
use Rattle.std.proofs.Common.{sym}
use Rattle.walk.proofs.Running.{asked}
use Rattle.walk.proofs.Walk.is_completed.Goals as goal

pub returns : goal.returns
returns c = rw (← c.self.view_is) (sym (asked _ _ _ _ _ _ c.self.invariant.at.number c.is_completed.ensures))
