-- `advance`: below half there is a next vector.
use Rattle.walk.proofs.Running.{one_more}
use Rattle.walk.proofs.Walk.advance.Goals as goal

pub turn-residues-requires-clause-more : goal.turn-residues-requires-clause-more
turn-residues-requires-clause-more c = one_more _ _ _ c.self.invariant.at (rw (← c.self.view_is) at c.requires.more)
