-- `completes`: what is completed is near, or its opposite is.
use Rattle.walk.proofs.Completing.{near-tells, far-tells}
use Rattle.walk.proofs.two_axes.completes.Goals as goal

pub returns-then-near : goal.returns-then-near
returns-then-near c = let p = c.requires in near-tells c.args.two _ _ _ p.low p.residue p.divides _ c.near.ensures c.if-near.true

pub returns-else-near : goal.returns-else-near
returns-else-near c =
    let p = c.requires in
    far-tells c.args.two _ _ _ p.low p.residue p.divides _ c.near.ensures c.if-near.false _ c.near-else-near.ensures
