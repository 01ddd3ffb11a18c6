-- The two parts together are the block.
use Rattle.differences.proofs.Meeting.{cut_at}
use Rattle.enumeration.proofs.has_equal_sums.Goals as goal

pub returns : goal.returns
returns c =
    let t = (cut_at c.args.block.now c.split_axes-place.result.place c.requires.walkable).4 in
    let m = rw (c.split_at.ensures.front, c.split_at.ensures.back) at c.meet.ensures in
    (λ y. t.0 (m.0 y), λ s. m.1 (t.1 s))
