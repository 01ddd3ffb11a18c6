-- `run`: the first that is completed ends it.
use Rattle.std.proofs.Common.{ap, arith}
use Rattle.specification.specs.Search.{half}
use Rattle.walk.proofs.Running.{one_more, on-found, on-running}
use Rattle.walk.proofs.run.Goals as goal

pub turn-residues-requires-clause-more : goal.turn-residues-requires-clause-more
turn-residues-requires-clause-more c =
    let i = c.loop-count.invariant in
    one_more _ _ _ i.at (omega (arith, c.loop-count-test.true, c.requires.to, ap half i.others_are))

pub returns-then-is_completed-clause-found : goal.returns-then-is_completed-clause-found
returns-then-is_completed-clause-found c =
    let t = c.turn-residues.ensures in
    on-found c.loop-count.invariant c.loop-count-test.true _ _ t.stands t.others t.on _ c.is_completed.ensures c.if-is_completed.true

pub loop-count-preserved : goal.loop-count-preserved
loop-count-preserved c =
    let t = c.turn-residues.ensures in
    on-running c.loop-count.invariant c.loop-count-test.true _ _ t.stands t.others t.on _ c.is_completed.ensures c.if-is_completed.false
