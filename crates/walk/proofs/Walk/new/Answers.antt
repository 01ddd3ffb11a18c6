-- `new`: the walk at the vector of no difference.
use native.Mathlib.Omega.{arith}
use Rattle.walk.proofs.Start.{made-more, start, start-view}
use Rattle.walk.proofs.Walk.new.Goals as goal

pub loop-j-preserved : goal.loop-j-preserved
loop-j-preserved c =
    let e = c.at_middle.ensures in
    made-more _ _ _ _ _ _ c.loop-j.invariant (omega (arith, c.loop-j-test.true, c.requires.few)) c.loop-j-test.true e.axis e.middle e.fit

pub invariant_of-result : goal.invariant_of-result
invariant_of-result c = record {
  few = c.requires.few;
  at = start _ _ _ _ c.loop-j.invariant c.loop-j-test.false c.loop-j.auto.j-end c.requires.countable c.requires.fits;
}

pub returns : goal.returns
returns c = start-view _ _ _ _ c.loop-j.invariant c.loop-j-test.false c.loop-j.auto.j-end
