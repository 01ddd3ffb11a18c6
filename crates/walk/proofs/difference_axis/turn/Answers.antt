-- `turn`: a digit that goes up ends the turn, and one that goes round leaves it to the next.
use native.Mathlib.Omega.{arith}
use Rattle.walk.proofs.Turning.{turning-start, fit_at, turning-end, up-stands, up-others, up-number, turning-round}
use Rattle.walk.proofs.difference_axis.turn.Goals as goal

pub loop-axis-init : goal.loop-axis-init
loop-axis-init c = turning-start c.requires.stands

pub add_mod-requires : goal.add_mod-requires
add_mod-requires c =
    let here = fit_at c.loop-axis.invariant (omega arith) in
    (c.loop-axis.invariant.stands.z.low, omega arith)

pub add_mod-requires-then-axis-middle : goal.add_mod-requires-then-axis-middle
add_mod-requires-then-axis-middle c =
    let here = fit_at c.loop-axis.invariant (omega arith) in
    (c.loop-axis.invariant.stands.q.low, omega arith)

pub add_mod-z-requires : goal.add_mod-z-requires
add_mod-z-requires c =
    let here = fit_at c.loop-axis.invariant (omega arith) in
    (c.loop-axis.invariant.stands.z.low, omega arith)

pub add_mod-q-requires : goal.add_mod-q-requires
add_mod-q-requires c =
    let here = fit_at c.loop-axis.invariant (omega arith) in
    (c.loop-axis.invariant.stands.q.low, omega arith)

pub returns-then-axis-middle-clause-stands : goal.returns-then-axis-middle-clause-stands
returns-then-axis-middle-clause-stands c =
    up-stands c.loop-axis.invariant (omega arith) c.if-axis-middle.true _ _ c.add_mod.ensures c.add_mod-then-axis-middle.ensures

pub returns-then-axis-middle-clause-others : goal.returns-then-axis-middle-clause-others
returns-then-axis-middle-clause-others c = up-others c.loop-axis.invariant (omega arith)

pub returns-then-axis-middle-clause-on : goal.returns-then-axis-middle-clause-on
returns-then-axis-middle-clause-on c = up-number c.loop-axis.invariant (omega arith)

pub loop-axis-preserved : goal.loop-axis-preserved
loop-axis-preserved c = turning-round c.loop-axis.invariant (omega arith) c.if-axis-middle.false _ _ c.add_mod-z.ensures c.add_mod-q.ensures

pub returns : goal.returns
returns c = absurd (turning-end c.loop-axis.invariant c.requires.more (omega (arith, c.loop-axis.auto.axes, c.loop-axis-test.false)))
