use native.Mathlib.Omega.{arith}
use Rattle.integer.proofs.ModularLaws.{euclid-ends, euclid-next, euclid-start}
use Rattle.integer.proofs.modular.gcd_and_inverse.Goals as goal

pub loop-r1-init : goal.loop-r1-init
loop-r1-init c = euclid-start _ _ c.requires

pub loop-r1-preserved : goal.loop-r1-preserved
loop-r1-preserved c = euclid-next _ _ _ _ _ _ _ c.loop-r1-test.true c.loop-r1.invariant

pub returns-then-positive : goal.returns-then-positive
returns-then-positive c = rw c.if-positive.true at (euclid-ends _ _ _ _ _ _ _ c.loop-r1.invariant c.requires (omega (arith, c.loop-r1-test.false)))

pub returns-else-positive : goal.returns-else-positive
returns-else-positive c = rw c.if-positive.false at (euclid-ends _ _ _ _ _ _ _ c.loop-r1.invariant c.requires (omega (arith, c.loop-r1-test.false)))
