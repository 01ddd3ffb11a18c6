-- `gcd_and_inverse` meets its contract. The invariant is `EuclidLoop`; the second remainder falls.
use Rattle.integer.proofs.ModularLaws.{EuclidLoop}
use Rattle.integer.proofs.modular.gcd_and_inverse.Given as goal

abbrev pub invariant-loop-r1 : goal.invariant-loop-r1
invariant-loop-r1 l = EuclidLoop l.a l.b l.r0 l.r1 l.t0 l.t1 l.positive

abbrev pub decreases-loop-r1 : goal.decreases-loop-r1
decreases-loop-r1 l = l.r1
