-- `solved_for`: the facts of the type are those of Euclid's steps.
use Rattle.walk.proofs.SetUp.{divisor_facts, window_low}
use Rattle.walk.proofs.two_axes.TwoAxes.solved_for.Goals as goal

pub invariant_of-result-clause-divides_first : goal.invariant_of-result-clause-divides_first
invariant_of-result-clause-divides_first c = (divisor_facts _ _ _ _ c.gcd_and_inverse-g.ensures c.requires.moves).1

pub invariant_of-result-clause-divides_second : goal.invariant_of-result-clause-divides_second
invariant_of-result-clause-divides_second c = (divisor_facts _ _ _ _ c.gcd_and_inverse-g.ensures c.requires.moves).2

pub invariant_of-result-clause-inverts : goal.invariant_of-result-clause-inverts
invariant_of-result-clause-inverts c = (divisor_facts _ _ _ _ c.gcd_and_inverse-g.ensures c.requires.moves).3

pub invariant_of-result-clause-apart : goal.invariant_of-result-clause-apart
invariant_of-result-clause-apart c = window_low _ _ _ _ c.gcd_and_inverse-g.ensures c.requires.moves _ c.requires.long c.requires.fits
