-- Each call of `gcd` takes Euclid's step, and the second number falls.
use Rattle.integer.proofs.+gcd.Given as goal

abbrev pub decreases-gcd : goal.decreases-gcd
decreases-gcd l = l.b
