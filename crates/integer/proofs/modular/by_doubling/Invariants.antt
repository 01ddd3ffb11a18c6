-- `by_doubling` meets its contract. The invariant is `Doubling`; what is left of y falls.
use Rattle.integer.proofs.ModularLaws.{Doubling}
use Rattle.integer.proofs.modular.by_doubling.Given as goal

abbrev pub invariant-loop-left : goal.invariant-loop-left
invariant-loop-left l = Doubling l.x l.y l.m l.sum l.base l.left

abbrev pub decreases-loop-left : goal.decreases-loop-left
decreases-loop-left l = l.left
