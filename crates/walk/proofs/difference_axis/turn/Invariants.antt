-- `turn`: the digits passed went round, and the residues with them.
use Rattle.walk.proofs.Turning.{Turning}
use Rattle.walk.proofs.difference_axis.turn.Given as goal

abbrev pub invariant-loop-axis : goal.invariant-loop-axis
invariant-loop-axis l = Turning l.fn.two l.fn.axes l.axes l.z l.q l.axis-index
