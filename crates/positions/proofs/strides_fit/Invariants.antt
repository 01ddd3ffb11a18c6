-- The strides before the next one fit.
use Rattle.std.proofs.Common.{take, All}
use Rattle.positions.specs.Positions.{StrideFits}
use Rattle.positions.proofs.strides_fit.Given as goal

abbrev pub invariant-loop-axis : goal.invariant-loop-axis
invariant-loop-axis l = All StrideFits (take l.axis-index l.axes)
