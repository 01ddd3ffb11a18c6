-- One stride more.
use Rattle.std.proofs.Common.{take_all, subst, All}
use Rattle.std.proofs.lemmas.List.Elements.{All-more}
use Rattle.positions.specs.Positions.{StrideFits}
use Rattle.positions.proofs.VectorLaws.{no_axis}
use Rattle.positions.proofs.strides_fit.Goals as goal

pub loop-axis-preserved : goal.loop-axis-preserved
loop-axis-preserved c = All-more StrideFits c.args.axes.now c.loop-axis.axis-index no_axis c.loop-axis-test.true c.loop-axis.invariant c.stride_fits.ensures

pub returns : goal.returns
returns c = subst (All StrideFits) (take_all c.loop-axis.axis-index c.args.axes.now c.loop-axis-test.false) c.loop-axis.invariant
