use Rattle.std.proofs.Common.{◌<◌, ◌∙◌, sym, arith, length}
use Rattle.specification.specs.Axis.{extents}
use Rattle.view.proofs.CountLaws.{length-extents}
use Rattle.drawing.proofs.PositionLaws.{extent-at, extent_above, rest_below, digit_next, ends}
use Rattle.drawing.proofs.positions.index_of.Goals as goal

pub nonzero_rem-rest : goal.nonzero_rem-rest
nonzero_rem-rest c =
    let es = extents c.args.axes.now in
    extent_above es c.loop-axis.axis-index c.loop-axis.rest _ (omega (arith, length-extents c.args.axes.now)) (sym (extent-at c.args.axes.now c.loop-axis.axis-index)) c.loop-axis.invariant.left

pub nonzero_div-rest : goal.nonzero_div-rest
nonzero_div-rest c =
    let es = extents c.args.axes.now in
    extent_above es c.loop-axis.axis-index c.loop-axis.rest _ (omega (arith, length-extents c.args.axes.now)) (sym (extent-at c.args.axes.now c.loop-axis.axis-index)) c.loop-axis.invariant.left

pub loop-axis-preserved : goal.loop-axis-preserved
loop-axis-preserved c =
    let es = extents c.args.axes.now in
    let inside : c.loop-axis.axis-index < length es = omega (arith, length-extents c.args.axes.now) in
    let here = sym (extent-at c.args.axes.now c.loop-axis.axis-index) in
    record {
      as_many = omega (arith, c.push.ensures.len, c.loop-axis.invariant.as_many);
      left = rest_below es c.loop-axis.axis-index c.loop-axis.rest _ inside here c.loop-axis.invariant.left;
      digits = rw c.push.ensures.items (sym (digit_next es c.loop-axis.axis-index c.loop-axis.rest _ inside here c.loop-axis.invariant.left c.loop-axis.index.items) ∙ c.loop-axis.invariant.digits);
    }

pub returns : goal.returns
returns c = ends (extents c.args.axes.now) c.loop-axis.axis-index c.loop-axis.rest c.loop-axis.index.items (omega (arith, length-extents c.args.axes.now)) ∙ c.loop-axis.invariant.digits
