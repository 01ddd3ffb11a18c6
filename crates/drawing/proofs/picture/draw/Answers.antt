use Rattle.std.proofs.Common.{sym}
use Rattle.view.specs.Model.{model_of}
use Rattle.drawing.proofs.CallLaws.{too_large, small_enough}
use Rattle.drawing.proofs.picture.draw.Goals as goal

pub returns-then-count-gt-POSITIONS_MOST : goal.returns-then-count-gt-POSITIONS_MOST
returns-then-count-gt-POSITIONS_MOST c =
    sym (too_large (model_of c.args.layout.now) c.in_ok-handed_refusal.ensures.answer (c.axes.ensures.all c.in_ok-handed_refusal.ensures.few_axes)
    c.in_ok-count.count c.in_ok-count.ensures c.if-count-gt-POSITIONS_MOST.true)

pub returns : goal.returns
returns c =
    sym (small_enough (model_of c.args.layout.now) c.in_ok-handed_refusal.ensures.answer (c.axes.ensures.all c.in_ok-handed_refusal.ensures.few_axes)
    c.in_ok-count.count c.in_ok-count.ensures c.if-count-gt-POSITIONS_MOST.false)
