-- `new` leaves the zero vector in front.
use Rattle.std.proofs.Common.{◌∙◌, ap, ap₂}
use Rattle.differences.specs.AxisDifferences.{axes_of, number_of}
use Rattle.differences.proofs.ZeroVector.{zero_front, zero-axes, zero-number, zero-stands}
use Rattle.differences.proofs.Differences.new.Goals as goal

pub invariant_of-result : goal.invariant_of-result
invariant_of-result c =
    let e = zero_front c.args.axes.now _ _ c.loop-j.invariant.front c.loop-j-test.false c.loop-j.auto.j-end in
    record { few = c.requires.few; stands = rw e (zero-stands c.args.axes.now c.requires) }

pub returns : goal.returns
returns c =
    let e = zero_front c.args.axes.now _ _ c.loop-j.invariant.front c.loop-j-test.false c.loop-j.auto.j-end in
    ap₂ (λ x y. record { axes = x; number = y })
    (ap axes_of e ∙ zero-axes c.args.axes.now)
    (ap number_of e ∙ zero-number c.args.axes.now c.requires.some)
