-- A turn stores the axis of the entries that stand next.
use Rattle.std.proofs.Common.{◌≡◌, ◌<◌, ◌∙◌, arith, rules, length, take, pos}
use lib.Seq.{length-take-le}
use mir.Syntax.{w64}
use mir.Val.{SFits}
use mir.ValLaws.{to_z-of_z}
use Rattle.specification.specs.Axis.{axes_of_lists}
use Rattle.view.proofs.AxesLaws.{set-seam, axes_of_lists-more, axes_of_lists-none, length-axes_of_lists}
use Rattle.view.proofs.axes.Lists.store.Goals as goal

pub loop-i-init : goal.loop-i-init
loop-i-init c = record { long = c.told-axes; passed = omega arith; stored = rw axes_of_lists-none }

pub loop-i-preserved : goal.loop-i-preserved
loop-i-preserved c =
    let i = c.loop-i.i in
    let es = c.args.self.now.extents.now in
    let ss = c.args.self.now.strides.now in
    let extent = c.in-Some-Some.ensures.lookup.3 in
    let stride = c.in-Some-Some.ensures'.lookup.3 in
    let h : i < length es = extent.0 in
    let k : i < length ss = stride.0 in
    let m : length (take i es) ≡ i = length-take-le i es (omega arith) in
    let n : length (axes_of_lists (take i es) (take i ss)) ≡ i = length-axes_of_lists (take i es) (take i ss) (omega (arith, m, length-take-le i ss)) ∙ m in
    let fits : SFits w64 c.in-Some-Some.field-0-1.now = search rules in
    record {
      long = search rules;
      passed = omega arith;
      stored = rw (c.loop-i.invariant.stored, to_z-of_z w64 _ fits, extent.1 0, stride.1 (pos 0), axes_of_lists-more es ss i h k) (set-seam (axes_of_lists (take i es) (take i ss)) c.args.axes.now i _ n (omega arith));
    }
