-- A turn takes one axis and one index from the lists.
use Rattle.std.proofs.Common.{◌∙◌, sym, ap, get_or, arith, rules}
use Rattle.std.proofs.lemmas.Result.{err_from_is_err_and}
use mir.Syntax.{w64}
use mir.Val.{SFits}
use mir.ValLaws.{to_z-of_z}
use Rattle.specification.specs.Views.{axis_at}
use Rattle.view.specs.Indexed.{added_of}
use Rattle.view.proofs.IndexedLaws.{indexed-bad, indexed-over, indexed-on, indexed-end}
use Rattle.view.proofs.layout.Layout.sum_indexed.Goals as goal

pub returns-then-axis-x : goal.returns-then-axis-x
returns-then-axis-x c =
    let l = c.loop-i in
    sym (l.invariant ∙ indexed-bad c.few_axes-axes.result.now c.args.index.now l.i l.sum.0 c.loop-i-test.true (c.requires.one_length ∙ sym c.few_axes-axes.ensures.count) c.if-axis-x.true)

pub returns-in_err-sum : goal.returns-in_err-sum
returns-in_err-sum c =
    let l = c.loop-i in
    let axes = c.few_axes-axes.result.now in
    let index = c.args.index.now in
    let fits : SFits w64 (axis_at axes l.i).stride = search rules in
    let p = err_from_is_err_and c.from_residual.result c.from_residual.ensures.1 in
    rw (p.1, p.2)
    (sym (l.invariant ∙ indexed-over axes index l.i l.sum.0 c.loop-i-test.true (c.requires.one_length ∙ sym c.few_axes-axes.ensures.count) c.if-axis-x.false
    (c.in_err-sum.ensures ∙ ap (added_of l.sum.0 (get_or index l.i 0)) (to_z-of_z w64 (axis_at axes l.i).stride fits))))

pub loop-i-preserved : goal.loop-i-preserved
loop-i-preserved c =
    let l = c.loop-i in
    let axes = c.few_axes-axes.result.now in
    let index = c.args.index.now in
    let fits : SFits w64 (axis_at axes l.i).stride = search rules in
    l.invariant ∙ indexed-on axes index l.i l.sum.0 c.loop-i-test.true (c.requires.one_length ∙ sym c.few_axes-axes.ensures.count) c.in_ok-sum.sum.0 c.if-axis-x.false
    (c.in_ok-sum.ensures ∙ ap (added_of l.sum.0 (get_or index l.i 0)) (to_z-of_z w64 (axis_at axes l.i).stride fits))

pub returns : goal.returns
returns c = let l = c.loop-i in sym (l.invariant ∙ indexed-end c.few_axes-axes.result.now c.args.index.now l.i l.sum.0 (omega arith))
