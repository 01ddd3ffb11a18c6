-- By the sign of its stride an axis takes of one of the limits alone; a span above what is left of it is found by the product.
use Rattle.std.proofs.Common.{◌≡◌, ◌-◌, ◌+◌, ◌*◌, ◌≤◌, false, sym, ◌∙◌, arith}
use borrow.Author.Rules.{rules}
use Rattle.specification.specs.Views.{axis_at}
use Rattle.view.proofs.BoundedLaws.{is-bounded, over-bounded}
use Rattle.view.proofs.CountLaws.{entry-length, entry-last}
use Rattle.view.proofs.SpansLaws.{spans-are, spans-above, spans-below, falling-turn, rising-turn, spans-end, widths-turn, widths-stop, widths-end, none-wider}
use Rattle.view.proofs.bounds.spans_within.Goals as goal
use Rattle.view.proofs.bounds.spans_within.Goals.{else-not-wide_passes-via-then-not-wide_passes+else-last, else-not-wide_passes-via-else-not-wide_passes, then-stride-lt0+in_ok-down, else-stride-lt0+in_ok-up}

pub stride-stride-requires : goal.stride-stride-requires
stride-stride-requires g c =
    let n = entry-length g.A.Entry.Extent.extent_of c.entries-entry-items.result.now (g.A.Axes.axes_of c.args.axes) _ (g.met.A.Entry.Extent.each _) c.entries-entry-items.ensures in
    omega arith

pub returns-then-last : goal.returns-then-last
returns-then-last g c =
    let l = c.loop-place in
    let a = c.args in
    let axes = g.A.Axes.axes_of a.axes in
    let last = entry-last g.A.Entry.Extent.extent_of _ axes _ (g.met.A.Entry.Extent.each _) c.entries-entry-items.ensures l.place c.entry-item.result c.loop-place-test.true c.entry-item.is _ _ c.extent.ensures c.saturating_sub-last.ensures in
    none-wider a.wide_passes a.above a.below axes (widths-stop a.wide_passes axes l.place last.0 l.invariant.narrow c.if-not-wide_passes.true (omega (arith, last.1)))

pub returns-in_err-down : goal.returns-in_err-down
returns-in_err-down g c =
    let l = c.loop-place in
    let a = c.args in
    let axes = g.A.Axes.axes_of a.axes in
    let last = entry-last g.A.Entry.Extent.extent_of _ axes _ (g.met.A.Entry.Extent.each _) c.entries-entry-items.ensures l.place c.entry-item.result c.loop-place-test.true c.entry-item.is _ _ c.extent.ensures c.saturating_sub-last.ensures in
    let far = over-bounded l.down (c.saturating_sub-last.result * c.unsigned_abs.result) c.bounded_product.ensures c.in_err-down.was in
    let left = falling-turn axes l.place (a.above - l.up) (a.below - l.down) c.saturating_sub-last.result c.unsigned_abs.result c.stride-stride.result l.invariant.left last.0 last.1 c.stride-stride.ensures (search rules) c.if-stride-lt0.true c.unsigned_abs.ensures.value in
    c.from_residual.ensures ∙ sym (spans-below a.wide_passes a.above a.below axes (omega (arith, left.down_left)))

pub returns-in_err-up : goal.returns-in_err-up
returns-in_err-up g c =
    let l = c.loop-place in
    let a = c.args in
    let axes = g.A.Axes.axes_of a.axes in
    let last = entry-last g.A.Entry.Extent.extent_of _ axes _ (g.met.A.Entry.Extent.each _) c.entries-entry-items.ensures l.place c.entry-item.result c.loop-place-test.true c.entry-item.is _ _ c.extent.ensures c.saturating_sub-last.ensures in
    let far = over-bounded l.up (c.saturating_sub-last.result * c.unsigned_abs-else-stride-lt0.result) c.bounded_product-else-stride-lt0.ensures c.in_err-up.was in
    let left = rising-turn axes l.place (a.above - l.up) (a.below - l.down) c.saturating_sub-last.result c.unsigned_abs-else-stride-lt0.result c.stride-stride.result l.invariant.left last.0 last.1 c.stride-stride.ensures (search rules) c.if-stride-lt0.false c.unsigned_abs-else-stride-lt0.ensures.value in
    c.from_residual-in_err-up.ensures ∙ sym (spans-above a.wide_passes a.above a.below axes (omega (arith, left.up_left)))

pub loop-place-preserved : goal.loop-place-preserved
loop-place-preserved g c =
    let l = c.loop-place in
    let a = c.args in
    let axes = g.A.Axes.axes_of a.axes in
    let last = entry-last g.A.Entry.Extent.extent_of _ axes _ (g.met.A.Entry.Extent.each _) c.entries-entry-items.ensures l.place c.entry-item.result c.loop-place-test.true c.entry-item.is _ _ c.extent.ensures c.saturating_sub-last.ensures in
    let thin : a.wide_passes ≡ false → (axis_at axes l.place).extent ≤ 9223372036854775808 = λ f. elim c.else-not-wide_passes.branch [
      | else-not-wide_passes-via-then-not-wide_passes+else-last w ↦ omega (arith, last.1, w.if-last.false)
      | else-not-wide_passes-via-else-not-wide_passes w ↦ cc (f, w.if-not-wide_passes.false)
    ]
    in
    let narrow = widths-turn a.wide_passes axes l.place last.0 l.invariant.narrow thin in
    elim c.if-stride-lt0.branch [
      | then-stride-lt0+in_ok-down w ↦
          let more = is-bounded _ _ _ w.bounded_product.ensures w.in_ok-down.was in
          let taken : (a.below - l.down) + c.saturating_sub-last.result * w.unsigned_abs.result ≡ a.below - c.if-stride-lt0.down = omega arith in
          record {
            entries = l.invariant.entries;
            up_most = omega arith;
            down_most = omega arith;
            narrow = narrow;
            left = rw (w.up-is, ← taken) (falling-turn axes l.place (a.above - l.up) (a.below - l.down) c.saturating_sub-last.result w.unsigned_abs.result c.stride-stride.result l.invariant.left last.0 last.1 c.stride-stride.ensures (search rules) w.if-stride-lt0.true w.unsigned_abs.ensures.value);
          }
      | else-stride-lt0+in_ok-up w ↦
          let more = is-bounded _ _ _ w.bounded_product-else-stride-lt0.ensures w.in_ok-up.was in
          let taken : (a.above - l.up) + c.saturating_sub-last.result * w.unsigned_abs-else-stride-lt0.result ≡ a.above - c.if-stride-lt0.up = omega arith in
          record {
            entries = l.invariant.entries;
            up_most = omega arith;
            down_most = omega arith;
            narrow = narrow;
            left = rw (w.down-is, ← taken) (rising-turn axes l.place (a.above - l.up) (a.below - l.down) c.saturating_sub-last.result w.unsigned_abs-else-stride-lt0.result c.stride-stride.result l.invariant.left last.0 last.1 c.stride-stride.ensures (search rules) w.if-stride-lt0.false w.unsigned_abs-else-stride-lt0.ensures.value);
          }
    ]

pub returns : goal.returns
returns g c =
    let l = c.loop-place in
    let a = c.args in
    let axes = g.A.Axes.axes_of a.axes in
    let n = entry-length g.A.Entry.Extent.extent_of c.entries-entry-items.result.now axes _ (g.met.A.Entry.Extent.each _) c.entries-entry-items.ensures in
    let e = spans-end axes l.place (a.above - l.up) (a.below - l.down) l.invariant.left (omega arith) in
    rw (e.0, e.1, widths-end a.wide_passes axes l.place l.invariant.narrow (omega arith)) (sym (spans-are a.above a.below axes (omega arith) (omega arith)))
