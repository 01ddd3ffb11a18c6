-- A factor on the way is at most the whole product, so a product that passes 64 bits on the way passes them in the end.
use Rattle.std.proofs.lemmas.Result.{err_from_is_err_and}
use Rattle.std.proofs.Common.{Some, None, ◌≡◌, ℕ, sym, ap, ◌∙◌, ◌*◌, get_or, arith}
use native.Mathlib.Nat.{mul-one}
use Rattle.integer.specs.Range.{most_unsigned}
use Rattle.specification.specs.Axis.{product}
use Rattle.view.specs.Bounded.{bounded_by}
use Rattle.view.proofs.BoundedLaws.{is-bounded, over-bounded}
use Rattle.view.proofs.CountLaws.{length-each, extent-here, product-turn, product-end, product-above, factor-below, count-many, count-empty, count-within, count-over}
use Rattle.view.proofs.count.element_count.Goals as goal

pub returns-then-list-gt-MOST_AXES : goal.returns-then-list-gt-MOST_AXES
returns-then-list-gt-MOST_AXES g c = sym (count-many _ (omega (arith, length-each g.E.Extent.extent_of c.args.list.now _ (g.met.E.Extent.each c.args.list.now))))

pub returns-then-has_no_position : goal.returns-then-has_no_position
returns-then-has_no_position g c =
    sym (count-empty _ (omega (arith, length-each g.E.Extent.extent_of c.args.list.now _ (g.met.E.Extent.each c.args.list.now)))
    (sym c.has_no_position.ensures ∙ c.if-has_no_position.true))

pub returns-in_err-count : goal.returns-in_err-count
returns-in_err-count g c =
    let l = c.loop-entry in
    let list = c.args.list.now in
    let e = g.met.E.Extent.each list in
    let es = g.E.Extent.extents_of list in
    let n = length-each g.E.Extent.extent_of list _ e in
    let here = extent-here g.E.Extent.extent_of list es l.entry-index c.entry-item.result e (omega arith) c.entry-item.is in
    let next = l.count * get_or es l.entry-index 0 in
    let q : c.bounded_product.result ≡ None = grind arith in
    let p = err_from_is_err_and c.from_residual.result c.from_residual.ensures.1 in
    let over = over-bounded most_unsigned next (c.bounded_product.ensures ∙ ap (λ (x : ℕ). bounded_by most_unsigned (l.count * x)) (c.extent.ensures ∙ sym here)) q in
    let why : c.in_err-count.field-0.0 ≡ Rattle.view.specs.declared.layout.Refusal.TheVariants.TooManyPositions = grind arith in
    rw (p.1, p.2, why) (sym (count-over es (omega arith) l.invariant.none_zero
    (factor-below next _ _ most_unsigned (product-turn es l.entry-index l.count (omega arith) l.invariant.left) (product-above es l.invariant.none_zero) over)))

pub loop-entry-preserved : goal.loop-entry-preserved
loop-entry-preserved g c =
    let l = c.loop-entry in
    let list = c.args.list.now in
    let e = g.met.E.Extent.each list in
    let es = g.E.Extent.extents_of list in
    let n = length-each g.E.Extent.extent_of list _ e in
    let here = extent-here g.E.Extent.extent_of list es l.entry-index c.entry-item.result e (omega arith) c.entry-item.is in
    let next = l.count * get_or es l.entry-index 0 in
    let q : c.bounded_product.result ≡ Some c.in_ok-count.count = grind arith in
    let more = is-bounded most_unsigned next _ (c.bounded_product.ensures ∙ ap (λ (x : ℕ). bounded_by most_unsigned (l.count * x)) (c.extent.ensures ∙ sym here)) q in
    record {
      few = l.invariant.few;
      none_zero = l.invariant.none_zero;
      count_most = omega arith;
      left = rw more.0 (product-turn es l.entry-index l.count (omega arith) l.invariant.left);
    }

pub returns : goal.returns
returns g c =
    let l = c.loop-entry in
    let es = g.E.Extent.extents_of c.args.list.now in
    let n = length-each g.E.Extent.extent_of c.args.list.now _ (g.met.E.Extent.each c.args.list.now) in
    let p : l.count ≡ product es = sym (mul-one l.count) ∙ ap (λ (n : ℕ). l.count * n) (sym (product-end es l.entry-index (omega arith))) ∙ l.invariant.left in
    rw p (sym (count-within es (omega (arith, l.invariant.few)) (omega arith)))
