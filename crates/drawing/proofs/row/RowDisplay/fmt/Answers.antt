use Rattle.std.proofs.Common.{rules, ℕ, ◌+◌, Bool, List, ◌++◌, ◌∷◌, sym, ap, subst, ◌∙◌, filter, get_or, pos, refl}
use Rattle.std.specs.Ordering.{int_eq}
use Rattle.std.specs.Fmt.{HasWritten}
use Rattle.std.specs.List.{flat_map, range_with_len}
use Rattle.std.specs.Fmt.{decimal}
use Rattle.std.proofs.lemmas.Grind.{put_two}
use Rattle.view.specs.Printed.{list_text}
use Rattle.drawing.specs.Drawn.{spaced_index}
use Rattle.drawing.proofs.TextLaws.{chosen, passed_over}
use Rattle.drawing.proofs.row.RowDisplay.fmt.Goals as goal
use Rattle.drawing.proofs.row.RowDisplay.fmt.Goals.{then-has+in_ok-write-2, else-has}

pub loop-position-preserved : goal.loop-position-preserved
loop-position-preserved g c = λ plain.
    let row = c.args.self.now in
    let at : ℕ → Bool = λ k. int_eq (get_or row.offsets.now k (pos 0)) row.cell in
    let text = spaced_index row.axes.now in
    let k = c.loop-position.position in
    let took = g.W.Write.write_str_gives in
    let before = c.loop-position.invariant plain in
    elim c.if-has.branch [
      | then-has+in_ok-write-2 w ↦
          let after = w.in_ok-write-2.ensures.writes before.plain refl in
          let whole = ap (λ (index : List ℕ). flat_map text (filter at (range_with_len 0 k)) ++ 32 ∷ list_text decimal index) (w.as_slice.ensures.value ∙ w.index_of-index.ensures)
          ∙ sym (chosen at text k (sym c.has.ensures ∙ w.if-has.true)) in
          subst (λ f. HasWritten took c.write.new.self (flat_map text (filter at (range_with_len 0 (k + 1)))) f) (sym w.f-is) (put_two took c.write.new.self c.loop-position.f _ _ _ _ before after whole)
      | else-has w ↦
          subst (λ (written : List ℕ). HasWritten took c.write.new.self written c.if-has.f)
          (sym (passed_over at text k (sym c.has.ensures ∙ w.if-has.false))) (search (rules, before))
    ]
