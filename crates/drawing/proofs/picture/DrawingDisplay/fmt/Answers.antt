use Rattle.std.proofs.Common.{◌≡◌, ℕ, ℤ, List, ◌∷◌, ◌++◌, codes, ◌∙◌, arith, ap, length, refl, sym}
use Rattle.std.specs.List.{flat_map}
use Rattle.std.specs.Fmt.{decimal}
use Rattle.std.proofs.lemmas.List.{append-nil}
use mathlib.Core.Logic.{inl}
use Rattle.std.proofs.lemmas.List.FromFn.{length-map-range_with_len}
use Rattle.std.proofs.lemmas.Iterator.Consumers.{YieldsList-from_first, count_from_yields_List}
use Rattle.specification.specs.Axis.{positions}
use Rattle.specification.specs.Layout.{LayoutModel, offset_at}
use Rattle.std.proofs.lemmas.Grind.{put_two}
use Rattle.view.specs.Model.{model_of}
use Rattle.drawing.specs.Drawn.{picture_text, row_text, cells_of, offsets}
use Rattle.drawing.specs.Pictured.{cells_left}
use Rattle.drawing.proofs.CellLaws.{few_cells}
use Rattle.drawing.proofs.picture.DrawingDisplay.fmt.Goals as goal

pub count-requires-clause-fits : goal.count-requires-clause-fits
count-requires-clause-fits g c = inl (omega (arith, ap length c.of-cells.ensures, few_cells c.as_slice.result.now, c.as_slice.ensures.fits))

pub invariant_of-row : goal.invariant_of-row
invariant_of-row g c =
    let l = model_of c.args.self.now.layout in
    record {
      few = c.axes.ensures.few;
      all = ap length (c.as_slice-in-loop-cell.ensures.value ∙ c.offsets-offsets.ensures) ∙ length-map-range_with_len (offset_at l) 0 (positions l.axes) ∙ ap positions (sym c.axes.ensures.all);
    }

abbrev line : LayoutModel → ℤ → List ℕ
line l cell = 10 ∷ row_text l.axes (offsets l) cell

pub returns-clause-writes : goal.returns-clause-writes
unfolding picture_text
returns-clause-writes g c = λ plain ok.
    let l = model_of c.args.self.now.layout in
    let cells : cells_left c.of-cells.result ≡ cells_of (offsets l) = c.of-cells.ensures ∙ ap cells_of (c.as_slice.ensures.value ∙ c.offsets-offsets.ensures) in
    let count : c.count.result ≡ length (cells_of (offsets l)) = count_from_yields_List c.of-cells.result c.count.result c.count.ensures.ran (YieldsList-from_first (λ x. x) cells_left (cells_of (offsets l)) cells) in
    let first = c.in_ok-write.ensures.writes plain refl in
    let lines = c.loop-cell.invariant.written first.plain in
    let all : c.loop-cell.yielded ≡ cells_of (offsets l) =
    sym (append-nil c.loop-cell.yielded) ∙ ap (λ list. c.loop-cell.yielded ++ list) (sym c.in-None.ensures.steps.0) ∙ c.loop-cell.invariant.all
    ∙ ap cells_left c.into_iter-cell-iterator.ensures.into_iter_gives ∙ cells in
    put_two g.W.Write.write_str_gives c.args.f.now c.write.new.self c.loop-cell.f _ _ _ first lines
    (ap (λ (n : ℕ). codes "cells " ++ decimal n ++ flat_map (line l) c.loop-cell.yielded) count
    ∙ ap (λ (list : List ℤ). codes "cells " ++ decimal (length (cells_of (offsets l))) ++ flat_map (line l) list) all)
