use Rattle.std.proofs.Common.{◌≡◌, ◌∷◌, ◌++◌}
use Rattle.std.specs.List.{flat_map}
use Rattle.std.specs.Fmt.{HasWritten, IsPlainFormatter}
use Rattle.view.specs.Model.{model_of}
use Rattle.drawing.specs.Drawn.{offsets, row_text}
use Rattle.drawing.specs.Pictured.{cells_left}
use Rattle.drawing.proofs.picture.DrawingDisplay.fmt.Given as goal

-- a line is written for each cell so far, and the others follow
abbrev pub invariant-loop-cell : goal.invariant-loop-cell
invariant-loop-cell g l = record {
  all : l.yielded ++ cells_left l.cell-iterator ≡ cells_left l.initial.cell-iterator;
  written : IsPlainFormatter l.initial.f → HasWritten g.W.Write.write_str_gives l.initial.f
      (flat_map (λ cell. 10 ∷ row_text (model_of l.self.layout).axes (offsets (model_of l.self.layout)) cell) l.yielded) l.f;
}
