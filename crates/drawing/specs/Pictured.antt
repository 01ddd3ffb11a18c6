-- What the code's answer says of a layout.
use Rattle.std.specs.Prelude.{ℤ, Bool, true, ◌&&◌, List, [], ◌∷◌, filter, int_lt, Option, Some, None, if◌then◌else◌}
use Rattle.view.specs.Model.{model_of}
use Rattle.drawing.specs.declared.cells.Cells.{Cells}
use Rattle.drawing.specs.declared.drawing.Drawn.{Drawn}
use Rattle.drawing.specs.declared.drawing.Drawn.TheVariants as code
use Rattle.drawing.specs.Drawn.{Picture, picture, too_many, picture_text, cells_of}

-- the picture that is drawn, or the count that is told
abbrev pub pictured : Drawn → Picture
pictured (code.Picture drawing) = picture (picture_text (model_of drawing.layout))
pictured (code.TooMany count) = too_many count

-- whether a cell comes after the one that is passed, if there is one
abbrev pub is_past : Option ℤ → ℤ → Bool
is_past None cell = true
is_past (Some passed) cell = int_lt passed cell

-- whether a cell comes before the lowest so far, if there is one
abbrev pub is_lower : Option ℤ → ℤ → Bool
is_lower None cell = true
is_lower (Some lowest) cell = int_lt cell lowest

-- the lowest cell past one, with another cell looked at
abbrev pub lowered : Option ℤ → Option ℤ → ℤ → Option ℤ
lowered passed lowest cell = if is_past passed cell && is_lower lowest cell then Some cell else lowest

-- the first cell of a list
abbrev pub first_cell : List ℤ → Option ℤ
first_cell [] = None
first_cell (cell ∷ cells) = Some cell

-- the cells that are still to come
abbrev pub cells_left : Cells → List ℤ
cells_left cells = filter (is_past cells.passed) (cells_of cells.offsets.now)
