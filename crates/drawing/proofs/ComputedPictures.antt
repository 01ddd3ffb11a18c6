-- The pictures of specs/PictureCases: they compute.
use Rattle.std.proofs.Common.{refl}
use Rattle.specification.proofs.Computing.{computing}
use Rattle.std.specs.Fmt.{digits}
use Rattle.specification.specs.Axis.{offset_sum}
use Rattle.view.specs.Count.{element_count}
use Rattle.view.specs.Printed.{joined, list_text}
use Rattle.drawing.specs.Drawn.{insert_cell, cells_of, row_text, picture_text, drawn}
use Rattle.drawing.specs.PictureCases.{PictureCases}

pub picture_cases : PictureCases
unfolding computing digits offset_sum element_count joined list_text insert_cell cells_of row_text picture_text drawn
picture_cases = record {
  shared = refl;
  backward = refl;
  still = refl;
  single = refl;
  empty = refl;
  largest = refl;
  outside = refl;
  uncounted = refl;
}
