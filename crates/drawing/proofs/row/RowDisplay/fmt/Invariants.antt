use Rattle.std.proofs.Common.{filter, get_or, pos}
use Rattle.std.specs.Ordering.{int_eq}
use Rattle.std.specs.List.{flat_map, range_with_len}
use Rattle.std.specs.Fmt.{HasWritten, IsPlainFormatter}
use Rattle.drawing.specs.Drawn.{spaced_index}
use Rattle.drawing.proofs.row.RowDisplay.fmt.Given as goal

-- the positions so far that stand at the cell are written
abbrev pub invariant-loop-position : goal.invariant-loop-position
invariant-loop-position g l =
    IsPlainFormatter l.initial.f → HasWritten g.W.Write.write_str_gives l.initial.f
    (flat_map (spaced_index l.self.axes.now) (filter (λ k. int_eq (get_or l.self.offsets.now k (pos 0)) l.self.cell) (range_with_len 0 l.position))) l.f
