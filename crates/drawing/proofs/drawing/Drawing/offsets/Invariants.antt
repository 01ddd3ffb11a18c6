use Rattle.std.proofs.Common.{◌≡◌, map}
use Rattle.std.specs.List.{range_with_len}
use Rattle.specification.specs.Layout.{offset_at}
use Rattle.view.specs.Model.{model_of}
use Rattle.drawing.proofs.drawing.Drawing.offsets.Given as goal

-- the offsets of the positions so far
abbrev pub invariant-loop-position : goal.invariant-loop-position
invariant-loop-position l = l.offsets.items ≡ map (offset_at (model_of l.self.layout)) (range_with_len 0 l.position)
