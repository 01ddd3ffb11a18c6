-- Both layouts as sheets.
use Rattle.std.proofs.Common.{◌≡◌, ◌<◌, ap, ◌∙◌, length}
use Rattle.specification.specs.Axis.{extents, positions, product}
use Rattle.specification.specs.Layout.{LayoutModel}
use Rattle.view.specs.Model.{model_of}
use Rattle.copying.proofs.PositionLaws.{are-alike, placed, sheets-copied}
use Rattle.copying.proofs.copy_positions.Goals as goal

-- a position of the destination, so one of the source
some-too : (s d : LayoutModel) → extents s.axes ≡ extents d.axes → 0 < positions d.axes → 0 < positions s.axes
some-too s d e h = rw (ap product e) h

pub of-requires-clause-some : goal.of-requires-clause-some
of-requires-clause-some c = some-too (model_of c.args.source.now) (model_of c.args.destination.now) c.requires.suited.paired.same_extents c.requires.some

pub copy_sheets-requires-clause-suited : goal.copy_sheets-requires-clause-suited
copy_sheets-requires-clause-suited c =
    let p = c.requires.suited.paired in
    are-alike c.of.ensures c.of-2.ensures p.same_extents p.source_accepted p.destination_accepted (some-too (model_of c.args.source.now) (model_of c.args.destination.now) p.same_extents c.requires.some) c.requires.some

pub copy_sheets-requires-clause-in_source : goal.copy_sheets-requires-clause-in_source
copy_sheets-requires-clause-in_source c = placed c.of.ensures (length c.args.from.now) c.requires.suited.paired.source_accepted c.requires.suited.source_held

pub copy_sheets-requires-clause-in_destination : goal.copy_sheets-requires-clause-in_destination
copy_sheets-requires-clause-in_destination c = placed c.of-2.ensures (length c.args.to.now) c.requires.suited.paired.destination_accepted c.requires.suited.destination_held

pub returns : goal.returns
returns c = c.copy_sheets.ensures ∙ sheets-copied c.of.ensures c.of-2.ensures c.requires.suited.paired.same_extents c.args.from.now c.args.to.now
