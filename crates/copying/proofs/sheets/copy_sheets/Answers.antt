-- One sheet has no other axes, on both sides.
use Rattle.std.proofs.Common.{◌≡◌, ◌∙◌, ap, length, rules}
use Rattle.specification.specs.Axis.{extents}
use Rattle.copying.proofs.SweepLaws.{none-other, none-too, one-sheet}
use Rattle.copying.proofs.sheets.copy_sheets.Goals as goal

pub copy_rows-requires-clause-in_destination : goal.copy_rows-requires-clause-in_destination
copy_rows-requires-clause-in_destination c =
    let e : length c.args.source.others.now ≡ 0 = search rules in
    let f = none-too c.args.destination.others.now (c.requires.suited.others_alike ∙ ap extents (none-other c.args.source.others.now e)) in
    rw f at c.requires.in_destination

pub returns-then-is_empty : goal.returns-then-is_empty
returns-then-is_empty c =
    let e : length c.args.source.others.now ≡ 0 = search rules in
    let n = none-other c.args.source.others.now e in
    let f = none-too c.args.destination.others.now (c.requires.suited.others_alike ∙ ap extents n) in
    c.copy_rows.ensures ∙ one-sheet c.args.source c.args.destination c.args.from.now c.args.to.now n f
