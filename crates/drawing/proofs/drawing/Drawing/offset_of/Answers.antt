use Rattle.std.proofs.Common.{rules, ◌∙◌}
use Rattle.drawing.proofs.PositionLaws.{not_refused, its_offset}
use Rattle.drawing.proofs.drawing.Drawing.offset_of.Goals as goal

pub unwrap-offset-requires : goal.unwrap-offset-requires
unwrap-offset-requires c =
    let d = c.args.self.now in
    not_refused d.layout c.args.position d.accepted d.count d.counted d.few c.requires c.axes.ensures.all (c.as_slice.ensures.value ∙ c.index_of-index.ensures) _ c.indexed_offset.ensures

pub returns : goal.returns
returns c =
    let d = c.args.self.now in
    let e = its_offset d.layout c.args.position d.accepted d.count d.counted d.few c.requires c.axes.ensures.all (c.as_slice.ensures.value ∙ c.index_of-index.ensures) _ c.indexed_offset.ensures c.unwrap-offset.result c.unwrap-offset.ensures in
    search (rules, e)
