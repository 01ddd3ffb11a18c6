use Rattle.std.proofs.Common.{rules, length, ap, ◌∙◌, arith}
use Rattle.std.proofs.lemmas.List.FromFn.{length-map-range_with_len, map-range_with_len_more}
use Rattle.specification.specs.Layout.{offset_at}
use Rattle.view.specs.Model.{model_of}
use Rattle.drawing.proofs.drawing.Drawing.offsets.Goals as goal

pub push-requires : goal.push-requires
push-requires c =
    let as_many = ap length c.loop-position.invariant ∙ length-map-range_with_len (offset_at (model_of c.args.self.now.layout)) 0 c.loop-position.position in
    (omega arith, omega (arith, as_many, c.args.self.now.few, c.loop-position-test.true))

pub loop-position-preserved : goal.loop-position-preserved
loop-position-preserved c =
    let more = map-range_with_len_more (offset_at (model_of c.args.self.now.layout)) 0 c.loop-position.position c.loop-position.position (omega arith) in
    rw (c.push.ensures.items, c.loop-position.invariant, more) (search (rules, c.offset_of.ensures))
