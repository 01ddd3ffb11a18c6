-- Sheet by sheet: the places of a sheet are those of its positions.
use Rattle.std.proofs.Common.{◌∙◌, refl, ap, length, arith}
use Rattle.specification.specs.Axis.{product}
use Rattle.copying.specs.Sheets.{axes_of}
use Rattle.copying.proofs.SweepLaws.{swept-none, swept-on}
use Rattle.copying.proofs.FrontLaws.{front-placed}
use Rattle.copying.proofs.sheets.copy_walked.Goals as goal

pub loop-more-init : goal.loop-more-init
loop-more-init c = rw (c.new-at.ensures.first, c.new-into.ensures.first) (swept-none c.args.source c.args.destination c.args.from.now c.args.to.now c.requires.suited.walkable.some)

pub copy_rows-requires-clause-in_source : goal.copy_rows-requires-clause-in_source
copy_rows-requires-clause-in_source c =
    let w = c.loop-more.invariant in
    let s = c.args.source in
    front-placed s.start (axes_of s.sheet) s.others.now (length c.args.from.now) c.loop-more.at.number c.place.result c.requires.in_source w.within
    (c.place.ensures ∙ rw (w.start, w.axes) refl)

pub copy_rows-requires-clause-in_destination : goal.copy_rows-requires-clause-in_destination
copy_rows-requires-clause-in_destination c =
    let w = c.loop-more.invariant in
    let d = c.args.destination in
    rw c.loop-more.auto.to
    (front-placed d.start (axes_of d.sheet) d.others.now (length c.args.to.now) c.loop-more.into.number c.place-in-loop-more.result c.requires.in_destination
    (omega (arith, w.alike c.loop-more-test.true, w.within, ap product c.requires.suited.others_alike)) (c.place-in-loop-more.ensures ∙ rw (w.into_start, w.into_axes) refl))

pub loop-more-preserved : goal.loop-more-preserved
loop-more-preserved c =
    let a = c.args in
    let w = rw c.loop-more-test.true at c.loop-more.invariant in
    let n = c.next-more.ensures in
    let m = c.next.ensures in
    swept-on a.source a.destination a.from.now a.to.now w c.requires.suited
    (c.copy_rows.ensures ∙ rw (c.place.ensures, c.place-in-loop-more.ensures, w.start, w.axes, w.into_start, w.into_axes, w.alike refl) refl)
    n.axes n.start n.within n.on n.last m.axes m.start m.on m.last
