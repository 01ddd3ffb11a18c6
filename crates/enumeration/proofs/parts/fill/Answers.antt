-- The distance that was put is that of the vector which the walk came to.
use Rattle.std.proofs.Common.{◌∙◌, ap, arith}
use Rattle.specification.specs.Search.{box}
use Rattle.differences.specs.Differences.{distance_at}
use Rattle.enumeration.proofs.Visits.{each-more, only-more}
use Rattle.enumeration.proofs.parts.fill.Goals as goal

pub loop-distance-preserved : goal.loop-distance-preserved
loop-distance-preserved c =
    let i = c.loop-distance.invariant in
    let v = c.in-Some.ensures in
    let p = c.put.ensures in
    let same = v.axes ∙ i.same in
    let d = v.distance ∙ ap (λ z. distance_at z c.next.new.self.number) same in
    let b = ap box same in
    record {
      same = same;
      middle = omega (arith, v.on);
      each = λ k l. each-more _ _ _ _ _ p.numbers d c.if-distance-eq0.false k (λ m. i.each k l (omega (arith, v.on)));
      only = λ n. only-more _ _ _ _ _ p.numbers d (omega (arith, v.on)) (omega (arith, v.within, b)) n (i.only n);
      room = omega (arith, v.on, p.room);
    }
