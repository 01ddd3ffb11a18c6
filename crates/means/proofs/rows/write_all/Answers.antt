-- By the first axis that remains, or one mean if none does.
use Rattle.std.proofs.Common.{◌≡◌, ◌∙◌, sym, ap, length, rules, w32, to_z, of_z, arith}
use Rattle.positions.specs.Positions.{place_at}
use Rattle.positions.proofs.RunLaws.{run-placed}
use Rattle.means.specs.Rows.{mean_from}
use Rattle.means.proofs.RowLaws.{front-axis, lone-place, lone-positions, lone-mean}
use Rattle.means.proofs.rows.write_all.Goals as goal

pub write_rows-requires-clause-walkable : goal.write_rows-requires-clause-walkable
write_rows-requires-clause-walkable c = (front-axis c.args.rest.now c.in-len1-up.len_at_least c.requires.walkable).1

pub write_rows-requires-clause-some_row : goal.write_rows-requires-clause-some_row
write_rows-requires-clause-some_row c = (front-axis c.args.rest.now c.in-len1-up.len_at_least c.requires.walkable).0

pub mean_along-requires-clause-in_readings : goal.mean_along-requires-clause-in_readings
mean_along-requires-clause-in_readings c =
    let a = c.args in
    let one = lone-positions a.rest.now c.in-empty.len_below a.start c.ranges.start.fits in
    run-placed a.start a.along a.rest.now (length a.readings.now) 0 a.start c.requires.in_readings (omega (arith, one)) (sym (lone-place a.rest.now c.in-empty.len_below a.start c.ranges.start.fits))

pub returns-in-empty : goal.returns-in-empty
returns-in-empty c =
    let a = c.args in
    let one = lone-positions a.rest.now c.in-empty.len_below a.start c.ranges.start.fits in
    let r : to_z w32 (of_z w32 c.mean_along.result) ≡ c.mean_along.result = search rules in
    lone-mean (λ k. mean_from a.readings.now a.along (place_at a.start a.rest.now k)) a.out.now _ (c.requires.as_many ∙ one)
    (r ∙ c.mean_along.ensures ∙ ap (mean_from a.readings.now a.along) (sym (lone-place a.rest.now c.in-empty.len_below a.start c.ranges.start.fits)))
