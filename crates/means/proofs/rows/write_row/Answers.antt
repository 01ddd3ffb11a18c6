-- Mean by mean.
use Rattle.std.proofs.Common.{◌≡◌, ◌∙◌, ap, rules, w32, to_z, of_z}
use Rattle.positions.specs.Runs.{run_at}
use Rattle.positions.proofs.RunLaws.{run_at-zero, run_at-add_one}
use Rattle.means.specs.Rows.{mean_from}
use Rattle.means.proofs.RowLaws.{mean-more}
use Rattle.means.proofs.rows.write_row.Goals as goal

pub loop-mean-init : goal.loop-mean-init
loop-mean-init c = record { place = run_at-zero _ _ c.ranges.start.fits; front = search rules }

pub mean_along-requires-clause-in_readings : goal.mean_along-requires-clause-in_readings
mean_along-requires-clause-in_readings c = rw c.loop-mean.invariant.place (c.requires.in_readings c.loop-mean.mean-index c.loop-mean-test.true)

pub loop-mean-preserved : goal.loop-mean-preserved
loop-mean-preserved c =
    let a = c.args in
    let i = c.loop-mean.invariant in
    let r : to_z w32 (of_z w32 c.mean_along.result) ≡ c.mean_along.result = search rules in
    record {
      place = rw i.place (run_at-add_one a.start a.step c.loop-mean.mean-index);
      front = mean-more (λ i. mean_from a.readings.now a.along (run_at a.start a.step i)) c.loop-mean.out c.loop-mean.mean-index _ (search rules) i.front
          (r ∙ c.mean_along.ensures ∙ ap (mean_from a.readings.now a.along) i.place);
    }
