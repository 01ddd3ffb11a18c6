-- Row by row.
use Rattle.std.proofs.Common.{◌≡◌, ap, ◌∙◌, length, rules, arith, ℕ}
use Rattle.positions.proofs.RunLaws.{run_at-zero, run_at-add_one}
use Rattle.positions.specs.Positions.{word_of, place_at}
use Rattle.copying.specs.Copy.{copies}
use Rattle.copying.specs.Sheets.{axes_of}
use Rattle.copying.proofs.RowsLaws.{rows_copied, same-extents, row-placed, row-copied, no-row, all-rows}
use Rattle.copying.proofs.sheets.copy_rows.Goals as goal

pub loop-j-init : goal.loop-j-init
loop-j-init c = record {
  place = run_at-zero _ _ (search rules);
  step = search rules;
  into_place = run_at-zero _ _ (search rules);
  into_step = search rules;
  copied = no-row _ _ _ _ _ _ _ _;
}

pub copy_run-requires-clause-in_source : goal.copy_run-requires-clause-in_source
copy_run-requires-clause-in_source c =
    let w = c.loop-j.invariant in
    let s = c.args.source in
    rw (w.place, w.step) (row-placed c.args.place s.run s.rows c.loop-j._j c.loop-j-test.true (length c.args.from.now) c.requires.in_source)

pub copy_run-requires-clause-in_destination : goal.copy_run-requires-clause-in_destination
copy_run-requires-clause-in_destination c =
    let w = c.loop-j.invariant in
    let d = c.args.destination in
    let e = same-extents c.requires.alike in
    let placed = row-placed c.args.into d.run d.rows c.loop-j._j (omega (arith, c.loop-j-test.true, e.1)) (length c.args.to.now) c.requires.in_destination in
    rw (w.into_place, w.into_step, c.loop-j.auto.to) (rw e.0 at placed)

pub loop-j-preserved : goal.loop-j-preserved
loop-j-preserved c =
    let a = c.args in
    let w = c.loop-j.invariant in
    let s : c.cast_unsigned-row_step.result ≡ word_of a.source.rows.stride = search rules in
    let d : c.cast_unsigned-into_row_step.result ≡ word_of a.destination.rows.stride = search rules in
    record {
      place = rw (w.place, s) (run_at-add_one _ _ c.loop-j._j);
      step = w.step;
      into_place = rw (w.into_place, d) (run_at-add_one _ _ c.loop-j._j);
      into_step = w.into_step;
      copied = c.copy_run.ensures ∙ rw (w.place, w.step, w.into_place, w.into_step, w.copied)
          (row-copied a.place a.into a.source.run a.source.rows a.destination.run a.destination.rows a.from.now a.to.now c.loop-j._j c.loop-j-test.true c.requires.alike);
    }

pub returns : goal.returns
returns c =
    let a = c.args in
    let n : c.loop-j._j ≡ a.source.rows.extent = search rules in
    c.loop-j.invariant.copied ∙ ap (λ (k : ℕ). rows_copied a.place a.into a.source.run a.source.rows a.destination.run a.destination.rows a.from.now a.to.now k) n
    ∙ ap (λ (k : ℕ). copies (place_at a.place (axes_of a.source)) (place_at a.into (axes_of a.destination)) a.from.now k a.to.now) (all-rows a.source.run a.source.rows)
