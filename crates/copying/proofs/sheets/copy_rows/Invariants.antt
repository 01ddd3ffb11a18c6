-- The rows before j are copied; both rows stand at row j.
use Rattle.std.proofs.Common.{◌≡◌}
use Rattle.positions.specs.Positions.{word_of}
use Rattle.positions.specs.Runs.{run_at}
use Rattle.copying.proofs.RowsLaws.{rows_copied}
use Rattle.copying.proofs.sheets.copy_rows.Given as goal

abbrev pub invariant-loop-j : goal.invariant-loop-j
invariant-loop-j l = record {
  place : l.row.place ≡ run_at l.place (word_of l.source.rows.stride) l._j;
  step : l.row.step ≡ word_of l.source.run.stride;
  into_place : l.into_row.place ≡ run_at l.into (word_of l.fn.destination.rows.stride) l._j;
  into_step : l.into_row.step ≡ word_of l.fn.destination.run.stride;
  copied : l.to ≡ rows_copied l.place l.into l.source.run l.source.rows l.fn.destination.run l.fn.destination.rows l.from l.initial.to l._j;
}
