-- The means before this one stand in front, and the place is that of the next.
use Rattle.std.proofs.Common.{◌≡◌, map, take}
use Rattle.std.specs.List.{range_with_len}
use Rattle.positions.specs.Runs.{run_at}
use Rattle.means.specs.Rows.{mean_from}
use Rattle.means.proofs.rows.write_row.Given as goal

abbrev pub invariant-loop-mean : goal.invariant-loop-mean
invariant-loop-mean l = record {
  place : l.place ≡ run_at l.start l.step l.mean-index;
  front : take l.mean-index l.out ≡ map (λ i. mean_from l.readings l.along (run_at l.start l.step i)) (range_with_len 0 l.mean-index);
}
