-- The rows before this one stand in front, and the walk stands at its position, if there is one.
use Rattle.std.proofs.Common.{◌≡◌, ◌<◌, ◌∷◌, ◌*◌, ◌-◌, length, map, take}
use Rattle.std.specs.List.{range_with_len}
use Rattle.specification.specs.Axis.{positions}
use Rattle.positions.specs.Positions.{place_at}
use Rattle.means.specs.Rows.{mean_from}
use Rattle.means.proofs.rows.write_rows.Given as goal

abbrev pub invariant-loop-done : goal.invariant-loop-done
invariant-loop-done l = record {
  axes : l.position.axes ≡ l.others;
  start : l.position.start ≡ l.start;
  number : l.done < length l.initial.out → l.done ≡ l.count * l.position.number;
  within : l.position.number < positions l.others;
  front : take l.done l.out ≡ map (λ k. mean_from l.readings l.along (place_at l.start (l.fn.row ∷ l.others) k)) (range_with_len 0 l.done);
}

abbrev pub decreases-loop-done : goal.decreases-loop-done
decreases-loop-done l = length l.initial.out - l.done
