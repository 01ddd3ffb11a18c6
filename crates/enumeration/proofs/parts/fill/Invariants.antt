-- The table holds the distances so far, none of them 0, and has room for those to come.
use Rattle.std.proofs.Common.{◌≡◌, ◌≢◌, ◌<◌, ◌≤◌, ◌+◌, ◌-◌, ℕ, IsTrue}
use Rattle.std.specs.FinSet.{contains}
use Rattle.specification.specs.Search.{box, half}
use Rattle.differences.specs.Differences.{IsDistance, distance_at}
use Rattle.enumeration.proofs.parts.fill.Given as goal

abbrev pub decreases-loop-distance : goal.decreases-loop-distance
decreases-loop-distance l = box l.axes - l.differences.number

abbrev pub invariant-loop-distance : goal.invariant-loop-distance
invariant-loop-distance l = record {
  same : l.differences.axes ≡ l.axes;
  middle : half l.axes ≤ l.differences.number;
  each : (k : ℕ) → half l.axes < k → k ≤ l.differences.number
      → (distance_at l.axes k ≢ 0) × IsTrue (contains l.table.numbers (distance_at l.axes k));
  only : (n : ℕ) → IsTrue (contains l.table.numbers n) → IsDistance l.axes n;
  room : half l.axes ≤ l.table.room + (l.differences.number - half l.axes);
}
