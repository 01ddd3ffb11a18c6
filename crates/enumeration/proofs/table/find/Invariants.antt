-- `find` meets its contract: no word from the home up to the place is free, and none is n.
use Rattle.std.proofs.Common.{◌≢◌, ◌≤◌, ◌<◌, ℕ, get_or}
use Rattle.enumeration.specs.Homes.{home_of, IsReached}
use Rattle.enumeration.proofs.table.find.Given as goal

abbrev pub invariant-loop-i : goal.invariant-loop-i
invariant-loop-i l = record {
  reached : IsReached l.homes l.words l.n l.i;
  missed : (k : ℕ) → home_of l.homes l.n ≤ k → k < l.i → get_or l.words k 0 ≢ l.n;
}
