-- `split_axes` meets its contract: the axes before `place` have so many difference vectors, no more than there is room for.
use Rattle.std.proofs.Common.{◌≡◌, ◌≤◌, take}
use Rattle.specification.specs.Search.{box}
use Rattle.enumeration.proofs.parts.split_axes.Given as goal

abbrev pub invariant-loop-place : goal.invariant-loop-place
invariant-loop-place l = record {
  counted : l.vectors ≡ box (take l.place l.axes);
  room : l.vectors ≤ l.most;
}
