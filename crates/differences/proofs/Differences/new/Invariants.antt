-- `new` sets the axes before j up at no difference.
use Rattle.std.proofs.Common.{◌≡◌, length, take}
use Rattle.differences.proofs.ZeroVector.{zero_vector}
use Rattle.differences.proofs.Differences.new.Given as goal

abbrev pub invariant-loop-j : goal.invariant-loop-j
invariant-loop-j l = record {
  long : length l.differences ≡ 16;
  front : take l.j l.differences ≡ zero_vector (take l.j l.axes);
}
