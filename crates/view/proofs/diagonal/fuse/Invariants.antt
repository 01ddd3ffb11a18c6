-- The axes passed are in the classes at the places of their roots.
use Rattle.std.proofs.Common.{◌≡◌, length}
use Rattle.view.proofs.FusedLaws.{Stored}
use Rattle.view.proofs.diagonal.fuse.Given as goal

abbrev pub invariant-loop-axis : goal.invariant-loop-axis
invariant-loop-axis l = record {
  long : length l.fused ≡ 16;
  stored : Stored l.axes l.roots l.axis l.fused;
}
