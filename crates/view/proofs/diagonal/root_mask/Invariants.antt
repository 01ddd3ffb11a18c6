-- The mask so far is that of the axes passed.
use Rattle.std.proofs.Common.{◌≡◌}
use Rattle.view.specs.Ties.{mask_of}
use Rattle.view.proofs.diagonal.root_mask.Given as goal

abbrev pub invariant-loop-axis : goal.invariant-loop-axis
invariant-loop-axis l = l.mask ≡ mask_of l.roots l.axis
