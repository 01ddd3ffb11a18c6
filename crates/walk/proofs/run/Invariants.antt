-- `run`: no vector on the way was completed.
use Rattle.std.proofs.Common.{◌-◌}
use Rattle.walk.specs.Underway.{others_of}
use Rattle.walk.proofs.Running.{Running}
use Rattle.walk.proofs.run.Given as goal

abbrev pub invariant-loop-count : goal.invariant-loop-count
invariant-loop-count l =
    Running l.fn.two (others_of l.fn.axes) l.fn.place.count l.stop l.axes (record { count = l.count; residues = l.residues })

abbrev pub decreases-loop-count : goal.decreases-loop-count
decreases-loop-count l = l.stop - l.count
