-- As many bytes of the mark have been taken as were looked for.
use Rattle.std.proofs.Common.{take}
use Rattle.std.specs.Io.KnownBytes.{Consumes}
use Rattle.lines.specs.Mark.{mark}
use Rattle.lines.proofs.mark.pass_mark.Given as goal

abbrev pub invariant-loop-seen : goal.invariant-loop-seen
invariant-loop-seen g l = Consumes (g.R.Read.remaining l.initial.input) (g.R.Read.remaining l.input) (take l.seen mark)
