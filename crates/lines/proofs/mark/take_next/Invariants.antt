-- Nothing has been taken yet.
use Rattle.std.specs.Io.KnownBytes.{Keeps}
use Rattle.lines.proofs.mark.take_next.Given as goal

abbrev pub invariant-loop : goal.invariant-loop
invariant-loop g l = Keeps (g.R.Read.remaining l.initial.input) (g.R.Read.remaining l.input)
