-- What was read so far, and what the writer holds.
use Rattle.std.specs.Io.KnownBytes.{Keeps}
use Rattle.lines.proofs.SoFar.{SoFar}
use Rattle.lines.proofs.line.Line.read.Given as goal

abbrev pub invariant-loop : goal.invariant-loop
invariant-loop g l = SoFar (g.R.Read.remaining l.initial.input) (g.R.Read.remaining l.input) l.self × Keeps (g.W.Write.contents l.initial.out) (g.W.Write.contents l.out)
