-- A front is written, and `rest` is left.
use Rattle.lines.proofs.Front.{Written}
use Rattle.lines.proofs.write.write_front.Given as goal

abbrev pub invariant-loop : goal.invariant-loop
invariant-loop g l = Written (g.W.Write.contents l.initial.out) (g.W.Write.contents l.out) l.bytes l.rest
