-- `new`: the axes before j are set up.
use Rattle.walk.proofs.Start.{Made}
use Rattle.walk.proofs.Walk.new.Given as goal

abbrev pub invariant-loop-j : goal.invariant-loop-j
invariant-loop-j l = Made l.two l.others l.axes l.j
