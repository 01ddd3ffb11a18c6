use Rattle.std.proofs.Common.{[]}
use Rattle.commands.specs.Layouts.{layouts_of}
use Rattle.session.proofs.Owed.{Owed}
use Rattle.session.proofs.session.answer_lines.Given as goal

abbrev pub invariant-loop : goal.invariant-loop
invariant-loop g l = Owed (g.R.Read.remaining l.fn.input) (g.R.Read.remaining l.input) (g.W.Write.contents l.fn.out) (g.W.Write.contents l.out) [] (layouts_of l.layouts, l.all_obeyed)
