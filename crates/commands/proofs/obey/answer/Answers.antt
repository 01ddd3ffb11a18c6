use Rattle.commands.proofs.Asked.{record_asks}
use Rattle.commands.proofs.obey.answer.Goals as goal

pub returns-in_ok-one_or_two-in-Record-clause-memory :
    goal.returns-in_ok-one_or_two-in-Record-clause-memory
returns-in_ok-one_or_two-in-Record-clause-memory c =
    rw (c.in-Record.is, record_asks _ _ _ c.in_ok-one_or_two-in-Record.ensures) c.record.ensures.memory
