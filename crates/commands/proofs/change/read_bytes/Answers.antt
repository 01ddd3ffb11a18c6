use Rattle.std.proofs.Common.{sym, ◌∙◌}
use Rattle.commands.proofs.ScratchLaws.{read_second}
use Rattle.commands.proofs.change.read_bytes.Goals as goal

pub returns-in_ok-lend-in-Some : goal.returns-in_ok-lend-in-Some
returns-in_ok-lend-in-Some c =
    read_second c.args.bytes.now c.args.words _ _ _ _ _ c.read_record-first.ensures.answer_is
    (c.in_ok-lend.ensures ∙ c.unwrap_or.ensures) (sym c.lacking.ensures ∙ c.in-Some.is)
    c.read_record.ensures.answer_is c.in_ok-lend-in-Some.ensures
