use Rattle.std.proofs.Common.{sym, ◌∙◌}
use Rattle.view.specs.Model.{model_of}
use Rattle.commands.proofs.ScratchLaws.{written_first, written_second}
use Rattle.commands.proofs.query.write.Goals as goal

pub returns-in_ok-lend-in-Some : goal.returns-in_ok-lend-in-Some
returns-in_ok-lend-in-Some c =
    written_second (model_of c.args.current.now) c.args.words _ _ _ _ _ c.write_record-first.ensures (c.in_ok-lend.ensures ∙ c.unwrap_or.ensures)
    _ (sym c.lacking.ensures ∙ c.in-Some.is) _ _ _ _ c.write_record.ensures c.in_ok-lend-in-Some.ensures

pub returns-in-None : goal.returns-in-None
returns-in-None c =
    written_first (model_of c.args.current.now) c.args.words _ _ _ _ _ c.write_record-first.ensures (c.in_ok-lend.ensures ∙ c.unwrap_or.ensures)
    (sym c.lacking.ensures ∙ c.in-None.is)
