use Rattle.std.proofs.Common.{sym, ◌∙◌}
use Rattle.view.specs.Model.{model_of}
use Rattle.commands.proofs.ScratchLaws.{axes_second}
use Rattle.commands.proofs.query.judge.Goals as goal

pub returns-in_ok-lend-in-Some : goal.returns-in_ok-lend-in-Some
returns-in_ok-lend-in-Some c =
    axes_second (model_of c.args.current.now).axes c.args.words _ _ _ _ _ c.judge_layout-first.ensures.judged.told
    (c.in_ok-lend.ensures ∙ c.unwrap_or.ensures) (sym c.lacking.ensures ∙ c.in-Some.is)
    c.judge_layout.ensures.judged.told c.in_ok-lend-in-Some.ensures
