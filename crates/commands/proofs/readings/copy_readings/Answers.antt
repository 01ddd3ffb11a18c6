use Rattle.std.proofs.Common.{sym, ◌∙◌}
use Rattle.view.specs.Model.{model_of}
use Rattle.commands.proofs.CopyLaws.{second_copied, second_left}
use Rattle.commands.proofs.readings.copy_readings.Goals as goal

pub returns-in_ok-lend-in-Some-clause-answer : goal.returns-in_ok-lend-in-Some-clause-answer
returns-in_ok-lend-in-Some-clause-answer c =
    second_copied (model_of c.args.layouts.now.current) (model_of c.args.layouts.now.held) c.args.from.now c.args.to.now c.args.words _ _ _ _ _ _
    c.copy-first.ensures.answer (c.in_ok-lend.ensures ∙ c.unwrap_or.ensures) (sym c.lacking.ensures ∙ c.in-Some.is) c.copy-first.ensures.copied
    c.copy.ensures.answer c.in_ok-lend-in-Some.ensures

pub returns-in_ok-lend-in-Some-clause-copied : goal.returns-in_ok-lend-in-Some-clause-copied
returns-in_ok-lend-in-Some-clause-copied c =
    second_left (model_of c.args.layouts.now.current) (model_of c.args.layouts.now.held) c.args.from.now c.args.to.now c.args.words _ _ _ _ _
    (sym c.lacking.ensures ∙ c.in-Some.is) c.copy-first.ensures.copied c.copy.ensures.copied
