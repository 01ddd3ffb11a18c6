use Rattle.std.proofs.Common.{sym, ◌∙◌}
use Rattle.commands.proofs.ScratchLaws.{lists_second}
use Rattle.commands.proofs.query.judge_lists.Goals as goal

pub returns-in_ok-lend-in-Some : goal.returns-in_ok-lend-in-Some
returns-in_ok-lend-in-Some c =
    lists_second c.args.extents.now c.args.strides.now c.args.words _ _ _ _ _ c.is_injective_layout-first.ensures.judged.told
    (c.in_ok-lend.ensures ∙ c.unwrap_or.ensures) (sym c.lacking.ensures ∙ c.in-Some.is)
    c.is_injective_layout.ensures.judged.told c.in_ok-lend-in-Some.ensures
