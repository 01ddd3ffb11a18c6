use Rattle.callers.proofs.Counted.{search_tells, search_answered, count_elsewhere}
use Rattle.callers.proofs.count.verdict_with_count.Goals as goal

pub returns-clause-searched : goal.returns-clause-searched
returns-clause-searched c few s =
    let v = c.verdicts_hold.ensures in
    search_tells _ _ _ v.block v.verdict v.words v.count few s c.is_injective_axes.ensures.judged.told

pub returns-clause-elsewhere : goal.returns-clause-elsewhere
returns-clause-elsewhere c n =
    let v = c.verdicts_hold.ensures in
    count_elsewhere _ _ _ v.verdict v.words v.count c.is_injective_axes.ensures.judged.told n

pub returns-clause-unrefused : goal.returns-clause-unrefused
returns-clause-unrefused c few s =
    let v = c.verdicts_hold.ensures in
    search_answered _ _ _ v.verdict v.words v.count c.is_injective_axes.ensures.judged.told few s
