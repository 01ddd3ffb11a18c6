use Rattle.record.specs.Chain.{no_more, called}
use Rattle.callers.proofs.steps.Steps.made_in.Goals as goal

pub returns : goal.returns
returns c =
    let calls = c.calls_hold.ensures.chains in
    called _ _ (calls.permuted _ _ _ _ c.permute_in_place-turned.ensures.told)
    (called _ _ (calls.fused _ _ _ _ c.diagonal_by_numbers-fused.ensures.told) (called _ _ (calls.stretched _ _ _ _ c.broadcast_in_place-stretched.ensures.told) no_more))
