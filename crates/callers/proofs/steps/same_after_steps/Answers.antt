use Rattle.std.proofs.Common.{rules, refl, Ok}
use Rattle.record.proofs.SameLaws.{writing, fits, front_whole}
use Rattle.callers.proofs.Chained.{agreed, short, told_by}
use Rattle.callers.proofs.steps.same_after_steps.Goals as goal

pub returns-in_err-size-clause-answered : goal.returns-in_err-size-clause-answered
returns-in_err-size-clause-answered c f g h k =
    let first = c.in_ok-layout.ensures in
    absurd (short c.in_ok-layout.layout _ _ _ _ _ _ _ c.in_err-size.field-0.0 c.calls_hold.ensures.running_agree first.accepted c.made_in-answers.ensures c.in_err-size.ensures (rw first.layout h))

pub returns-in_err-other_size-clause-answered : goal.returns-in_err-other_size-clause-answered
returns-in_err-other_size-clause-answered c f g h k =
    let second = c.in_ok-checked_in.ensures in
    absurd (short c.in_ok-checked_in.field-0 _ _ _ _ _ _ _ c.in_err-other_size.field-0.0 c.calls_hold.ensures.running_agree second.accepted c.two_views.ensures c.in_err-other_size.ensures (rw second.layout k))

pub slice_bounds-eq-end : goal.slice_bounds-eq-end
slice_bounds-eq-end c = fits (writing _ _ _ (Ok c.in_ok-size.field-0) _ _ c.in_ok-size.ensures)

pub slice_bounds-eq-end-2 : goal.slice_bounds-eq-end-2
slice_bounds-eq-end-2 c = front_whole (writing _ _ _ (Ok c.in_ok-size.field-0) _ _ c.in_ok-size.ensures)

pub slice_bounds-eq-end-3 : goal.slice_bounds-eq-end-3
slice_bounds-eq-end-3 c = fits (writing _ _ _ (Ok c.in_ok-other_size.field-0) _ _ c.in_ok-other_size.ensures)

pub slice_bounds-eq-end-4 : goal.slice_bounds-eq-end-4
slice_bounds-eq-end-4 c = front_whole (writing _ _ _ (Ok c.in_ok-other_size.field-0) _ _ c.in_ok-other_size.ensures)

pub returns : goal.returns
returns c =
    let first = c.in_ok-layout.ensures in
    let second = c.in_ok-checked_in.ensures in
    let t = agreed c.in_ok-layout.layout c.in_ok-checked_in.field-0 _ _ _ _ _ _ _ _ _ _ _ _ _ _ c.in_ok-size.field-0 c.in_ok-other_size.field-0
    c.calls_hold.ensures.running_agree first.accepted second.accepted c.made_in-answers.ensures c.two_views.ensures c.in_ok-size.ensures c.in_ok-other_size.ensures in
    record { run = rw first.layout at t.run; same = told_by (rw (first.layout, second.layout) at t.told) (search rules); answered = λ f g h k. refl }
