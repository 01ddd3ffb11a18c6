-- The layout of the two lists, whose axes stand in the first places.
use Rattle.std.proofs.Common.{◌≡◌, ◌∙◌, sym, ap, List, length}
use Rattle.specification.specs.Axis.{Axis}
use Rattle.specification.specs.Outcome.{pass}
use Rattle.view.specs.Lists.{axes_in}
use Rattle.view.specs.Model.{model_from, model_of, first_axes}
use Rattle.view.proofs.ListsLaws.{stored_front, stored_past}
use Rattle.view.proofs.CheckInLaws.{told_inside}
use Rattle.view.proofs.layout.Layout.check_in.Goals as goal

pub returns-clause-told : goal.returns-clause-told
returns-clause-told c =
    let a = c.args in
    let lists = c.in_ok-axes.axes in
    let front : first_axes c.store.new.axes (length a.extents.now) ≡ axes_in lists =
    rw (← c.in_ok-axes.ensures.extents) (stored_front lists.extents.now lists.strides.now lists.alike a.self.now.axes c.store.ensures) in
    ap (λ (axes : List Axis). record { answer = pass; layout = model_from a.len a.offset.0 axes }) front
    ∙ sym (told_inside a.len a.offset.0 a.extents.now a.strides.now (model_of a.self.now) c.in_ok-axes.ensures.answer c.in_ok-bounds_refusal.ensures)

pub returns-clause-past : goal.returns-clause-past
returns-clause-past c =
    let lists = c.in_ok-axes.axes in
    rw (← c.in_ok-axes.ensures.extents) (stored_past lists.extents.now lists.strides.now lists.alike c.args.self.now.axes c.store.ensures)
