-- The refusal and the layout as it was, or the stretched axes.
use Rattle.std.proofs.lemmas.Result.{err_from_is_err_and}
use Rattle.std.proofs.Common.{◌∙◌, refl, sym, ap, length, rules}
use Rattle.view.specs.Answers.{outcome_of}
use Rattle.view.specs.Model.{model_of}
use Rattle.view.proofs.ViewLaws.{broadcast_refused, stretched_told}
use Rattle.view.proofs.layout.Layout.broadcast_in_place.Goals as goal

pub returns-in_err-broadcast_refusal-clause-told : goal.returns-in_err-broadcast_refusal-clause-told
returns-in_err-broadcast_refusal-clause-told c =
    let p = err_from_is_err_and c.from_residual.result c.from_residual.ensures.1 in
    rw (p.1, p.2) (sym (broadcast_refused (model_of c.args.self.now) c.args.targets.now _ _ (sym c.broadcast_refusal.ensures.answer ∙ ap outcome_of c.in_err-broadcast_refusal.was)))

pub returns-clause-told : goal.returns-clause-told
returns-clause-told c =
    let s = c.args.self.now in
    let targets = c.args.targets.now in
    let is = c.in_ok-broadcast_refusal.ensures in
    stretched_told (model_of s) s.axes s.rank (length targets) targets c.stretch.new.axes _ refl refl is.listed (search rules) c.stretch.ensures (sym is.answer)
