-- The refusal and the layout as it was, or the axes in the new order.
use Rattle.std.proofs.lemmas.Result.{err_from_is_err_and}
use Rattle.std.proofs.Common.{◌∙◌, sym, ap}
use Rattle.view.specs.Answers.{outcome_of}
use Rattle.view.specs.Model.{model_of}
use Rattle.view.proofs.ViewLaws.{permute_refused}
use Rattle.view.proofs.layout.Layout.permute_in_place.Goals as goal

pub returns-in_err-permute_refusal-clause-told : goal.returns-in_err-permute_refusal-clause-told
returns-in_err-permute_refusal-clause-told c =
    let p = err_from_is_err_and c.from_residual.result c.from_residual.ensures.1 in
    rw (p.1, p.2) (sym (permute_refused (model_of c.args.self.now) c.args.order.now _ _ (sym c.permute_refusal.ensures.answer ∙ ap outcome_of c.in_err-permute_refusal.was)))
