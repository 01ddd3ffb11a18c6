-- It tests in the order of the definition.
use Rattle.std.proofs.Common.{◌∙◌, sym, ap, List}
use Rattle.specification.specs.Axis.{Axis}
use Rattle.specification.specs.Views.{target_fault}
use Rattle.view.proofs.ListedLaws.{listed_next}
use Rattle.view.proofs.layout.Layout.broadcast_refusal.Goals as goal

pub returns-clause-answer : goal.returns-clause-answer
returns-clause-answer c =
    let targets = c.args.targets.now in
    c.target_fault.ensures ∙ ap (λ (m : List Axis). target_fault 0 m targets) c.few_axes.ensures.meaning
    ∙ sym (listed_next c.args.self.now targets _ _ c.in_ok-handed_refusal.ensures.answer c.if-targets-self.false)
