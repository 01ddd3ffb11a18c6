-- The chain asks what the definition asks.
use Rattle.std.proofs.Common.{◌∙◌, rules, tests}
use Rattle.std.proofs.lemmas.Iterator.{YieldsList-from_slice}
use Rattle.std.proofs.lemmas.Iterator.Search.{any_from_yields_List}
use Rattle.specification.specs.Verdict.{still}
use Rattle.view.proofs.AxesLaws.{any-list_any}
use Rattle.injectivity.proofs.inputs.some_still.Goals as goal

pub returns : goal.returns
returns c =
    any_from_yields_List still _ _ _ c.any.ensures.ran (YieldsList-from_slice c.args.axes.now cc) (λ x b q k. search (rules, tests))
    ∙ any-list_any still c.args.axes.now
