-- The chain asks for an extent of 0 what the definition asks.
use Rattle.std.proofs.Common.{◌∙◌, sym, ap, rules, tests}
use Rattle.std.proofs.lemmas.Iterator.{YieldsList-from_slice}
use Rattle.std.proofs.lemmas.Iterator.Search.{any_from_yields_List}
use lib.Dec.{eqb}
use Rattle.specification.specs.Beside.{zero_among}
use Rattle.view.proofs.AxesLaws.{any-list_any}
use Rattle.view.proofs.CountLaws.{list_any-map}
use Rattle.view.proofs.count.has_no_position.Goals as goal

pub returns : goal.returns
returns g c =
    any_from_yields_List (λ x. eqb (g.E.Extent.extent_of x) 0) _ _ _ c.any.ensures.ran (YieldsList-from_slice c.args.list.now cc) (λ x b q k. search (rules, tests))
    ∙ any-list_any (λ x. eqb (g.E.Extent.extent_of x) 0) c.args.list.now
    ∙ list_any-map (λ n. eqb n 0) g.E.Extent.extent_of c.args.list.now
    ∙ ap zero_among (sym (g.met.E.Extent.each c.args.list.now))
