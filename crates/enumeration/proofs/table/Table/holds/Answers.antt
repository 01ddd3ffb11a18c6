-- `holds` meets its contract: a number above all is not among them, and the look for another tells.
use Rattle.std.proofs.Common.{◌∙◌, sym, ap}
use Rattle.std.specs.FinSet.{contains}
use Rattle.std.proofs.lemmas.Bool.{lt-leb}
use Rattle.enumeration.proofs.TableLaws.{too-large, find-tells}
use Rattle.enumeration.proofs.table.Table.holds.Goals as goal

pub returns-then-n-self : goal.returns-then-n-self
returns-then-n-self c =
    c.is_ok.ensures.value
    ∙ find-tells _ _ _ _ c.self.invariant c.find.result c.find.ensures.found c.find.ensures.missed
    ∙ ap (λ v. contains v.numbers c.args.n) c.self.view_is

pub returns-else-n-self : goal.returns-else-n-self
returns-else-n-self c =
    lt-leb _ _ c.if-n-self.false
    ∙ sym (too-large _ _ _ _ c.self.invariant c.if-n-self.false)
    ∙ ap (λ v. contains v.numbers c.args.n) c.self.view_is
