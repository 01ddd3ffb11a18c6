-- The axes of the layout, as sheets.
use Rattle.std.proofs.Common.{◌≤◌, ap, subst, ◌∙◌, All, arith, rules}
use Rattle.specification.specs.Layout.{IsAccepted}
use Rattle.view.specs.declared.layout.Layout.{Layout}
use Rattle.view.specs.Model.{model_of}
use Rattle.view.proofs.AxesLaws.{length_first_axes}
use Rattle.positions.specs.Positions.{StrideFits}
use Rattle.copying.specs.Sheets.{sheet_axes}
use Rattle.copying.proofs.SheetsLaws.{sheets_are}
use Rattle.copying.proofs.sheets.Sheets.of.Goals as goal

few : (l : Layout) → IsAccepted (model_of l) → l.rank ≤ 16
few l a = omega (arith, a.few, length_first_axes l.axes l.rank)

pub returns : goal.returns
returns c =
    let a = c.requires.accepted in
    let all = c.axes.ensures.all (few c.args.layout.now a) in
    sheets_are (model_of c.args.layout.now) a c.requires.some _ (subst (All StrideFits) all c.sheet_and_others.ensures.fit)
    (c.sheet_and_others.ensures.axes ∙ ap sheet_axes all) (search rules)
