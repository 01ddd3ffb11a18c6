use Rattle.std.proofs.Common.{rules, ◌≡◌, take, ap, ◌∙◌}
use Rattle.std.specs.Fmt.{decimal, signed_decimal}
use Rattle.view.specs.Model.{first_axes}
use Rattle.view.specs.Printed.{list_text, layout_text}
use Rattle.view.proofs.PrintedLaws.{parts_shown}
use Rattle.view.proofs.printed.LayoutDisplay.fmt.Goals as goal

pub returns-clause-writes : goal.returns-clause-writes
unfolding layout_text
returns-clause-writes g c = λ plain ok.
    let l = c.args.self.now in
    let axes = take 16 (first_axes l.axes l.rank) in
    let extents : list_text decimal c.first.result.now ≡ list_text (λ a. decimal a.extent) axes =
    ap (list_text decimal) c.first.ensures ∙ parts_shown (λ a. a.extent) _ _ l.axes c.map-extents.result l.rank c.map-extents.ensures.items (λ p x y q h. search rules) decimal in
    let strides : list_text signed_decimal c.first-2.result.now ≡ list_text (λ a. signed_decimal a.stride) axes =
    ap (list_text signed_decimal) c.first-2.ensures ∙ parts_shown (λ a. a.stride) _ _ l.axes c.map-strides.result l.rank c.map-strides.ensures.items (λ p x y q h. search rules) signed_decimal in
    rw (← extents, ← strides) (c.write.ensures.writes plain ok)
