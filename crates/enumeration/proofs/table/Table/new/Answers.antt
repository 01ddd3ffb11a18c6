-- Words that are all free hold no number.
use Rattle.std.proofs.Common.{◌∙◌, ap, ap₂, arith, length, ◌-◌, ◌/◌}
use Rattle.enumeration.specs.Homes.{numbers_in, free_behind}
use Rattle.enumeration.proofs.TableLaws.{none_cleared, free_cleared}
use Rattle.enumeration.proofs.table.Table.new.Goals as goal

pub returns : goal.returns
returns c =
    let e = c.fill.ensures.after (λ y e. e) in
    let n = length c.args.words.now in
    ap₂ (λ numbers room. record { numbers = numbers; room = room })
    (ap numbers_in e ∙ none_cleared n)
    (ap (free_behind (length c.fill.new.self - length c.fill.new.self / 2)) e ∙ free_cleared n _ ∙ omega (arith, c.fill.ensures.len))
