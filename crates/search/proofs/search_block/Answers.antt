-- `search_block`: the definition's own steps.
use mathlib.Core.Path.{ap, ◌∙◌}
use Rattle.std.proofs.lemmas.List.{take_rest}
use Rattle.specification.specs.Tests.{sort_by}
use Rattle.specification.specs.Verdict.{longer}
use Rattle.search.proofs.Apart.{numbered-others, parted, searched-block}
use Rattle.search.proofs.search_block.Goals as goal

pub sort_by_axis-requires : goal.sort_by_axis-requires
sort_by_axis-requires c =
    let e = c.sort_by_extent.ensures ∙ ap (sort_by longer) c.copy_from_slice.ensures.after in
    rw take_rest (numbered-others _ _ e c.requires.many c.requires.searchable)

pub search_two-requires : goal.search_two-requires
search_two-requires c =
    let e = c.sort_by_extent.ensures ∙ ap (sort_by longer) c.copy_from_slice.ensures.after in
    parted _ _ e c.requires.many c.requires.searchable c.sort_by_axis.new.axes (rw take_rest at c.sort_by_axis.ensures)

pub returns : goal.returns
returns c =
    let e = c.sort_by_extent.ensures ∙ ap (sort_by longer) c.copy_from_slice.ensures.after in
    let o = rw take_rest at c.sort_by_axis.ensures in
    let s = c.search_two.ensures in
    searched-block _ _ e c.requires.many c.requires.searchable c.sort_by_axis.new.axes o c.search_two.result s.within s.past
