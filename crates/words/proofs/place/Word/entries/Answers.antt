use Rattle.std.proofs.Common.{rules, ◌≡◌, sym, ◌∙◌, subst, IfOk, map, []}
use Rattle.std.specs.Prelude.{◌==◌, if◌then◌else◌}
use Rattle.std.specs.List.{slice_split}
use Rattle.std.proofs.lemmas.Iterator.Consumers.{map_from_collect}
use Rattle.std.proofs.lemmas.Iterator.Splits.{YieldsList-from_slice_split}
use Rattle.words.proofs.place.Word.entries.Goals as goal

pub returns : goal.returns
returns c =
    let text = c.args.self.text.now in
    let listed = map_from_collect c.collect.result c.collect.ensures.ran
    (YieldsList-from_slice_split _ (λ byte. byte == 44) text c.split.ensures.rest c.split.ensures.done c.split.ensures.closure (λ x b q h. search rules)) in
    subst (λ b. IfOk c.collect.result (λ v. map (λ part. part.now) v.items ≡ (if b then [] else slice_split (λ byte. byte == 44) text)))
    (sym (sym c.is_none.ensures ∙ c.if-is_none.false)) listed
