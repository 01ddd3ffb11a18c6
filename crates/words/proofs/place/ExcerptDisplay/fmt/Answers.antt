use Rattle.std.proofs.Common.{◌++◌, sym, ap, ◌∙◌, append_assoc, append-nil, subst, rules, take}
use Rattle.std.specs.List.{flat_map}
use Rattle.std.specs.Fmt.{HasWritten}
use Rattle.std.proofs.Output.{has_written_append}
use Rattle.bstr.specs.Escape.{escaped}
use Rattle.words.specs.Shown.{shown}
use Rattle.words.specs.Texts.{excerpt}
use Rattle.words.proofs.place.ExcerptDisplay.fmt.Goals as goal

pub loop-character-preserved : goal.loop-character-preserved
loop-character-preserved g c =
    λ plain.
    let now = c.loop-character.invariant plain in
    let character = c.in-Some.character in (
      now.0 ++ shown character,
      has_written_append _ _ _ _ _ _ now.1 (search rules),
      append_assoc now.0 (shown character) _ ∙ ap (λ l. now.0 ++ flat_map shown l) (sym c.in-Some.ensures.steps) ∙ now.2,
    )

pub returns-clause-writes : goal.returns-clause-writes
unfolding excerpt
returns-clause-writes g c =
    λ plain ok.
    let now = c.loop-character.invariant plain in
    let none = ap (λ l. now.0 ++ flat_map shown l) c.in-None.ensures.steps.0 in
    let all = sym (append-nil now.0) ∙ sym none ∙ now.2 in
    let front = ap (flat_map shown) (c.into_iter-character-iterator.ensures.into_iter_gives ∙ c.escape_bytes-character-items.ensures.value ∙ ap escaped c.first.ensures) in
    let dots = c.dots_behind.ensures in
    subst (λ text. HasWritten g.W.Write.write_str_gives c.args.f.now text c.write_str.new.self)
    (ap (λ l. l ++ c.dots_behind.result.now) (all ∙ front) ∙ ap (λ l. flat_map shown (escaped (take 32 c.args.self.now.0.now)) ++ l) dots)
    (has_written_append _ _ _ _ _ _ now.1 (search rules))
