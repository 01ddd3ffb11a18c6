use Rattle.std.proofs.Common.{rules, sym, ◌≤◌, arith, subst, length-take, length}
use Rattle.std.specs.Prelude.{not, ◌==◌}
use Rattle.std.proofs.lemmas.Iterator.{YieldsList-from_take}
use Rattle.std.proofs.lemmas.Iterator.Consumers.{YieldsList-at, YieldsList-from_filter}
use Rattle.std.proofs.lemmas.Iterator.Splits.{YieldsList-from_slice_split}
use Rattle.words.specs.Words.{is_space}
use Rattle.words.proofs.FirstWords.{holds_all}
use Rattle.words.proofs.word.first_words.Goals as goal

pub returns : goal.returns
returns c = rw (← c.without_return.ensures) (holds_all 6 c.extend.result c.new-first.result c.extend.new.self c.extend.ensures.ran c.extend.ensures.full c.extend.ensures.one_more
    (YieldsList-from_take 6
    (YieldsList-at c.take.ensures.source
    (YieldsList-from_filter _ (λ text. not (length text == 0))
    (YieldsList-at c.filter-words.ensures.source
    (YieldsList-from_slice_split _ is_space c.without_return.result.now c.split.ensures.rest c.split.ensures.done c.split.ensures.closure (λ x b q h. search rules)))
    c.filter-words.ensures.closure (λ x b q h. search rules))) c.take.ensures.count)
    (subst (λ n. n ≤ 6) (sym (length-take 6 _)) (omega arith)) (search rules))
