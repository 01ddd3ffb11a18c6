-- What the enumeration comes to, by how many words there are and whether two positions have one sum.
use Rattle.std.proofs.Common.{◌≡◌, ◌∙◌, ap, ℕ, ◌+◌, ◌/◌, ◌<◌, ◌≤◌, List, [], ◌∷◌, ◌++◌, length, take, drop, true, false, lt-ltb, le-ltb, arith, drop_at, length-take-le}
use Rattle.std.proofs.lemmas.Int.{ints}
use Rattle.std.proofs.Math.Seq.{length_front}
use Rattle.specification.specs.Outcome.{done, refused}
use Rattle.specification.specs.Search.{ActiveAxis, total, span_sum, words_for, SameSum}
use Rattle.specification.specs.Verdict.{Distinct, Repeated, enumerated, carry_out}
use Rattle.specification.proofs.OutcomeLaws.{refuse-yes, refuse-no}

-- the words that a block needs
abbrev pub needed : List ActiveAxis → ℕ
needed block = words_for (total block) (span_sum block)

-- at least one word is needed
pub words_above : (positions span : ℕ) → 0 < positions → 0 < words_for positions span
unfolding words_for
words_above positions span p = grind (arith, ints)

pub carried_short : (block : List ActiveAxis) (words : ℕ) → words < needed block
    → carry_out words (enumerated block) ≡ refused 9 (needed block ∷ [])
unfolding carry_out
carried_short block words h = refuse-yes 9 (needed block ∷ []) _ (lt-ltb words (needed block) h)

pub carried_repeated : (block : List ActiveAxis) (words : ℕ) → needed block ≤ words → SameSum block
    → carry_out words (enumerated block) ≡ done (record { answer = Repeated; count = 0; freed = needed block })
unfolding carry_out
carried_repeated block words h s = refuse-no 9 (needed block ∷ []) _ (le-ltb words (needed block) h) ∙ grind (arith, ints)

pub carried_distinct : (block : List ActiveAxis) (words : ℕ) → needed block ≤ words → ¬ (SameSum block)
    → carry_out words (enumerated block) ≡ done (record { answer = Distinct; count = 0; freed = needed block })
unfolding carry_out
carried_distinct block words h s = refuse-no 9 (needed block ∷ []) _ (le-ltb words (needed block) h) ∙ grind (arith, ints)

pub ruleset outcomes = (words_above, carried_short, carried_repeated, carried_distinct, drop_at, length_front, length-take-le)
