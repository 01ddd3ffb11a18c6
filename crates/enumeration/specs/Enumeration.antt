-- The enumeration's answer for a block, said by the definitions of the verdict (RULES, "The verdict: enumeration").
use Rattle.std.specs.Prelude.{Bool, true, false, [], ◌∷◌, ℕ, Result, Ok, Err}
use Rattle.specification.specs.Outcome.{Outcome, done, refused}
use Rattle.specification.specs.Verdict.{Judged, Distinct, Repeated}

-- the answer as an outcome of the verdict, if so many words are needed: distinct sums or not, or the words that are wanted
abbrev pub outcome_of : ℕ → Result Bool ℕ → Outcome Judged
outcome_of need (Ok true) = done (record { answer = Distinct; count = 0; freed = need })
outcome_of need (Ok false) = done (record { answer = Repeated; count = 0; freed = need })
outcome_of need (Err words) = refused 9 (words ∷ [])
