-- The offset of an index vector, as the code answers it (RULES, "Beside it: offset of an index vector").
use Rattle.view.specs.declared.layout.Refusal.{Refusal}
use Rattle.view.specs.declared.layout.ReadingOffset.{ReadingOffset}
use Rattle.std.specs.Prelude.{not, ◌||◌, [], ℕ, nat_lt, ℤ, ◌+ℤ◌, Result}
use Rattle.integer.specs.Multiple.{◌·◌}
use Rattle.integer.specs.Range.{fits, most_signed}
use Rattle.specification.specs.Outcome.{Outcome, done, refuse_if, ◌>>◌}
use Rattle.view.specs.Answers.{outcome_by}

-- the sum after an index, or refusal 3
unfoldable pub added_of : ℤ → ℕ → ℤ → Outcome ℤ
added_of sum index stride =
    refuse_if (nat_lt most_signed index || not (fits (index · stride)) || not (fits (sum +ℤ index · stride))) 3 []
    >> done (sum +ℤ index · stride)

-- the offset, or the refusal with its number and values
abbrev pub indexed_of : Result ReadingOffset Refusal → Outcome ℤ
indexed_of = outcome_by (λ offset. offset.0)
