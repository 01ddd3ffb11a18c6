-- What crosses to C (RULES, "The border to C"): an outcome's number and values, and what lent memory holds after the call.
use Rattle.std.specs.Prelude.{List, [], ◌∷◌, ◌++◌, ℕ, nat_le, ℤ, length, drop, if◌then◌else◌}
use Rattle.specification.specs.Outcome.{Outcome, done, refused}
use Rattle.specification.specs.Record.{verdict_byte}
use Rattle.injectivity.specs.Judgement.{Told}
use Rattle.strided.specs.declared.crossing.Values.{Values}
use Rattle.strided.specs.declared.crossing.Found.{Found}

-- 0 done, else the number of the refusal
abbrev pub number_after : {A : Type 0} → Outcome A → ℕ
number_after (done a) = 0
number_after (refused number values) = number

-- the two places for values
abbrev pub places : Values → List ℕ
places v = v.first ∷ v.second ∷ []

-- the values of a refusal in the first places; the others stay, and on success both
abbrev pub values_after : {A : Type 0} → Outcome A → Values → List ℕ
values_after (done a) before = places before
values_after (refused number values) before = values ++ drop (length values) (places before)

-- in the first place how many were written, bytes of a record or means, and the second stays; or the values of a refusal
abbrev pub written_after : Outcome ℕ → Values → List ℕ
written_after (done count) before = count ∷ before.second ∷ []
written_after (refused number values) before = values ++ drop (length values) (places before)

-- what was answered, or what was there before
abbrev pub result_after : {A : Type 0} → Outcome A → A → A
result_after (done a) before = a
result_after (refused number values) before = before

-- a list that was answered in the first places; the others stay, and all of them on a refusal
abbrev pub front_after : {A : Type 0} → Outcome (List A) → List A → List A
front_after (done front) before = front ++ drop (length front) before
front_after (refused number values) before = before

-- the verdict's number (1 Distinct, 2 Repeated, 3 Undecided) and count; on a refusal what was there
abbrev pub found_after : Outcome Told → Found → Found
found_after (done j) before = record { verdict = verdict_byte j.answer; count = j.count }
found_after (refused number values) before = before

-- dense strides into an array of this length: 255, if it is shorter than the extents; then what
-- the call answers
abbrev pub dense_into : (List ℕ → Outcome (List ℤ)) → List ℕ → ℕ → Outcome (List ℤ)
dense_into dense extents room =
    if nat_le (length extents) room then dense extents else refused 255 []
