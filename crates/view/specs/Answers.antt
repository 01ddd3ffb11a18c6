-- Refusals and answers as the numbers and values of the rules (RULES, "Refusals, and which comes first").
use Rattle.std.specs.Prelude.{List, [], ◌∷◌, take, ℕ, Err, Ok, Result}
use Rattle.specification.specs.Outcome.{Outcome, Check, done, refused, pass}
use Rattle.view.specs.declared.layout.Refusal.{Refusal}
use Rattle.view.specs.declared.values.Values.{Values}
use Rattle.view.specs.declared.layout.Refusal.TheVariants.{TooManyAxes, LengthsDiffer, OutOfRange, WrongLength, BadAxis, BadExtent, BadIndex, TooManyPositions, ShortScratch, ShortOutput, NotARecord, ExtentsDiffer, ShortReadings, NotDistinct, EmptyAxis, LongAxis}

-- the number of a refusal
abbrev pub number_of : Refusal → ℕ
number_of TooManyAxes = 1
number_of LengthsDiffer = 2
number_of OutOfRange = 3
number_of (WrongLength a b) = 4
number_of (BadAxis axis rank) = 5
number_of (BadExtent axis) = 6
number_of (BadIndex axis) = 7
number_of TooManyPositions = 8
number_of (ShortScratch words) = 9
number_of (ShortOutput needed) = 10
number_of NotARecord = 11
number_of ExtentsDiffer = 12
number_of ShortReadings = 13
number_of NotDistinct = 14
number_of EmptyAxis = 15
number_of LongAxis = 16

-- the values returned with it
abbrev pub values_of : Refusal → List ℕ
values_of TooManyAxes = []
values_of LengthsDiffer = []
values_of OutOfRange = []
values_of (WrongLength a b) = a ∷ b ∷ []
values_of (BadAxis axis rank) = axis ∷ rank ∷ []
values_of (BadExtent axis) = axis ∷ []
values_of (BadIndex axis) = axis ∷ []
values_of TooManyPositions = []
values_of (ShortScratch words) = words ∷ []
values_of (ShortOutput needed) = needed ∷ []
values_of NotARecord = []
values_of ExtentsDiffer = []
values_of ShortReadings = []
values_of NotDistinct = []
values_of EmptyAxis = []
values_of LongAxis = []

-- the values that stand in a struct
abbrev pub listed : Values → List ℕ
listed v = take v.count v.values

-- an answer as a rule's outcome: what its result stands for, or the refusal with its number and values
abbrev pub outcome_by : {A B : Type 0} → (A → B) → Result A Refusal → Outcome B
outcome_by meaning (Ok a) = done (meaning a)
outcome_by meaning (Err why) = refused (number_of why) (values_of why)

-- an answer whose result stands for itself
abbrev pub outcome_of : {A : Type 0} → Result A Refusal → Outcome A
outcome_of = outcome_by (λ a. a)

-- an outcome without its result
abbrev pub answer_of : {A : Type 0} → Outcome A → Check
answer_of (done a) = pass
answer_of (refused number values) = refused number values
