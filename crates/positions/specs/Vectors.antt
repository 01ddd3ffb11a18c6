-- An index vector beside its axes, as the code holds it: there may be more indices than axes.
use Rattle.std.specs.Prelude.{List, [], ◌∷◌, ℕ, ◌+◌, ◌*◌, ◌<◌, ⊤}
use Rattle.specification.specs.Axis.{Axis}
use Rattle.positions.specs.Positions.{word_of}

-- the number of the position, the index of the first axis the lowest digit
unfoldable pub number_of : List Axis → List ℕ → ℕ
number_of [] indices = 0
number_of (a ∷ rest) [] = 0
number_of (a ∷ rest) (i ∷ indices) = i + a.extent * number_of rest indices

-- the sum of index × word
unfoldable pub words_of : List Axis → List ℕ → ℕ
words_of [] indices = 0
words_of (a ∷ rest) [] = 0
words_of (a ∷ rest) (i ∷ indices) = i * word_of a.stride + words_of rest indices

-- there is an index of each axis, below its extent
unfoldable pub AreBelow : List Axis → List ℕ → Type 0
AreBelow [] indices = ⊤
AreBelow (a ∷ rest) [] = ⊥
AreBelow (a ∷ rest) (i ∷ indices) = (i < a.extent) × AreBelow rest indices
