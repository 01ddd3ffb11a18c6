-- What a call of the library answers, told: its value, or its refusal as a text. Assumes nothing.
use Rattle.std.specs.Prelude.{Ok, Err}
use Rattle.specification.specs.Outcome.{Outcome, done, refused}
use Rattle.specification.specs.Layout.{LayoutModel}
use Rattle.specification.specs.Views.{After}
use Rattle.words.specs.Texts.{refusal_text}
use Rattle.words.specs.Words.{Told, ◌>>=◌}

-- what a call answers, or its refusal as a text
abbrev pub told : {A : Type 0} → Outcome A → Told A
told (done x) = Ok x
told (refused number values) = Err (refusal_text number values)

-- the layout that a view hands back, or its refusal
abbrev pub told_after : After → Told LayoutModel
told_after a = told a.answer >>= λ _. Ok a.layout
