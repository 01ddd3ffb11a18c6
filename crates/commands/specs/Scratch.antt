-- The words of scratch that a line lends, and a second try of a call that lacked some. Assumes nothing.
use Rattle.std.specs.Prelude.{ℕ, List, take, Option, Some, None, Result, Ok, Err}
use Rattle.specification.specs.Outcome.{Outcome, done, refused}
use Rattle.specification.specs.Record.{Made}
use Rattle.record.specs.declared.fields.BytePlace.{BytePlace}
use Rattle.view.specs.Answers.{outcome_by}
use Rattle.view.specs.declared.layout.Refusal.{Refusal}
use Rattle.view.specs.declared.layout.Refusal.TheVariants.{ShortScratch}
use Rattle.words.specs.declared.fault.Form.TheVariants.{Lent}
use Rattle.words.specs.Spelled.{lent}
use Rattle.words.specs.Words.{Told, ◌>>=◌, Numbered, one_of}

-- WORDS, if the line has them
abbrev pub words_given : Option Numbered → Told (Option ℕ)
words_given None = Ok None
words_given (Some w) = do
  words ← one_of lent Lent w
  Ok (Some words.0)

-- as many words of scratch; if WORDS is left out, as many as any verdict can need
abbrev pub or_most : Option ℕ → ℕ
or_most None = 16777217
or_most (Some words) = words

-- the words that a first try lacked, if WORDS is left out
abbrev pub words_lacking : {T : Type 0} → Option ℕ → Result T Refusal → Option ℕ
words_lacking None (Err (ShortScratch needed)) = Some needed
words_lacking words first = None

-- the bytes of the record that is made
abbrev pub bytes_made : Outcome Made → Outcome (List ℕ)
bytes_made (done made) = done made.bytes
bytes_made (refused number values) = refused number values

-- the front of an output, as far as the record written there goes
abbrev pub front_written : List ℕ → Result BytePlace Refusal → Outcome (List ℕ)
front_written output answer = outcome_by (λ place. take place.0 output) answer
