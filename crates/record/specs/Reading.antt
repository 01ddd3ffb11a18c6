-- The reader's answer, and the scratch afterwards (RULES, "The record: reading").
use Rattle.std.specs.Prelude.{List, ◌≡◌, ℕ, length}
use Rattle.specification.specs.Outcome.{Outcome, done, refused}
use Rattle.specification.specs.Layout.{LayoutModel}
use Rattle.specification.specs.Verdict.{ScratchAfter}
use Rattle.specification.specs.Record.{WasRead, read_of, read_frees}

-- the layout that was read, without its verdict
abbrev pub layout_read : Outcome WasRead → Outcome LayoutModel
layout_read (done w) = done w.layout
layout_read (refused number values) = refused number values

-- one call of the reader on bytes and lent scratch
pub record Reading (bytes scratch : List ℕ) (answer : Outcome LayoutModel) (scratch-then : List ℕ) : Type 0 where
  pub answer_is : answer ≡ layout_read (read_of bytes (length scratch))
  pub scratch_is : ScratchAfter (read_frees bytes (length scratch)) scratch scratch-then
