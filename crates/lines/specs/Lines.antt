-- The lines of what is read, a line as it is held, and a front of what is written. Assumes nothing.
use Rattle.std.specs.Prelude.{ℕ, List, [], ◌∷◌, ◌==◌, ◌≡◌, ◌↔◌, ◌<◌, take, length, Option, IsTrue, if◌then◌else◌}
use Rattle.std.specs.Io.KnownBytes.{Appends}
use Rattle.lines.specs.declared.line.Line.{Line}

-- a byte in front of the first line
abbrev pub lines_with : ℕ → List (List ℕ) → List (List ℕ)
lines_with byte [] = (byte ∷ []) ∷ []
lines_with byte (line ∷ lines) = (byte ∷ line) ∷ lines

-- the lines that line feeds (10) end; behind the last of these one more, if there are bytes
abbrev pub lines_of : List ℕ → List (List ℕ)
lines_of [] = []
lines_of (byte ∷ bytes) = if byte == 10 then [] ∷ lines_of bytes else lines_with byte (lines_of bytes)

-- the first 4,096 bytes of a line are held, and whether it has more
pub record Holds (line : Line) (bytes : List ℕ) : Type 0 where
  pub front : line.bytes.items ≡ take 4096 bytes
  pub longer : IsTrue line.is_long ↔ (4096 < length bytes)

-- known bytes grow by a front of bs
abbrev pub AppendsFront : Option (List ℕ) → Option (List ℕ) → List ℕ → Type 0
AppendsFront old new bs = (n : ℕ) × Appends old new (take n bs)
