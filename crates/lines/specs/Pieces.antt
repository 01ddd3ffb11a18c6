-- The pieces of a line that a reader shows one after another. Assumes nothing.
use Rattle.std.specs.Prelude.{ℕ, List, [], ◌∷◌, ◌++◌, ◌≡◌, ◌≢◌, All, Option, OnSome}
use Rattle.std.specs.Io.KnownBytes.{Consumes, IsAtEnd}
use Rattle.lines.specs.Lines.{Holds}
use Rattle.lines.specs.declared.line.Line.{Line}
use Rattle.lines.specs.declared.line.End.{End}
use Rattle.lines.specs.declared.line.End.TheVariants.{Feed, Input}

-- a piece with the line feed (10) that ends it, if one does
abbrev pub with_end : List ℕ → End → List ℕ
with_end piece Feed = piece ++ 10 ∷ []
with_end piece other = piece

-- a line that holds what was read of it holds it with a piece more, and still says whether it is the last
pub record Took (old new : Line) (piece : List ℕ) : Type 0 where
  pub held : (read : List ℕ) → Holds old read → Holds new (read ++ piece)
  pub last : new.is_last ≡ old.is_last

-- known bytes lose a piece with what ends it; the input is not at its end while it shows any
pub record TakesPiece (old new : Option (List ℕ)) (piece : List ℕ) (end : End) : Type 0 where
  pub one_line : All (λ byte. byte ≢ 10) piece
  pub taken : Consumes old new (with_end piece end)
  pub input : end ≡ Input → OnSome old (IsAtEnd new)
