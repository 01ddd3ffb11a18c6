-- What stands behind a byte order mark at the start of what is read. Assumes nothing.
use Rattle.std.specs.Prelude.{ℕ, List, [], ◌∷◌, ◌==◌, ◌&&◌, ◌≡◌, ◌≢◌, Option, Some, IfSome, if◌then◌else◌}
use Rattle.std.specs.Io.KnownBytes.{Consumes, Keeps, prepend_known}
use Rattle.lines.specs.declared.mark.Next.{Next}
use Rattle.lines.specs.declared.mark.Next.TheVariants.{Taken, Another, Nothing}

-- the byte order mark in UTF-8
abbrev pub mark : List ℕ
mark = 0xEF ∷ 0xBB ∷ 0xBF ∷ []

-- the bytes behind the byte order mark, if they begin with it
abbrev pub without_mark : List ℕ → List ℕ
without_mark (a ∷ b ∷ c ∷ bytes) = if (a == 0xEF && b == 0xBB) && c == 0xBF then bytes else a ∷ b ∷ c ∷ bytes
without_mark bytes = bytes

-- known bytes are left with those that were taken in front, and without the mark
abbrev pub IsBehindMark : Option (List ℕ) → List ℕ → Option (List ℕ) → Type 0
IsBehindMark old taken new = IfSome old (λ bytes. prepend_known taken new ≡ Some (without_mark bytes))

-- the next byte is not this one
abbrev pub BeginsOtherwise : ℕ → List ℕ → Type 0
BeginsOtherwise byte [] = ⊥
BeginsOtherwise byte (first ∷ rest) = first ≢ byte

-- known bytes lose their first if it is this one, and stay if it is another or there is none
abbrev pub TakesNext : ℕ → Option (List ℕ) → Option (List ℕ) → Next → Type 0
TakesNext byte old new Taken = Consumes old new (byte ∷ [])
TakesNext byte old new Another = Keeps old new × IfSome old (BeginsOtherwise byte)
TakesNext byte old new Nothing = Keeps old new × IfSome old (λ bytes. bytes ≡ [])
