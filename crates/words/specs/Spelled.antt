-- What texts spell: numbers, pairs of axes, sizes that are lent, and readings. Assumes nothing.
use Rattle.std.specs.Prelude.{Bool, ℕ, ℤ, pos, negsuc, ◌+◌, ◌-◌, ◌^◌, ◌&&◌, List, Option, Some, None, option_and_then, ◌==◌, nat_le, take, drop, if◌then◌else◌}
use Rattle.std.specs.Int.Signed.{le_z}
use Rattle.std.specs.List.{position}
use Rattle.spelling.specs.Number.{unsigned_of, signed_of}
use Rattle.view.specs.declared.diagonal.AxisPair.{AxisPair}
use Rattle.words.specs.declared.spelled.Lent.{Lent}

-- a number below 2^64
abbrev pub unsigned : List ℕ → Option ℕ
unsigned text = unsigned_of text

-- a number of 64 bits with its sign
abbrev pub signed : List ℕ → Option ℤ
signed text = signed_of text

abbrev pub lent_of : Option ℕ → Option Lent
lent_of (Some n) = if nat_le n 65536 then Some (record { 0 = n }) else None
lent_of None = None

-- a number up to 65536
abbrev pub lent : List ℕ → Option Lent
lent text = lent_of (unsigned text)

-- from -2^31 to 2^31 - 1, the range of a reading
abbrev pub is_reading : ℤ → Bool
is_reading z = le_z (negsuc (2 ^ 31 - 1)) z && le_z z (pos (2 ^ 31 - 1))

-- a number of 32 bits with its sign
abbrev pub reading : List ℕ → Option ℤ
reading text = option_and_then (λ z. if is_reading z then Some z else None) (signed text)

abbrev pub both : Option ℕ → Option ℕ → Option AxisPair
both (Some a) (Some b) = Some (record { 0 = a; 1 = b })
both (Some a) None = None
both None other = None

abbrev pub pair_around : Option ℕ → List ℕ → Option AxisPair
pair_around (Some i) text = both (unsigned (take i text)) (unsigned (drop (i + 1) text))
pair_around None text = None

-- the place of the first colon (58)
abbrev pub colon : List ℕ → Option ℕ
colon text = position (λ byte. byte == 58) text

-- two numbers around the first colon
abbrev pub pair : List ℕ → Option AxisPair
pair text = pair_around (colon text) text
