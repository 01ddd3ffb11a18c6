-- The ranges of 64-bit numbers, signed and unsigned, which are those of isize and usize.
use Rattle.std.specs.Prelude.{Bool, ◌&&◌, if◌then◌else◌, ℕ, ◌-◌, ◌^◌, ℤ, pos, negsuc, Option, Some, None}
use Rattle.std.specs.Int.Signed.{le_z}

-- 2^63 - 1, the most that 64 bits signed hold.
abbrev pub most_signed : ℕ
most_signed = 2 ^ 63 - 1

-- 2^64 - 1, the most that 64 bits unsigned hold.
abbrev pub most_unsigned : ℕ
most_unsigned = 2 ^ 64 - 1

-- From -2^63 to 2^63 - 1.
abbrev pub fits : ℤ → Bool
fits z = le_z (negsuc most_signed) z && le_z z (pos most_signed)

-- The answer of an operation at 64 bits whose result is z: z itself, or `None` if z does not fit.
abbrev pub checked_of : ℤ → Option ℤ
checked_of z = if fits z then Some z else None
