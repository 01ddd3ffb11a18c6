-- Claims on the bytes of a record, digit by digit: what the definitions say with std's words for numbers in bytes and for two's complement.
-- RULES, "The record: writing", "The record: reading".
use Rattle.std.specs.Prelude.{List, [], ◌∷◌, ◌++◌, ◌≡◌, ℕ, zero, suc, ◌+◌, ◌-◌, ◌*◌, ◌/◌, ◌%◌, ◌^◌, ◌<◌, nat_lt, ℤ, pos, negsuc, if◌then◌else◌, slice_index}
use Rattle.specification.specs.Axis.{Axis}
use Rattle.specification.specs.Layout.{LayoutModel, rank}
use Rattle.specification.specs.Views.{axis_at}
use Rattle.specification.specs.Verdict.{Verdict}
use Rattle.specification.specs.Record.{verdict_byte, record_bytes, length_field, layout_from}

-- the lowest n bytes of x, the highest of them first
unfoldable pub big_endian : ℕ → ℕ → List ℕ
big_endian zero x = []
big_endian (suc n) x = x / 256 ^ n % 256 ∷ big_endian n x

-- the number that n bytes from place i on hold
unfoldable pub number_from : List ℕ → ℕ → ℕ → ℕ
number_from bytes i zero = 0
number_from bytes i (suc n) = slice_index bytes i * 256 ^ n + number_from bytes (suc i) n

-- two's complement in 64 bits: `negsuc n` is -(n + 1)
abbrev pub twos : ℤ → ℕ
twos (pos n) = n
twos (negsuc n) = 2 ^ 64 - suc n

-- the number whose two's complement is n
abbrev pub signed_of : ℕ → ℤ
signed_of n = if nat_lt n (2 ^ 63) then pos n else negsuc (2 ^ 64 - suc n)

-- axes, 16 bytes each
unfoldable pub axes_by_digits : List Axis → List ℕ
axes_by_digits [] = []
axes_by_digits (a ∷ rest) = big_endian 8 a.extent ++ big_endian 8 (twos a.stride) ++ axes_by_digits rest

-- the axis that 16 bytes from place i on hold
abbrev pub axis_by_digits : List ℕ → ℕ → Axis
axis_by_digits bytes i = record { extent = number_from bytes i 8; stride = signed_of (number_from bytes (i + 8) 8) }

pub record ByteClaims : Type 0 where
  -- what is written: the length in 2 bytes, version 1, verdict, rank, the offset in 8 bytes, then the axes
  pub record_is : (l : LayoutModel) (v : Verdict)
      → record_bytes l v ≡ big_endian 2 (13 + 16 * rank l) ++ (1 ∷ verdict_byte v ∷ rank l ∷ []) ++ big_endian 8 (twos l.offset) ++ axes_by_digits l.axes
  -- what is read, each field at its place
  pub length_is : (bytes : List ℕ) → length_field bytes ≡ number_from bytes 0 2
  pub offset_is : (bytes : List ℕ) → (layout_from bytes).offset ≡ signed_of (number_from bytes 5 8)
  pub rank_is : (bytes : List ℕ) → rank (layout_from bytes) ≡ slice_index bytes 4
  pub axis_is : (bytes : List ℕ) (i : ℕ) → i < slice_index bytes 4 → axis_at (layout_from bytes).axes i ≡ axis_by_digits bytes (13 + 16 * i)
