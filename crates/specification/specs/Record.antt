-- The record of a layout: its bytes, the writer, the reader, and stepping over.
-- RULES, "The record: writing", "The record: reading", "The record: stepping over".
use Rattle.std.specs.Prelude.{Bool, true, false, not, ◌&&◌, ◌||◌, List, [], ◌∷◌, ◌++◌, ◌≡◌, ℕ, zero, suc, ◌+◌, ◌*◌, ◌==◌, nat_lt, nat_le, ℤ, pos, length, take, drop, if◌then◌else◌, slice_index}
use Rattle.std.specs.Int.{w16, w64, to_be_bytes, from_be_bytes, cast_unsigned, cast_signed}
use Rattle.std.specs.Int.Signed.{le_z}
use Rattle.std.specs.Ordering.{int_eq}
use Rattle.integer.specs.Parts.{positive_part}
use Rattle.integer.specs.Range.{most_signed}
use Rattle.specification.specs.Axis.{Axis, is_empty}
use Rattle.specification.specs.Outcome.{Outcome, done, refused, refuse_if, ◌>>◌, ◌>>=◌}
use Rattle.specification.specs.Layout.{LayoutModel, rank, lowest, highest}
use Rattle.specification.specs.Normal.{continues, overfull, normal_form}
use Rattle.specification.specs.Verdict.{Verdict, Distinct, Repeated, Undecided, judge, freed_by, ScratchAfter}

-- ---- the bytes: numbers in 2 or 8 bytes, the highest first, as std's `to_be_bytes` has them

-- a signed number in 8 bytes: two's complement
abbrev pub signed_bytes : ℤ → List ℕ
signed_bytes z = to_be_bytes w64 (cast_unsigned w64 z)

-- 1 Distinct, 2 Repeated, 3 Undecided
abbrev pub verdict_byte : Verdict → ℕ
verdict_byte Distinct = 1
verdict_byte Repeated = 2
verdict_byte Undecided = 3

-- the bytes before the axes, and those of an axis
abbrev pub head_length : ℕ
head_length = 13

abbrev pub axis_length : ℕ
axis_length = 16

-- the length of a record: 13 + 16 × rank
abbrev pub record_length : ℕ → ℕ
record_length rank = head_length + axis_length * rank

-- each axis: its extent in 8 bytes, then its stride in 8
unfoldable pub axis_bytes : List Axis → List ℕ
axis_bytes [] = []
axis_bytes (a ∷ rest) = to_be_bytes w64 a.extent ++ signed_bytes a.stride ++ axis_bytes rest

-- the length of the record in 2 bytes, version 1, verdict and rank in one each, the offset in 8, then the axes
unfoldable pub record_bytes : LayoutModel → Verdict → List ℕ
record_bytes l v =
    to_be_bytes w16 (record_length (rank l)) ++ (1 ∷ verdict_byte v ∷ rank l ∷ [])
    ++ signed_bytes l.offset ++ axis_bytes l.axes

-- ---- the writer

-- the record made, and how many of the first scratch words are free to hold anything
pub record Made : Type 0 where
  pub bytes : List ℕ
  pub freed : ℕ

-- refusals 1, 3, 8, then 10 for an output of `room` bytes, then 9 for a scratch of `words` words;
-- what is written is the normal form, with the verdict of its own axes
unfoldable pub written : LayoutModel → ℕ → ℕ → Outcome Made
written l room words = do
  n ← normal_form l
  refuse_if (nat_lt room (record_length (rank n))) 10 (record_length (rank n) ∷ [])
  j ← judge n.axes words
  done (record { bytes = record_bytes n j.answer; freed = j.freed })

-- how many of the first scratch words are free to hold anything afterwards; a refusal leaves all as they were
unfoldable pub write_frees : Outcome Made → ℕ
write_frees (done m) = m.freed
write_frees (refused number values) = 0

-- the output after the call: the record at its front, no byte past it changed; a refusal leaves all as they were
abbrev pub output_after : Outcome Made → List ℕ → List ℕ
output_after (done m) before = m.bytes ++ drop (length m.bytes) before
output_after (refused number values) before = before

-- what the call answers: how many bytes were written, or the refusal
unfoldable pub write_answer : Outcome Made → Outcome ℕ
write_answer (done m) = done (length m.bytes)
write_answer (refused number values) = refused number values

-- one call of the writer on lent output and scratch: its answer, and what both hold afterwards
pub record Writing (l : LayoutModel) (output scratch : List ℕ) (answer : Outcome ℕ) (output-then scratch-then : List ℕ) : Type 0 where
  pub answer_is : answer ≡ write_answer (written l (length output) (length scratch))
  pub output_is : output-then ≡ output_after (written l (length output) (length scratch)) output
  pub scratch_is : ScratchAfter (write_frees (written l (length output) (length scratch))) scratch scratch-then

-- ---- the reader

-- the fields before the offset, each at its place; the length is the number that the first 2 bytes hold
unfoldable pub length_field : List ℕ → ℕ
length_field bytes = from_be_bytes w16 (take 2 bytes)

abbrev pub version_field : List ℕ → ℕ
version_field bytes = slice_index bytes 2

abbrev pub verdict_field : List ℕ → ℕ
verdict_field bytes = slice_index bytes 3

abbrev pub rank_field : List ℕ → ℕ
rank_field bytes = slice_index bytes 4

-- the number that 8 bytes from place i on hold, and the signed one whose two's complement it is
unfoldable pub number_at : List ℕ → ℕ → ℕ
number_at bytes i = from_be_bytes w64 (take 8 (drop i bytes))

abbrev pub signed_at : List ℕ → ℕ → ℤ
signed_at bytes i = cast_signed w64 (number_at bytes i)

-- the offset stands behind the rank
abbrev pub offset_field : List ℕ → ℤ
offset_field bytes = signed_at bytes 5

-- so many axes from place i on
unfoldable pub axes_from : List ℕ → ℕ → ℕ → List Axis
axes_from bytes i zero = []
axes_from bytes i (suc n) = record { extent = number_at bytes i; stride = signed_at bytes (i + 8) } ∷ axes_from bytes (i + axis_length) n

-- the bytes begin with the fields of a record: length, version, verdict and rank fit, and all bytes that the rank asks for are there
unfoldable pub fields_right : List ℕ → Bool
fields_right bytes =
    nat_le head_length (length bytes)
    && version_field bytes == 1
    && nat_le 1 (verdict_field bytes) && nat_le (verdict_field bytes) 3
    && nat_le (rank_field bytes) 16
    && length_field bytes == record_length (rank_field bytes)
    && nat_le (record_length (rank_field bytes)) (length bytes)

-- no axis of extent 1 or less, and none that continues the one before it
unfoldable pub is_merged : List Axis → Bool
is_merged [] = true
is_merged (a ∷ []) = nat_lt 1 a.extent
is_merged (a ∷ b ∷ rest) = nat_lt 1 a.extent && not (continues a b) && is_merged (b ∷ rest)

-- the normal form of an empty layout
abbrev pub is_empty_form : LayoutModel → Bool
is_empty_form l = elim l.axes [
  | [] ↦ false
  | a ∷ rest ↦ int_eq l.offset (pos 0) && length rest == 0 && a.extent == 0 && int_eq a.stride (pos 0)
]

-- what a record may hold: a normal form, not overfull, with its offsets from 0 to 2^63 - 1
unfoldable pub is_normal_form : LayoutModel → Bool
is_normal_form l =
    is_empty_form l
    || (is_merged l.axes && not (overfull l.axes) && le_z (pos 0) (lowest l) && le_z (highest l) (pos most_signed))

-- the layout with a buffer that ends at its highest offset (empty: of length 0)
unfoldable pub with_buffer : LayoutModel → LayoutModel
with_buffer l = record { buffer = if is_empty l.axes then 0 else positive_part (highest l) + 1; offset = l.offset; axes = l.axes }

-- the layout that the fields tell
unfoldable pub layout_from : List ℕ → LayoutModel
layout_from bytes = with_buffer (record { buffer = 0; offset = offset_field bytes; axes = axes_from bytes head_length (rank_field bytes) })

-- what is read: the layout and its verdict
pub record WasRead : Type 0 where
  pub layout : LayoutModel
  pub answer : Verdict

-- 11 if the bytes do not begin with a record; then 9; then 11 if the verdict in it is not the one judged
unfoldable pub read_of : List ℕ → ℕ → Outcome WasRead
read_of bytes words = do
  refuse_if (not (fields_right bytes)) 11 []
  let l = layout_from bytes
  refuse_if (not (is_normal_form l)) 11 []
  j ← judge l.axes words
  refuse_if (not (verdict_byte j.answer == verdict_field bytes)) 11 []
  done (record { layout = l; answer = j.answer })

-- how many of the first scratch words are free to hold anything afterwards, also if the verdict was false
unfoldable pub read_frees : List ℕ → ℕ → ℕ
read_frees bytes words = if fields_right bytes && is_normal_form (layout_from bytes) then freed_by (judge (layout_from bytes).axes words) else 0

-- ---- stepping over

-- the bytes behind the record; none if its length field is not all there, or says less than 13 or more than there are bytes
unfoldable pub rest_of : List ℕ → List ℕ
rest_of bytes =
    if nat_lt (length bytes) 2 || nat_lt (length_field bytes) head_length || nat_lt (length bytes) (length_field bytes) then []
    else drop (length_field bytes) bytes
