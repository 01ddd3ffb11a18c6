-- Claims on the record: what the writer frees, what the reader takes for a record, its refusals exactly, both ways of the round trip, and stepping over.
-- RULES, "The record: writing", "The record: reading", "The record: stepping over".
use Rattle.std.specs.Prelude.{true, false, List, [], ◌∷◌, ◌++◌, ◌≢◌, ◌⊎◌, ◌↔◌, ◌≡◌, ℕ, ◌+◌, ◌*◌, ◌<◌, ◌≤◌, pos, ◌+ℤ◌, length, take, drop, ◌≤ℤ◌, ◌<ℤ◌, slice_index}
use Rattle.integer.specs.Range.{most_signed}
use Rattle.specification.specs.Axis.{positions}
use Rattle.specification.specs.Outcome.{done, refused}
use Rattle.specification.specs.Layout.{LayoutModel, offset_at, IsAccepted, HandedRefused}
use Rattle.specification.specs.Normal.{normal_of, overfull}
use Rattle.specification.specs.Verdict.{Judged, judge, words_needed}
use Rattle.specification.specs.Record.{Made, verdict_byte, record_bytes, written, write_frees, fields_right, is_normal_form, layout_from, WasRead, read_of, read_frees, with_buffer, length_field, rest_of}
use Rattle.specification.specs.NormalClaims.{SameForm}

-- the writer's refusals before those of `AnsweredExactly`, and what it leaves in the scratch
pub record WriterClaims : Type 0 where
  pub handed_in : (l : LayoutModel) (room words number : ℕ) (values : List ℕ) → HandedRefused l 0 number values → written l room words ≡ refused number values
  -- the words needed for the normal form are free afterwards if a record gets made; a refusal frees none
  pub frees : (l : LayoutModel) (room words : ℕ) (m : Made) → IsAccepted l → written l room words ≡ done m → write_frees (written l room words) ≡ words_needed (normal_of l).axes
  pub frees_none : (l : LayoutModel) (room words number : ℕ) (values : List ℕ) → written l room words ≡ refused number values → write_frees (written l room words) ≡ 0

-- the fields of a record: 13 bytes or more, the length that the rank asks for, version 1, verdict 1 to 3, rank at most 16,
-- and as many bytes as the length says
pub record Fields (bytes : List ℕ) : Type 0 where
  pub front_there : 13 ≤ length bytes
  pub length_is : length_field bytes ≡ 13 + 16 * slice_index bytes 4
  pub version_is : slice_index bytes 2 ≡ 1
  pub verdict_from : 1 ≤ slice_index bytes 3
  pub verdict_to : slice_index bytes 3 ≤ 3
  pub rank_small : slice_index bytes 4 ≤ 16
  pub whole_there : 13 + 16 * slice_index bytes 4 ≤ length bytes

-- a layout in normal form, not overfull, with its offsets from 0 to 2^63 - 1
pub record NormalRecord (l : LayoutModel) : Type 0 where
  pub normal : SameForm (normal_of l) l
  pub few : overfull l.axes ≡ false
  pub within : (k : ℕ) → k < positions l.axes → (pos 0 ≤ℤ offset_at l k) × (offset_at l k ≤ℤ pos most_signed)

-- the bytes begin with a whole record: the fields are right, and they tell a normal form
pub record WholeRecord (bytes : List ℕ) : Type 0 where
  pub fields : Fields bytes
  pub form : NormalRecord (layout_from bytes)

-- the reader refuses with a number and values: 11, then 9, then 11 for a false verdict
pub data ReadRefused (bytes : List ℕ) (words : ℕ) : ℕ → List ℕ → Type 0 where
  no_record : ¬ (WholeRecord bytes) → ReadRefused bytes words 11 []
  too_short : WholeRecord bytes → words < words_needed (layout_from bytes).axes → ReadRefused bytes words 9 (words_needed (layout_from bytes).axes ∷ [])
  false_verdict : WholeRecord bytes → (j : Judged) → judge (layout_from bytes).axes words ≡ done j → verdict_byte j.answer ≢ slice_index bytes 3 → ReadRefused bytes words 11 []

-- the buffer length is the highest offset + 1: some position's offset is one below it, none lies further up; empty: 0
pub record BufferToHighest (l : LayoutModel) : Type 0 where
  pub empty : positions l.axes ≡ 0 → l.buffer ≡ 0
  pub reached : 0 < positions l.axes → (k : ℕ) × (k < positions l.axes) × (offset_at l k +ℤ pos 1 ≡ pos l.buffer)
  pub none_above : (k : ℕ) → k < positions l.axes → offset_at l k <ℤ pos l.buffer

-- what the reader refuses, the buffer length and the verdict of what it reads, and what it leaves in the scratch
pub record ReaderClaims : Type 0 where
  -- the test of the fields and the test for a normal form say what they should
  pub fields_told : (bytes : List ℕ) → (fields_right bytes ≡ true) ↔ Fields bytes
  pub normal_tested : (l : LayoutModel) → (is_normal_form l ≡ true) ↔ NormalRecord l
  pub refuses : (bytes : List ℕ) (words number : ℕ) (values : List ℕ) → (read_of bytes words ≡ refused number values) ↔ ReadRefused bytes words number values
  -- the buffer of a layout that is read ends at its highest offset
  pub buffer_read : (bytes : List ℕ) (words : ℕ) (w : WasRead) → read_of bytes words ≡ done w → BufferToHighest w.layout
  -- the verdict that is read is the one judged of that layout, and the byte says it
  pub verdict_read : (bytes : List ℕ) (words : ℕ) (w : WasRead) → read_of bytes words ≡ done w
      → (j : Judged) × (judge w.layout.axes words ≡ done j) × (w.answer ≡ j.answer) × (verdict_byte w.answer ≡ slice_index bytes 3)
  -- the words needed are free afterwards if the verdict was judged, also if it was false; else none
  pub frees : (bytes : List ℕ) (words : ℕ) → WholeRecord bytes → words_needed (layout_from bytes).axes ≤ words → read_frees bytes words ≡ words_needed (layout_from bytes).axes
  pub frees_none : (bytes : List ℕ) (words : ℕ) → (¬ (WholeRecord bytes)) ⊎ (words < words_needed (layout_from bytes).axes) → read_frees bytes words ≡ 0

-- each entry is a byte
abbrev pub Bytes : List ℕ → Type 0
Bytes bytes = (i : ℕ) → slice_index bytes i < 256

-- both ways: the reader accepts exactly what the writer writes; the first call is lent `words`, the second `words'`, at least as many as the verdict needs
pub record RoundTrip : Type 0 where
  -- write then read: the normal form, with the buffer length that its offsets need, and the verdict that was written; bytes behind are ignored
  pub write_read : (l : LayoutModel) (room words words' : ℕ) (m : Made) (behind : List ℕ) → IsAccepted l → written l room words ≡ done m → words_needed (normal_of l).axes ≤ words'
      → (w : WasRead) × (read_of (m.bytes ++ behind) words' ≡ done w) × (w.layout ≡ with_buffer (normal_of l)) × (rest_of (m.bytes ++ behind) ≡ behind) × (m.bytes ≡ record_bytes w.layout w.answer)
  -- read then write: the bytes of the front again
  pub read_write : (bytes : List ℕ) (room words words' : ℕ) (w : WasRead) → Bytes bytes → read_of bytes words ≡ done w → length_field bytes ≤ room → words_needed w.layout.axes ≤ words'
      → (m : Made) × (written w.layout room words' ≡ done m) × (m.bytes ≡ take (length_field bytes) bytes)

-- stepping over gives a part at the end of the caller's bytes: behind the length field's count, or the empty part
pub record SteppingClaims : Type 0 where
  pub over : (bytes : List ℕ) → 2 ≤ length bytes → 13 ≤ length_field bytes → length_field bytes ≤ length bytes → rest_of bytes ≡ drop (length_field bytes) bytes
  pub at_end : (bytes : List ℕ) → (length bytes < 2) ⊎ ((length_field bytes < 13) ⊎ (length bytes < length_field bytes)) → rest_of bytes ≡ drop (length bytes) bytes
