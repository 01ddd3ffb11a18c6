-- Write then read gives the normal form; read then write gives the bytes of the front again.
use mathlib.Core.Path.{◌≡◌, refl, sym, ap, ap₂, subst, ◌∙◌}
use mathlib.Core.Bool.{false}
use mathlib.Core.List.{List, [], ◌∷◌, ◌++◌}
use Prim.Native.Nat.{ℕ, suc, ◌*◌, ◌≤◌}
use native.Mathlib.Omega.{arith}
use lib.ListN.{length, get_or, take, drop}
use lib.Seq.{drop-cons}
use Rattle.std.specs.Int.{w16, to_be_bytes}
use Rattle.specification.specs.Axis.{Axis}
use Rattle.specification.specs.Outcome.{done}
use Rattle.specification.specs.Layout.{LayoutModel, rank, IsAccepted}
use Rattle.specification.specs.Normal.{normal_of, overfull}
use Rattle.specification.specs.Verdict.{Verdict, Judged, judge, words_needed}
use Rattle.specification.specs.Record.{signed_bytes, verdict_byte, record_length, axis_bytes, record_bytes, Made, written, length_field, with_buffer, layout_from, WasRead, read_of, rest_of}
use Rattle.specification.specs.RecordClaims.{Fields, NormalRecord, WholeRecord, Bytes, RoundTrip}
use Rattle.specification.proofs.NormalLaws.{normal-same, canonical-iff}
use Rattle.specification.proofs.PlanCases.{judged-with}
use Rattle.specification.proofs.WriterLaws.{normal-accepted, normal-few}
use Rattle.specification.proofs.FieldsFit.{fields_fit}
use Rattle.specification.proofs.RecordFields.{bytes-length_field, bytes-signed_at, bytes-axes_from, join-parts}
use Rattle.specification.proofs.RecordFront.{record_then, verdict-byte, layout-told, fields-right, rest-behind}
use Rattle.specification.proofs.WriterAnswers.{record_of, Writes, writes, written-made}
use Rattle.specification.proofs.EqualRecords.{same-form-bytes}
use Rattle.specification.proofs.ReaderLaws.{reads, rank-told, whole-accepted}
use Rattle.specification.proofs.ReaderAnswers.{read_done}

-- ---- write then read

-- the normal form of an accepted layout passes for a record's normal form, whatever its buffer length
normal-record : (x : LayoutModel) → IsAccepted x → overfull x.axes ≡ false → NormalRecord (with_buffer (normal_of x))
unfolding with_buffer
normal-record x a o =
    let s = normal-same x in
    let own = (canonical-iff (with_buffer (normal_of x)) x).1 (record { as_many = s.as_many; alike = s.alike }) in
    let n = normal-accepted x a in
    record { normal = record { same_offset = own.same_offset; same_axes = own.same_axes }; few = normal-few x o; within = λ k h. ((n.offsets k h).from_zero, (n.offsets k h).to_most) }

module _ (x : LayoutModel) (a : IsAccepted x) (room words : ℕ) {m : Made} (w : Writes x room words m) (behind : List ℕ) where
  told : layout_from (record_then (normal_of x) w.j.answer behind) ≡ with_buffer (normal_of x)
  told = layout-told (normal_of x) w.j.answer behind (fields_fit x a w.few)

  whole : WholeRecord (record_then (normal_of x) w.j.answer behind)
  whole = record { fields = fields-right (normal_of x) w.j.answer behind (normal-accepted x a).few; form = subst NormalRecord (sym told) (normal-record x a w.few) }

  judged-again : (words' : ℕ) → words_needed (normal_of x).axes ≤ words' → judge (layout_from (record_then (normal_of x) w.j.answer behind)).axes words' ≡ done w.j
  unfolding with_buffer
  judged-again words' h = ap (λ (l : LayoutModel). judge l.axes words') told ∙ judged-with (normal_of x).axes words words' w.j w.judged h

  read_again : (words' : ℕ) → words_needed (normal_of x).axes ≤ words'
      → read_of (record_then (normal_of x) w.j.answer behind) words' ≡ done (record { layout = layout_from (record_then (normal_of x) w.j.answer behind); answer = w.j.answer })
  read_again words' h = read_done (record_then (normal_of x) w.j.answer behind) words' whole w.j (judged-again words' h) (sym (verdict-byte (normal_of x) w.j.answer behind))

  -- the bytes are those of the layout that is read, with the verdict written
  written_so : record_bytes (normal_of x) w.j.answer ≡ record_bytes (layout_from (record_then (normal_of x) w.j.answer behind)) w.j.answer
  unfolding record_bytes with_buffer
  written_so = sym (ap (λ (l : LayoutModel). record_bytes l w.j.answer) told)

write_read : (l : LayoutModel) (room words words' : ℕ) (m : Made) (behind : List ℕ) → IsAccepted l → written l room words ≡ done m → words_needed (normal_of l).axes ≤ words'
    → (w : WasRead) × (read_of (m.bytes ++ behind) words' ≡ done w) × (w.layout ≡ with_buffer (normal_of l)) × (rest_of (m.bytes ++ behind) ≡ behind) × (m.bytes ≡ record_bytes w.layout w.answer)
write_read l room words words' m behind a e h =
    let w = writes l room words m a e in
    subst (λ (r : Made). (w : WasRead) × (read_of (r.bytes ++ behind) words' ≡ done w) × (w.layout ≡ with_buffer (normal_of l)) × (rest_of (r.bytes ++ behind) ≡ behind) × (r.bytes ≡ record_bytes w.layout w.answer)) (sym w.is) (
      record { layout = layout_from (record_then (normal_of l) w.j.answer behind); answer = w.j.answer },
      read_again l a room words w behind words' h,
      told l a room words w behind,
      rest-behind (normal_of l) w.j.answer behind (normal-accepted l a).few,
      written_so l a room words w behind,
    )

-- ---- read then write

-- each field of the layout told is written as the bytes that it was read from
module _ (bytes : List ℕ) (b : Bytes bytes) (f : Fields bytes) where
  length-bytes : to_be_bytes w16 (record_length (rank (layout_from bytes))) ≡ take 2 bytes
  length-bytes = ap (to_be_bytes w16) (ap record_length (rank-told bytes) ∙ sym f.length_is) ∙ bytes-length_field bytes b (omega (arith, f.front_there))

  byte-then : (i : ℕ) → i ≤ 12 → drop i bytes ≡ get_or bytes i 0 ∷ drop (suc i) bytes
  byte-then i h = drop-cons bytes i 0 (omega (arith, f.front_there))

  three-bytes : (v : Verdict) → verdict_byte v ≡ get_or bytes 3 0 → 1 ∷ verdict_byte v ∷ rank (layout_from bytes) ∷ [] ≡ take 3 (drop 2 bytes)
  three-bytes v e = (λ i. sym f.version_is i ∷ e i ∷ rank-told bytes i ∷ []) ∙ sym (ap (λ (l : List ℕ). take 3 l)
      (byte-then 2 (omega arith) ∙ ap (λ (l : List ℕ). get_or bytes 2 0 ∷ l) (byte-then 3 (omega arith) ∙ ap (λ (l : List ℕ). get_or bytes 3 0 ∷ l) (byte-then 4 (omega arith)))))

  offset-bytes : signed_bytes (layout_from bytes).offset ≡ take 8 (drop 5 bytes)
  unfolding layout_from with_buffer
  offset-bytes = bytes-signed_at bytes 5 b (omega (arith, f.front_there))

  axes-bytes : axis_bytes (layout_from bytes).axes ≡ take (16 * get_or bytes 4 0) (drop 13 bytes)
  unfolding layout_from with_buffer
  axes-bytes = bytes-axes_from bytes 13 (get_or bytes 4 0) b (omega (arith, f.whole_there))

  -- together: the bytes that the length field counts
  front_bytes : (v : Verdict) → verdict_byte v ≡ get_or bytes 3 0 → record_bytes (layout_from bytes) v ≡ take (length_field bytes) bytes
  unfolding record_bytes
  front_bytes v e =
      ap₂ join (ap₂ join (ap₂ join length-bytes (three-bytes v e) ∙ join-parts bytes 0 2 3) offset-bytes ∙ join-parts bytes 0 5 8) axes-bytes
      ∙ join-parts bytes 0 13 (16 * get_or bytes 4 0) ∙ ap (λ (k : ℕ). take k bytes) (sym f.length_is)
    where
      join : List ℕ → List ℕ → List ℕ
      join x y = x ++ y

-- the layout told is its own normal form, so it is judged and written as it was read
module _ (bytes : List ℕ) (w : WholeRecord bytes) (room words : ℕ) (j : Judged) (judged : judge (layout_from bytes).axes words ≡ done j) where
  own-judged : judge (normal_of (layout_from bytes)).axes words ≡ done j
  own-judged = ap (λ (axes : List Axis). judge axes words) w.form.normal.same_axes ∙ judged

  own-length : record_length (rank (normal_of (layout_from bytes))) ≡ length_field bytes
  own-length = ap (λ (axes : List Axis). record_length (length axes)) w.form.normal.same_axes ∙ ap record_length (rank-told bytes) ∙ sym w.fields.length_is

  written-again : length_field bytes ≤ room → written (layout_from bytes) room words ≡ done (record_of (normal_of (layout_from bytes)) j)
  written-again h = written-made (layout_from bytes) room words (whole-accepted bytes w) w.form.few (omega (arith, own-length)) j own-judged

  bytes-again : Bytes bytes → verdict_byte j.answer ≡ get_or bytes 3 0 → record_bytes (normal_of (layout_from bytes)) j.answer ≡ take (length_field bytes) bytes
  bytes-again b e =
      same-form-bytes (normal_of (layout_from bytes)) (layout_from bytes) j.answer j.answer w.form.normal refl
      ∙ front_bytes bytes b w.fields j.answer e

read_write : (bytes : List ℕ) (room words words' : ℕ) (w : WasRead) → Bytes bytes → read_of bytes words ≡ done w → length_field bytes ≤ room → words_needed w.layout.axes ≤ words'
    → (m : Made) × (written w.layout room words' ≡ done m) × (m.bytes ≡ take (length_field bytes) bytes)
read_write bytes room words words' w b e h enough =
    let r = reads bytes words w e in
    let enough' : words_needed (layout_from bytes).axes ≤ words' = subst (λ (x : WasRead). words_needed x.layout.axes ≤ words') r.is enough in
    let judged = judged-with (layout_from bytes).axes words words' r.j r.judged enough' in (
      record_of (normal_of (layout_from bytes)) r.j,
      ap (λ (x : WasRead). written x.layout room words') r.is ∙ written-again bytes r.whole room words' r.j judged h,
      bytes-again bytes r.whole room words' r.j judged b r.true_byte,
    )

pub round_trip : RoundTrip
round_trip = record { write_read = write_read; read_write = read_write }
