-- What is known of bytes that were read: their fields, that the layout read is accepted, and its buffer length.
use mathlib.Core.Path.{◌≡◌, refl, sym, ap, subst, ◌∙◌}
use mathlib.Core.Bool.{Bool, true, false, not}
use mathlib.Core.List.{List, []}
use mathlib.Core.Logic.{◌↔◌}
use Prim.Native.Nat.{ℕ, zero, suc, ◌+◌, ◌<◌, ◌≤◌}
use native.Mathlib.Omega.{arith}
use lib.Dec.{eqb}
use lib.IntN.{ℤ, pos, ◌+ℤ◌}
use lib.ListN.{length, get_or}
use lib.Signed.{◌≤ℤ◌, ◌<ℤ◌}
use borrow.Author.Tests.{eqb-true, not-false}
use Rattle.integer.specs.Parts.{positive_part}
use Rattle.specification.specs.Axis.{positions, is_empty}
use Rattle.specification.specs.Outcome.{done}
use Rattle.specification.specs.Layout.{LayoutModel, rank, offset_at, IsAccepted, highest}
use Rattle.specification.specs.Verdict.{Judged, judge}
use Rattle.specification.specs.Record.{record_length, verdict_byte, length_field, offset_field, axes_from, fields_right, is_normal_form, with_buffer, layout_from, WasRead, read_of}
use Rattle.specification.specs.ViewClaims.{AcceptedClaims}
use Rattle.specification.specs.RecordClaims.{Fields, WholeRecord, BufferToHighest}
use Rattle.specification.proofs.NormalLaws.{full-pos, positions-pos, empty-none}
use Rattle.specification.proofs.NormalTest.{normal_tested}
use Rattle.specification.proofs.ReachLaws.{reach_of}
use Rattle.specification.proofs.TestsTold.{and-holds, leb-holds, eqb-holds}
use Rattle.specification.proofs.AcceptedLaws.{views-keep, ends-keep, checked_in}
use Rattle.specification.proofs.OutcomeLaws.{passed, bound, done_inj}
use Rattle.std.proofs.lemmas.Int.{ints}

-- ---- the fields

-- test by test
each-field : (bytes : List ℕ) → (fields_right bytes ≡ true)
    ↔ (((((((13 ≤ length bytes) × (get_or bytes 2 0 ≡ 1)) × (1 ≤ get_or bytes 3 0)) × (get_or bytes 3 0 ≤ 3)) × (get_or bytes 4 0 ≤ 16)) × (length_field bytes ≡ record_length (get_or bytes 4 0))) × (record_length (get_or bytes 4 0) ≤ length bytes))
unfolding fields_right
each-field bytes =
    and-holds _ _ (and-holds _ _ (and-holds _ _ (and-holds _ _ (and-holds _ _ (and-holds _ _ (leb-holds _ _) (eqb-holds _ _)) (leb-holds _ _)) (leb-holds _ _)) (leb-holds _ _)) (eqb-holds _ _)) (leb-holds _ _)

pub fields_tested : (bytes : List ℕ) → fields_right bytes ≡ true → Fields bytes
fields_tested bytes e = let f = (each-field bytes).0 e in record {
  front_there = f.0.0.0.0.0.0;
  version_is = f.0.0.0.0.0.1;
  verdict_from = f.0.0.0.0.1;
  verdict_to = f.0.0.0.1;
  rank_small = f.0.0.1;
  length_is = f.0.1;
  whole_there = f.1;
}

pub fields-pass : (bytes : List ℕ) → Fields bytes → fields_right bytes ≡ true
fields-pass bytes f = (each-field bytes).1 ((((((f.front_there, f.version_is), f.verdict_from), f.verdict_to), f.rank_small), f.length_is), f.whole_there)

-- ---- bytes that were read

-- a whole record, judged with the answer that its verdict byte says
pub record Reads (bytes : List ℕ) (words : ℕ) (w : WasRead) : Type 0 where
  pub whole : WholeRecord bytes
  pub j : Judged
  pub judged : judge (layout_from bytes).axes words ≡ done j
  pub true_byte : verdict_byte j.answer ≡ get_or bytes 3 0
  pub is : w ≡ record { layout = layout_from bytes; answer = j.answer }

pub reads : (bytes : List ℕ) (words : ℕ) (w : WasRead) → read_of bytes words ≡ done w → Reads bytes words w
unfolding read_of
reads bytes words w e =
    let p = passed (not (fields_right bytes)) 11 [] e in
    let q = passed (not (is_normal_form (layout_from bytes))) 11 [] p.1 in
    let b = bound q.1 in
    let s = passed (not (eqb (verdict_byte b.what.answer) (get_or bytes 3 0))) 11 [] b.after in
    record {
      whole = record { fields = fields_tested bytes (not-false (fields_right bytes) p.0); form = (normal_tested (layout_from bytes)).0 (not-false (is_normal_form (layout_from bytes)) q.0) };
      j = b.what;
      judged = b.was;
      true_byte = eqb-true (verdict_byte b.what.answer) (get_or bytes 3 0) (not-false (eqb (verdict_byte b.what.answer) (get_or bytes 3 0)) s.0);
      is = sym (done_inj s.1);
    }

-- ---- the layout told

length-axes_from : (bytes : List ℕ) (i n : ℕ) → length (axes_from bytes i n) ≡ n
unfolding axes_from
length-axes_from bytes i zero = refl
length-axes_from bytes i (suc n) = ap suc (length-axes_from bytes (i + 16) n)

-- the rank of the layout told is the rank byte
pub rank-told : (bytes : List ℕ) → rank (layout_from bytes) ≡ get_or bytes 4 0
unfolding layout_from with_buffer
rank-told bytes = length-axes_from bytes 13 (get_or bytes 4 0)

-- ---- the layout read is accepted

-- one more than a number from 0 on
one_more : (z : ℤ) → pos 0 ≤ℤ z → z +ℤ pos 1 ≡ pos (positive_part z + 1)
one_more z h = grind (arith, ints)

module _ (l : LayoutModel) where
  buffer-empty : is_empty l.axes ≡ true → (with_buffer l).buffer ≡ 0
  unfolding with_buffer
  buffer-empty e = rw e (omega arith)

  buffer-full : is_empty l.axes ≡ false → (with_buffer l).buffer ≡ positive_part (highest l) + 1
  unfolding with_buffer
  buffer-full e = rw e (omega arith)

  -- the buffer length is above every offset
  below-buffer : (k : ℕ) → k < positions l.axes → offset_at l k <ℤ pos (with_buffer l).buffer
  below-buffer k h = go (is_empty l.axes) refl
    where
      go : (t : Bool) → is_empty l.axes ≡ t → offset_at l k <ℤ pos (with_buffer l).buffer
      go true e = absurd (omega (arith, empty-none l.axes e))
      go false e = omega (arith, ints, ((reach_of l e).between k h).1, buffer-full e)

  -- if none is below 0, one of them is just below it
  buffer-to-highest : ((k : ℕ) → k < positions l.axes → pos 0 ≤ℤ offset_at l k) → BufferToHighest (with_buffer l)
  unfolding with_buffer
  buffer-to-highest low = record { empty = no_buffer (is_empty l.axes) refl; reached = by (is_empty l.axes) refl; none_above = below-buffer }
    where
      no_buffer : (t : Bool) → is_empty l.axes ≡ t → positions l.axes ≡ 0 → (with_buffer l).buffer ≡ 0
      no_buffer true e h = buffer-empty e
      no_buffer false e h = absurd (omega (arith, positions-pos (full-pos l.axes e)))

      by : (t : Bool) → is_empty l.axes ≡ t → 0 < positions l.axes → (k : ℕ) × (k < positions l.axes) × (offset_at l k +ℤ pos 1 ≡ pos (with_buffer l).buffer)
      by true e h = absurd (omega (arith, empty-none l.axes e))
      by false e h =
          let r = reach_of l e in
          let from_zero : pos 0 ≤ℤ highest l = subst (λ (z : ℤ). pos 0 ≤ℤ z) r.high (low r.high_at r.high_is) in
          (r.high_at, r.high_is, ap (λ (z : ℤ). z +ℤ pos 1) r.high ∙ one_more (highest l) from_zero ∙ ap pos (sym (buffer-full e)))

pub whole-accepted : (bytes : List ℕ) → WholeRecord bytes → IsAccepted (layout_from bytes)
unfolding layout_from with_buffer
whole-accepted bytes w = record {
  few = omega (arith, rank-told bytes, w.fields.rank_small);
  offsets = λ k h. record {
    from_zero = (w.form.within k h).0;
    to_most = (w.form.within k h).1;
    in_buffer = below-buffer (record { buffer = 0; offset = offset_field bytes; axes = axes_from bytes 13 (get_or bytes 4 0) }) k h;
  };
}

was_read : (bytes : List ℕ) (words : ℕ) (w : WasRead) → read_of bytes words ≡ done w → IsAccepted w.layout
was_read bytes words w e =
    let r = reads bytes words w e in
    subst (λ (x : WasRead). IsAccepted x.layout) (sym r.is) (whole-accepted bytes r.whole)

pub buffer_read : (bytes : List ℕ) (words : ℕ) (w : WasRead) → read_of bytes words ≡ done w → BufferToHighest w.layout
unfolding layout_from with_buffer
buffer_read bytes words w e =
    let r = reads bytes words w e in
    subst (λ (x : WasRead). BufferToHighest x.layout) (sym r.is)
    (buffer-to-highest (record { buffer = 0; offset = offset_field bytes; axes = axes_from bytes 13 (get_or bytes 4 0) }) (λ k h. (r.whole.form.within k h).0))

pub verdict_read : (bytes : List ℕ) (words : ℕ) (w : WasRead) → read_of bytes words ≡ done w
    → (j : Judged) × (judge w.layout.axes words ≡ done j) × (w.answer ≡ j.answer) × (verdict_byte w.answer ≡ get_or bytes 3 0)
verdict_read bytes words w e =
    let r = reads bytes words w e in
    subst (λ (x : WasRead). (j : Judged) × (judge x.layout.axes words ≡ done j) × (x.answer ≡ j.answer) × (verdict_byte x.answer ≡ get_or bytes 3 0)) (sym r.is)
    (r.j, r.judged, refl, r.true_byte)

pub accepted_claims : AcceptedClaims
accepted_claims = record { views = views-keep; ends = ends-keep; checked_in = checked_in; was_read = was_read }
