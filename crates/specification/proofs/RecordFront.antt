-- A record at the front of bytes: each field is read as it was written, whatever stands behind, and the rest is what stands behind.
use mathlib.Core.Path.{◌≡◌, refl, ap, ◌∙◌}
use mathlib.Core.List.{List, [], ◌∷◌, ◌++◌, append_assoc}
use Prim.Native.Nat.{ℕ, ◌+◌, ◌≤◌}
use native.Mathlib.Omega.{arith}
use lib.ListN.{length, get_or, length-append}
use lib.Seq.{drop_at}
use borrow.Author.Tests.{le-ltb}
use Rattle.specification.specs.Layout.{LayoutModel, rank}
use Rattle.specification.specs.Verdict.{Verdict}
use Rattle.std.specs.Int.{w16, to_be_bytes}
use Rattle.specification.specs.Record.{signed_bytes, verdict_byte, record_length, axis_bytes, record_bytes, length_field, offset_field, axes_from, with_buffer, layout_from, rest_of}
use Rattle.specification.specs.RecordClaims.{Fields}
use Rattle.specification.proofs.FieldsFit.{FieldsFit}
use Rattle.specification.proofs.RecordFields.{length-record_bytes, length_field-at, signed_at-at, axes_from-at}
use Rattle.std.proofs.lemmas.Int.{ints}

-- a record, and bytes behind it
abbrev pub record_then : LayoutModel → Verdict → List ℕ → List ℕ
record_then n v behind = record_bytes n v ++ behind

-- length, version, verdict and rank: the five bytes before the offset
abbrev header : LayoutModel → Verdict → List ℕ
header n v = to_be_bytes w16 (record_length (rank n)) ++ (1 ∷ verdict_byte v ∷ rank n ∷ [])

byte-in-range : (v : Verdict) → (1 ≤ verdict_byte v) × (verdict_byte v ≤ 3)
byte-in-range v = grind (arith, ints)

module _ (n : LayoutModel) (v : Verdict) (behind : List ℕ) where
  version-byte : get_or (record_then n v behind) 2 0 ≡ 1
  unfolding record_bytes
  version-byte = refl

  pub verdict-byte : get_or (record_then n v behind) 3 0 ≡ verdict_byte v
  unfolding record_bytes
  verdict-byte = refl

  rank-byte : get_or (record_then n v behind) 4 0 ≡ rank n
  unfolding record_bytes
  rank-byte = refl

  whole_length : length (record_then n v behind) ≡ record_length (rank n) + length behind
  whole_length = length-append (record_bytes n v) behind ∙ ap (λ (k : ℕ). k + length behind) (length-record_bytes n v)

  offset-field : FieldsFit n → offset_field (record_then n v behind) ≡ n.offset
  unfolding record_bytes
  offset-field f =
      ap offset_field shape ∙ signed_at-at (header n v) n.offset (axis_bytes n.axes ++ behind) 5 refl f.offset_fits
    where
      shape : record_then n v behind ≡ header n v ++ (signed_bytes n.offset ++ (axis_bytes n.axes ++ behind))
      shape = simp append_assoc

  axis-fields : FieldsFit n → axes_from (record_then n v behind) 13 (rank n) ≡ n.axes
  unfolding record_bytes
  axis-fields f =
      ap (λ (b : List ℕ). axes_from b 13 (rank n)) shape ∙ axes_from-at n.axes (header n v ++ signed_bytes n.offset) behind 13 refl f.axes_fit
    where
      shape : record_then n v behind ≡ (header n v ++ signed_bytes n.offset) ++ (axis_bytes n.axes ++ behind)
      shape = simp append_assoc

  -- the layout that the fields tell is the one written, with the buffer length that its offsets need
  pub layout-told : FieldsFit n → layout_from (record_then n v behind) ≡ with_buffer n
  unfolding layout_from with_buffer
  layout-told f = λ i. with_buffer (record { buffer = 0; offset = offset-field f i; axes = axes i })
    where
      axes : axes_from (record_then n v behind) 13 (get_or (record_then n v behind) 4 0) ≡ n.axes
      axes = ap (λ (k : ℕ). axes_from (record_then n v behind) 13 k) rank-byte ∙ axis-fields f

module _ (n : LayoutModel) (v : Verdict) (behind : List ℕ) (few : rank n ≤ 16) where
  pub length-field : length_field (record_then n v behind) ≡ record_length (rank n)
  unfolding record_bytes
  length-field =
      ap length_field (append_assoc (to_be_bytes w16 (record_length (rank n))) ((1 ∷ verdict_byte v ∷ rank n ∷ []) ++ signed_bytes n.offset ++ axis_bytes n.axes) behind)
      ∙ length_field-at (record_length (rank n)) (((1 ∷ verdict_byte v ∷ rank n ∷ []) ++ signed_bytes n.offset ++ axis_bytes n.axes) ++ behind) (omega arith)

  pub fields-right : Fields (record_then n v behind)
  fields-right =
      let r = rank-byte n v behind in
      let b = verdict-byte n v behind in
      record {
        front_there = omega (arith, whole_length n v behind);
        length_is = omega (arith, length-field, r);
        version_is = version-byte n v behind;
        verdict_from = omega (arith, b, (byte-in-range v).0);
        verdict_to = omega (arith, b, (byte-in-range v).1);
        rank_small = omega (arith, r);
        whole_there = omega (arith, r, whole_length n v behind);
      }

  -- stepping over a record gives what stands behind it
  pub rest-behind : rest_of (record_then n v behind) ≡ behind
  unfolding rest_of
  rest-behind =
      rw (
        length-field,
        le-ltb (length (record_then n v behind)) 2 (omega (arith, whole_length n v behind)),
        le-ltb (record_length (rank n)) 13 (omega arith),
        le-ltb (length (record_then n v behind)) (record_length (rank n)) (omega (arith, whole_length n v behind)),
      )
      (drop_at (record_bytes n v) behind (record_length (rank n)) (length-record_bytes n v))
