-- Std's words for numbers in bytes and for two's complement, digit by digit.
use Rattle.std.specs.Prelude.{if◌then◌else◌}
use mathlib.Core.Bool.{Bool, true, false}
use mathlib.Core.List.{List, [], ◌∷◌, ◌++◌}
use mathlib.Core.Path.{◌≡◌, refl, sym, ap, ap₂, ◌∙◌}
use Prim.Native.Nat.{ℕ, zero, suc, ◌+◌, ◌-◌, ◌*◌, ◌^◌, ◌<◌}
use native.Mathlib.Nat.{div-one}
use native.Mathlib.Omega.{arith}
use lib.Dec.{ltb}
use lib.IntN.{ℤ, pos, negsuc}
use lib.ListN.{get_or, take, drop}
use lib.Seq.{get_or-take, get_or-drop}
use mir.Syntax.{w16, w64}
use mir.Val.{sel}
use Rattle.std.specs.Int.{to_be_bytes, cast_unsigned, cast_signed}
use Rattle.specification.specs.Axis.{Axis}
use Rattle.specification.specs.Layout.{LayoutModel, rank}
use Rattle.specification.specs.Views.{axis_at}
use Rattle.specification.specs.Verdict.{Verdict}
use Rattle.specification.specs.Record.{verdict_byte, record_length, signed_bytes, axis_bytes, record_bytes, length_field, number_at, signed_at, axes_from, with_buffer, layout_from}
use Rattle.specification.specs.ByteClaims.{big_endian, number_from, twos, signed_of, axes_by_digits, axis_by_digits, ByteClaims}
use Rattle.specification.proofs.ReaderLaws.{rank-told}

abbrev join : List ℕ → List ℕ → List ℕ
join x y = x ++ y

-- ---- the words

in_two_bytes : (x : ℕ) → to_be_bytes w16 x ≡ big_endian 2 x
unfolding big_endian
in_two_bytes x = rw (div-one x)

in_eight_bytes : (x : ℕ) → to_be_bytes w64 x ≡ big_endian 8 x
unfolding big_endian
in_eight_bytes x = rw (div-one x)

two_bytes_hold : (bytes : List ℕ) → length_field bytes ≡ number_from bytes 0 2
unfolding length_field number_from
two_bytes_hold bytes = omega (arith, get_or-take 2 bytes 0 0 (omega arith), get_or-take 2 bytes 1 0 (omega arith))

eight_bytes_hold : (bytes : List ℕ) (i : ℕ) → number_at bytes i ≡ number_from bytes i 8
unfolding number_at number_from
eight_bytes_hold bytes i =
    let at : (k j : ℕ) → k < 8 → j ≡ i + k → get_or (take 8 (drop i bytes)) k 0 ≡ get_or bytes j 0 =
    λ k j h p. get_or-take 8 (drop i bytes) k 0 h ∙ get_or-drop i bytes k 0 ∙ ap (λ (m : ℕ). get_or bytes m 0) (sym p) in
    omega (
      arith,
      at 0 i (omega arith) (omega arith),
      at 1 (suc i) (omega arith) (omega arith),
      at 2 (suc (suc i)) (omega arith) (omega arith),
      at 3 (suc (suc (suc i))) (omega arith) (omega arith),
      at 4 (suc (suc (suc (suc i)))) (omega arith) (omega arith),
      at 5 (suc (suc (suc (suc (suc i))))) (omega arith) (omega arith),
      at 6 (suc (suc (suc (suc (suc (suc i)))))) (omega arith) (omega arith),
      at 7 (suc (suc (suc (suc (suc (suc (suc i))))))) (omega arith) (omega arith),
    )

complement_is : (z : ℤ) → cast_unsigned w64 z ≡ twos z
complement_is (pos n) = refl
complement_is (negsuc n) = refl

signed_is : (n : ℕ) → cast_signed w64 n ≡ signed_of n
signed_is n = by (ltb n (2 ^ 63))
  where
    by : (t : Bool) → sel t (pos n) (negsuc (2 ^ 64 - suc n)) ≡ if t then pos n else negsuc (2 ^ 64 - suc n)
    by true = refl
    by false = refl

-- ---- the record

signed_digits : (z : ℤ) → signed_bytes z ≡ big_endian 8 (twos z)
signed_digits z = in_eight_bytes (cast_unsigned w64 z) ∙ ap (big_endian 8) (complement_is z)

axes_digits : (axes : List Axis) → axis_bytes axes ≡ axes_by_digits axes
unfolding axis_bytes axes_by_digits big_endian
axes_digits [] = refl
axes_digits (a ∷ rest) = ap₂ join (in_eight_bytes a.extent) (ap₂ join (signed_digits a.stride) (axes_digits rest))

record_is : (l : LayoutModel) (v : Verdict)
    → record_bytes l v ≡ big_endian 2 (13 + 16 * rank l) ++ (1 ∷ verdict_byte v ∷ rank l ∷ []) ++ big_endian 8 (twos l.offset) ++ axes_by_digits l.axes
unfolding record_bytes big_endian
record_is l v =
    ap₂ join (in_two_bytes (record_length (rank l))) (ap (join (1 ∷ verdict_byte v ∷ rank l ∷ [])) (ap₂ join (signed_digits l.offset) (axes_digits l.axes)))

signed_digits_at : (bytes : List ℕ) (i : ℕ) → signed_at bytes i ≡ signed_of (number_from bytes i 8)
signed_digits_at bytes i = ap (cast_signed w64) (eight_bytes_hold bytes i) ∙ signed_is (number_from bytes i 8)

axis_from : (bytes : List ℕ) (at n i k : ℕ) → i < n → k ≡ at + 16 * i → axis_at (axes_from bytes at n) i ≡ axis_by_digits bytes k
unfolding axes_from
axis_from bytes at zero i k h e = absurd (omega arith)
axis_from bytes at (suc n) zero k h e =
    let z : at ≡ k = omega arith in
    rw z (λ j. record { extent = eight_bytes_hold bytes k j; stride = signed_digits_at bytes (k + 8) j })
axis_from bytes at (suc n) (suc i) k h e = axis_from bytes (at + 16) n i k (omega arith) (omega arith)

axis_is : (bytes : List ℕ) (i : ℕ) → i < get_or bytes 4 0 → axis_at (layout_from bytes).axes i ≡ axis_by_digits bytes (13 + 16 * i)
unfolding layout_from with_buffer
axis_is bytes i h = axis_from bytes 13 (get_or bytes 4 0) i (13 + 16 * i) h refl

offset_is : (bytes : List ℕ) → (layout_from bytes).offset ≡ signed_of (number_from bytes 5 8)
unfolding layout_from with_buffer
offset_is bytes = signed_digits_at bytes 5

pub byte_claims : ByteClaims
byte_claims = record { record_is = record_is; length_is = two_bytes_hold; offset_is = offset_is; rank_is = rank-told; axis_is = axis_is }
