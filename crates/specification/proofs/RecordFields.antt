-- The fields of a record, byte by byte: how long they are, that what was written is read, and that what was read is written again.
use Rattle.std.specs.List.{AllByRecursion}
use mathlib.Core.Path.{◌≡◌, refl, sym, ap, ap₂, ◌∙◌}
use mathlib.Core.List.{List, [], ◌∷◌, ◌++◌, append_assoc}
use Prim.Native.Nat.{ℕ, zero, suc, ◌+◌, ◌*◌, ◌^◌, ◌<◌, ◌≤◌}
use native.Mathlib.Omega.{arith}
use lib.IntN.{ℤ}
use lib.ListN.{length, take, drop, length-append, length-drop}
use lib.Seq.{get_or-drop, take_at, drop_at, take-add, drop-drop, length-take-le}
use mir.Syntax.{w64}
use mir.Val.{SFits}
use mir.ValLaws.{to_z-of_z}
use Rattle.std.specs.Int.{w16, to_be_bytes, from_be_bytes, cast_unsigned, cast_signed}
use Rattle.std.proofs.lemmas.Int.{ints, of_z-to_z}
use Rattle.std.proofs.lemmas.Nat.{be_bytes_2, be_bytes_8, from_be_bytes-to_be_bytes_2, from_be_bytes-to_be_bytes_8}
use Rattle.specification.specs.Axis.{Axis}
use Rattle.specification.specs.Layout.{LayoutModel, rank, AxisRanges}
use Rattle.specification.specs.Verdict.{Verdict}
use Rattle.specification.specs.Record.{signed_bytes, record_length, axis_bytes, record_bytes, length_field, number_at, signed_at, axes_from}
use Rattle.specification.specs.RecordClaims.{Bytes}

-- ---- lengths

pub length-axis_bytes : (axes : List Axis) → length (axis_bytes axes) ≡ 16 * length axes
unfolding axis_bytes
length-axis_bytes [] = refl
length-axis_bytes (a ∷ rest) = omega (arith, length-axis_bytes rest)

pub length-record_bytes : (l : LayoutModel) (v : Verdict) → length (record_bytes l v) ≡ record_length (rank l)
unfolding record_bytes
length-record_bytes l v = omega (arith, length-axis_bytes l.axes)

-- ---- what was written is read

-- what stands at the place where the bytes in front end
part-at : (front part rest : List ℕ) (i n : ℕ) → length front ≡ i → length part ≡ n → take n (drop i (front ++ (part ++ rest))) ≡ part
part-at front part rest i n e k = rw (drop_at front (part ++ rest) i e) (take_at part rest n k)

pub length_field-at : (n : ℕ) (rest : List ℕ) → n < 2 ^ 16 → length_field (to_be_bytes w16 n ++ rest) ≡ n
unfolding length_field
length_field-at n rest h = ap (from_be_bytes w16) (take_at (to_be_bytes w16 n) rest 2 refl) ∙ from_be_bytes-to_be_bytes_2 n h

number_at-at : (front : List ℕ) (x : ℕ) (rest : List ℕ) (i : ℕ) → length front ≡ i → x < 2 ^ 64 → number_at (front ++ (to_be_bytes w64 x ++ rest)) i ≡ x
unfolding number_at
number_at-at front x rest i e h = ap (from_be_bytes w64) (part-at front (to_be_bytes w64 x) rest i 8 e refl) ∙ from_be_bytes-to_be_bytes_8 x h

bits-below : (z : ℤ) → SFits w64 z → cast_unsigned w64 z < 2 ^ 64
bits-below z f = grind (arith, ints)

pub signed_at-at : (front : List ℕ) (z : ℤ) (rest : List ℕ) (i : ℕ) → length front ≡ i → SFits w64 z → signed_at (front ++ (signed_bytes z ++ rest)) i ≡ z
signed_at-at front z rest i e f = ap (cast_signed w64) (number_at-at front (cast_unsigned w64 z) rest i e (bits-below z f)) ∙ to_z-of_z w64 z f

pub axes_from-at : (axes : List Axis) (front rest : List ℕ) (i : ℕ) → length front ≡ i → AllByRecursion AxisRanges axes → axes_from (front ++ (axis_bytes axes ++ rest)) i (length axes) ≡ axes
unfolding axes_from axis_bytes
axes_from-at [] front rest i e f = refl
axes_from-at (a ∷ axes) front rest i e f =
    ap₂ (λ (x : Axis) (y : List Axis). x ∷ y) (λ k. record { extent = extent-at k; stride = stride-at k })
    (ap (λ (b : List ℕ). axes_from b (i + 16) (length axes)) (sym (append_assoc front (to_be_bytes w64 a.extent ++ signed_bytes a.stride) (axis_bytes axes ++ rest)))
    ∙ axes_from-at axes (front ++ (to_be_bytes w64 a.extent ++ signed_bytes a.stride)) rest (i + 16) (length-append front _ ∙ omega arith) f.1)
  where
    extent-at : number_at (front ++ (to_be_bytes w64 a.extent ++ (signed_bytes a.stride ++ (axis_bytes axes ++ rest)))) i ≡ a.extent
    extent-at = number_at-at front a.extent (signed_bytes a.stride ++ (axis_bytes axes ++ rest)) i e f.0.extent_fits

    stride-at : signed_at (front ++ (to_be_bytes w64 a.extent ++ (signed_bytes a.stride ++ (axis_bytes axes ++ rest)))) (i + 8) ≡ a.stride
    stride-at =
        ap (λ (b : List ℕ). signed_at b (i + 8)) (sym (append_assoc front (to_be_bytes w64 a.extent) (signed_bytes a.stride ++ (axis_bytes axes ++ rest))))
        ∙ signed_at-at (front ++ to_be_bytes w64 a.extent) a.stride (axis_bytes axes ++ rest) (i + 8) (length-append front _ ∙ omega arith) f.0.stride_fits

-- ---- what was read is written again

bytes-drop : (i : ℕ) (bytes : List ℕ) → Bytes bytes → Bytes (drop i bytes)
bytes-drop i bytes b k = rw (get_or-drop i bytes k 0) (b (i + k))

bytes-take : (n : ℕ) (bytes : List ℕ) → Bytes bytes → Bytes (take n bytes)
bytes-take zero bytes b i = omega arith
bytes-take (suc n) [] b i = omega arith
bytes-take (suc n) (a ∷ bytes) b zero = b 0
bytes-take (suc n) (a ∷ bytes) b (suc i) = bytes-take n bytes (λ k. b (suc k)) i

pub bytes-length_field : (bytes : List ℕ) → Bytes bytes → 2 ≤ length bytes → to_be_bytes w16 (length_field bytes) ≡ take 2 bytes
unfolding length_field
bytes-length_field bytes b h = be_bytes_2 (take 2 bytes) _ (length-take-le 2 bytes h) (bytes-take 2 bytes b) refl

bytes-number_at : (bytes : List ℕ) (i : ℕ) → Bytes bytes → i + 8 ≤ length bytes → to_be_bytes w64 (number_at bytes i) ≡ take 8 (drop i bytes)
unfolding number_at
bytes-number_at bytes i b h =
    be_bytes_8 (take 8 (drop i bytes)) _ (length-take-le 8 (drop i bytes) (omega (arith, length-drop i bytes))) (bytes-take 8 (drop i bytes) (bytes-drop i bytes b)) refl

number_at-below : (bytes : List ℕ) (i : ℕ) → Bytes bytes → number_at bytes i < 2 ^ 64
unfolding number_at
number_at-below bytes i b =
    let s = bytes-take 8 (drop i bytes) (bytes-drop i bytes b) in
    omega (arith, s 0, s 1, s 2, s 3, s 4, s 5, s 6, s 7)

pub bytes-signed_at : (bytes : List ℕ) (i : ℕ) → Bytes bytes → i + 8 ≤ length bytes → signed_bytes (signed_at bytes i) ≡ take 8 (drop i bytes)
bytes-signed_at bytes i b h = ap (to_be_bytes w64) (of_z-to_z w64 (number_at bytes i) (number_at-below bytes i b)) ∙ bytes-number_at bytes i b h

-- a part and the next one
pub join-parts : (bytes : List ℕ) (i m n : ℕ) → take m (drop i bytes) ++ take n (drop (i + m) bytes) ≡ take (m + n) (drop i bytes)
join-parts bytes i m n = sym (take-add m n (drop i bytes) ∙ ap (λ (l : List ℕ). take m (drop i bytes) ++ take n l) (drop-drop m i bytes))

pub bytes-axes_from : (bytes : List ℕ) (i n : ℕ) → Bytes bytes → i + 16 * n ≤ length bytes → axis_bytes (axes_from bytes i n) ≡ take (16 * n) (drop i bytes)
unfolding axes_from axis_bytes
bytes-axes_from bytes i zero b h = refl
bytes-axes_from bytes i (suc n) b h =
    ap₂ (λ (x y : List ℕ). x ++ y)
    (ap₂ (λ (x y : List ℕ). x ++ y) (bytes-number_at bytes i b (omega arith)) (bytes-signed_at bytes (i + 8) b (omega arith)) ∙ join-parts bytes i 8 8)
    (bytes-axes_from bytes (i + 16) n b (omega arith))
    ∙ join-parts bytes i 16 (16 * n) ∙ ap (λ (k : ℕ). take k (drop i bytes)) (one_more n)
  where
    one_more : (n : ℕ) → 16 + 16 * n ≡ 16 * suc n
    one_more n = omega arith
