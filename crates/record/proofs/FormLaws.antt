-- Laws of the parts of the reader's test for a normal form: the empty form, merged axes, and both ends in range.
use Rattle.std.specs.Prelude.{if◌then◌else◌, None, Some}
use mathlib.Core.Path.{◌≡◌, refl}
use mathlib.Core.Bool.{Bool, true, false, not, ◌&&◌}
use mathlib.Core.List.{List, [], ◌∷◌}
use native.Mathlib.Omega.{arith}
use lib.Dec.{ltb}
use lib.IntN.{ℤ}
use Rattle.std.proofs.lemmas.Int.{ints}
use Rattle.specification.specs.Axis.{Axis, is_empty}
use Rattle.specification.specs.Normal.{continues, overfull}
use Rattle.specification.specs.Record.{is_merged, is_empty_form, is_normal_form, with_buffer}
use Rattle.record.specs.Reader.{fields_told, length_to_highest, needed_length}

-- no extent of merged axes is 0
merged-full : (axes : List Axis) → is_merged axes ≡ true → is_empty axes ≡ false
unfolding is_merged is_empty
merged-full [] e = refl
merged-full (a ∷ []) e = grind (arith, ints)
merged-full (a ∷ b ∷ rest) e = by (continues a b) (merged-full (b ∷ rest)) e
  where
    by : (t : Bool) → (is_merged (b ∷ rest) ≡ true → is_empty (b ∷ rest) ≡ false) → (ltb 1 a.extent && not t && is_merged (b ∷ rest)) ≡ true → is_empty (a ∷ b ∷ rest) ≡ false
    by true full e = grind (arith, ints)
    by false full e = grind (arith, ints)

-- ---- the empty form

-- it is empty
empty-form-empty : (offset : ℤ) (axes : List Axis) → is_empty_form (fields_told offset axes) ≡ true → is_empty axes ≡ true
unfolding is_empty
empty-form-empty offset [] e = grind (arith, ints)
empty-form-empty offset (a ∷ rest) e = grind (arith, ints)

-- ---- the test by its parts, and the buffer length that it gives

pub needed_by_parts : (offset : ℤ) (axes : List Axis)
    → needed_length (fields_told offset axes) ≡ (if is_empty_form (fields_told offset axes) then Some 0 else if is_merged axes && not (overfull axes) then length_to_highest (fields_told offset axes) else None)
unfolding is_normal_form with_buffer
needed_by_parts offset axes = grind (arith, ints, merged-full axes, empty-form-empty offset axes)
