-- Laws of what front bytes tell: the layout, with the buffer length that it needs.
use mathlib.Core.Path.{◌≡◌, refl}
use mathlib.Core.List.{List}
use Prim.Native.Nat.{ℕ}
use lib.Seq.{length-take-le}
use Rattle.specification.specs.Layout.{LayoutModel}
use Rattle.specification.specs.Record.{rank_field, offset_field, head_length, axes_from, is_normal_form, with_buffer, layout_from}
use Rattle.specification.proofs.ReaderLaws.{fields_tested}
use Rattle.view.specs.Model.{model_from}
use Rattle.record.specs.Reader.{fields_told}

-- the layout that the fields tell, before it has a buffer length
abbrev told : List ℕ → LayoutModel
told bytes = fields_told (offset_field bytes) (axes_from bytes head_length (rank_field bytes))

-- its buffer length is no part of the test for a normal form
pub normal_told : (bytes : List ℕ) → is_normal_form (layout_from bytes) ≡ is_normal_form (told bytes)
unfolding is_normal_form layout_from with_buffer
normal_told bytes = refl

-- all but its buffer length is as it is told
pub layout_filled : (bytes : List ℕ) → layout_from bytes ≡ model_from (with_buffer (told bytes)).buffer (told bytes).offset (told bytes).axes
unfolding layout_from with_buffer
layout_filled bytes = refl

-- what the fields tell, with the buffer length that it needs
pub ruleset fronts = (fields_tested, normal_told, layout_filled, length-take-le)
