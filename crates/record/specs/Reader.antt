-- The reader's first part (RULES, "The record: reading"): all that stands before the verdict is judged.
use Rattle.std.specs.Prelude.{Bool, ◌&&◌, List, ℕ, ◌+◌, nat_lt, ℤ, pos, length, if◌then◌else◌, None, Option, Some}
use Rattle.std.specs.Int.Signed.{le_z}
use Rattle.integer.specs.Parts.{positive_part}
use Rattle.integer.specs.Range.{most_signed}
use Rattle.specification.specs.Axis.{Axis}
use Rattle.specification.specs.Layout.{LayoutModel, lowest, highest}
use Rattle.specification.specs.Record.{length_field, verdict_field, rank_field, number_at, signed_at, fields_right, is_normal_form, with_buffer, layout_from}
use Rattle.view.specs.Model.{model_of}
use Rattle.record.specs.declared.reader.Head.{Head}
use Rattle.record.specs.declared.reader.Front.{Front}

-- ---- the fields

-- the number that the first 2 bytes hold, if there are so many
abbrev pub length_told : List ℕ → Option ℕ
length_told bytes = if nat_lt (length bytes) 2 then None else Some (length_field bytes)

-- the verdict's byte and the rank, if every field is right
abbrev pub head_told : List ℕ → Option Head
head_told bytes = if fields_right bytes then Some (record { verdict = verdict_field bytes; rank = rank_field bytes }) else None

-- the axis that 16 bytes from place i on hold
abbrev pub axis_told : List ℕ → ℕ → Axis
axis_told bytes i = record { extent = number_at bytes i; stride = signed_at bytes (i + 8) }

-- what fields tell of a layout: an offset and axes, before there is a buffer length
abbrev pub fields_told : ℤ → List Axis → LayoutModel
fields_told offset axes = record { buffer = 0; offset = offset; axes = axes }

-- ---- the test for a normal form

-- no offset is below 0 or above 2^63 - 1
abbrev pub in_range : LayoutModel → Bool
in_range l = le_z (pos 0) (lowest l) && le_z (highest l) (pos most_signed)

-- one more than the highest offset, if that is so
abbrev pub length_to_highest : LayoutModel → Option ℕ
length_to_highest l = if in_range l then Some (positive_part (highest l) + 1) else None

-- the buffer length that a normal form needs
abbrev pub needed_length : LayoutModel → Option ℕ
needed_length l = if is_normal_form l then Some (with_buffer l).buffer else None

-- ---- both

-- the layout that the fields tell and the byte of its verdict, if a whole record of a normal form stands at the front
abbrev pub front_told : List ℕ → Option (LayoutModel × ℕ)
front_told bytes = if fields_right bytes && is_normal_form (layout_from bytes) then Some (layout_from bytes, verdict_field bytes) else None

-- what a front means: its layout, and the byte claimed for it
abbrev pub front_model : Front → LayoutModel × ℕ
front_model front = (model_of front.layout, front.verdict)
