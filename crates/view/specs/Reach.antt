-- How far the offsets of a layout reach, as the code answers it.
use Rattle.std.specs.Prelude.{Bool, ◌&&◌, ◌||◌, List, ℕ, ◌^◌, nat_le, ℤ, pos, if◌then◌else◌, None, Option, Some}
use Rattle.std.specs.List.{list_all}
use Rattle.std.specs.Int.Signed.{le_z, lt_z}
use Rattle.integer.specs.Range.{most_signed}
use Rattle.specification.specs.Axis.{Axis, extents, upward, downward, is_empty}
use Rattle.specification.specs.Beside.{zero_among}
use Rattle.specification.specs.Layout.{LayoutModel, lowest, highest, handed}
use Rattle.specification.specs.Outcome.{Outcome, done, ◌>>◌}
use Rattle.view.specs.Model.{model_from}
use Rattle.view.specs.declared.bounds.Candidate.{Candidate}
use Rattle.view.specs.declared.bounds.Reach.{Reach}
use Rattle.view.specs.declared.bounds.Reach.TheVariants.{Empty, Between}
use Rattle.view.specs.declared.layout.ReadingOffset.{ReadingOffset}
use Rattle.view.specs.declared.bounds.Spans.{Spans}

-- a candidate as a layout, by the axes that it has
abbrev pub candidate_model : {A : Type 0} → (A → List Axis) → Candidate A → LayoutModel
candidate_model axes_of c = model_from c.len c.offset.0 (axes_of c.axes)

-- the lowest and the highest offset, or none if there is no position
pub data Ends : Type 0 where
  none : Ends
  ends : ℤ → ℤ → Ends

-- what each answer says
abbrev pub ends_of : Reach → Ends
ends_of Empty = none
ends_of (Between lowest highest) = ends lowest.0 highest.0

-- 1 or 3 if the layout is not accepted, as every call on a layout refuses it; else the two ends
unfoldable pub reach_of : LayoutModel → Outcome Ends
reach_of l =
    handed l 0
    >> done (if is_empty l.axes then none else ends (lowest l) (highest l))

-- two sums, as the code hands them on
abbrev pub sums : ℕ → ℕ → Option Spans
sums up down = Some (record { up = up; down = down })

-- the sums of the positive and of the negative spans, if each is at most its limit
abbrev pub spans_up_to : ℕ → ℕ → List Axis → Option Spans
spans_up_to above below axes =
    if nat_le (upward axes) above && nat_le (downward axes) below then sums (upward axes) (downward axes) else None

-- the two ends are accepted: what is asked of a layout that is not empty
abbrev pub within : LayoutModel → Bool
within l = le_z (pos 0) (lowest l) && le_z (highest l) (pos most_signed) && lt_z (highest l) (pos l.buffer)

-- two offsets, as the code hands them on
abbrev pub ends_told : Option (ReadingOffset × ReadingOffset) → Option Ends
ends_told None = None
ends_told (Some both) = Some (ends both.0.0 both.1.0)

-- the two ends, if they are accepted
abbrev pub accepted_ends : LayoutModel → Option Ends
accepted_ends l = if within l then Some (ends (lowest l) (highest l)) else None

-- no extent is above 2^63
abbrev pub none_wide : List ℕ → Bool
none_wide = list_all (λ n. nat_le n (2 ^ 63))

-- wide extents pass, or no extent is wide
abbrev pub widths_pass : Bool → List Axis → Bool
widths_pass wide axes = wide || none_wide (extents axes)

-- both sums, if the widths pass
abbrev pub spans_within : Bool → ℕ → ℕ → List Axis → Option Spans
spans_within wide above below axes = if widths_pass wide axes then spans_up_to above below axes else None

-- both ends, if the widths pass
abbrev pub ends_within : Bool → LayoutModel → Option Ends
ends_within wide l = if widths_pass wide l.axes then accepted_ends l else None

-- what check-in's bounds let pass (`bounds` as one test)
abbrev pub in_bounds : LayoutModel → Bool
in_bounds l = (within l && none_wide (extents l.axes)) || zero_among (extents l.axes)
