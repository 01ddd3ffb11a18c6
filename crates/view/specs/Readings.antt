-- The reach of two layouts, and of a layout beside its buffer, as the code answers them.
use Rattle.std.specs.Prelude.{Bool, false, ℕ, nat_le, if◌then◌else◌}
use Rattle.integer.specs.Parts.{positive_part}
use Rattle.specification.specs.Axis.{is_empty}
use Rattle.specification.specs.Layout.{LayoutModel, lowest, highest}
use Rattle.specification.specs.Outcome.{Outcome, done, ◌>>◌}
use Rattle.specification.specs.Readings.{handed_both}
use Rattle.view.specs.Reach.{Ends, none, ends, ends_of}
use Rattle.view.specs.declared.bounds.Reach.{Reach}

-- what two answers say
abbrev pub both_ends : Reach × Reach → Ends × Ends
both_ends both = (ends_of both.0, ends_of both.1)

-- the two ends of a layout, if it has a position
abbrev pub layout_ends : LayoutModel → Ends
layout_ends l = if is_empty l.axes then none else ends (lowest l) (highest l)

-- 1 or 3 if either layout is not accepted, as every call on two layouts refuses it; else the ends of both
unfoldable pub reach_of_both : LayoutModel → LayoutModel → Outcome (Ends × Ends)
reach_of_both x y = handed_both x y >> done (layout_ends x, layout_ends y)

-- the highest offset is not below so many readings
abbrev pub is_past : Ends → ℕ → Bool
is_past none readings = false
is_past (ends lowest highest) readings = nat_le readings (positive_part highest)
