-- What a sheet is told to be, and when check-in lets it pass (RULES, "Check-in").
use Rattle.specification.specs.Layout.{LayoutModel}
use Rattle.specification.specs.CheckInClaims.{layout_of, IsCheckedIn}
use Rattle.callers.specs.declared.start.Sheet.{Sheet}

-- the layout that a sheet is told to be
abbrev pub sheet_of : Sheet → LayoutModel
sheet_of s = layout_of s.len s.offset.0 s.extents.now s.strides.now

-- check-in lets it pass
abbrev pub IsFit : Sheet → Type 0
IsFit s = IsCheckedIn s.len s.offset.0 s.extents.now s.strides.now
