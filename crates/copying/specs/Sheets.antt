-- Where the positions of a layout stand in a list of readings, sheet by sheet.
use Rattle.std.specs.Prelude.{List, [], ◌∷◌, ◌++◌, ◌≡◌, ℕ, ◌*◌, ◌<◌, pos}
use Rattle.specification.specs.Axis.{Axis, extents, positions}
use Rattle.specification.specs.Layout.{LayoutModel}
use Rattle.specification.specs.Readings.{cell_at}
use Rattle.positions.specs.Positions.{place_at, IsWalkable}
use Rattle.copying.specs.declared.sheets.Sheet.{Sheet}
use Rattle.copying.specs.declared.sheets.Sheets.{Sheets}

-- the two axes of a sheet
abbrev pub axes_of : Sheet → List Axis
axes_of sheet = sheet.run ∷ sheet.rows ∷ []

-- all axes
abbrev pub all_axes : Sheets → List Axis
all_axes sheets = axes_of sheets.sheet ++ sheets.others.now

-- the place of each position
abbrev pub places_of : Sheets → ℕ → ℕ
places_of sheets = place_at sheets.start (all_axes sheets)

-- how many positions there are
abbrev pub positions_of : Sheets → ℕ
positions_of sheets = positions (axes_of sheets.sheet) * positions sheets.others.now

-- an axis with one index
abbrev pub one : Axis
one = record { extent = 1; stride = pos 0 }

-- the axes of a layout as sheets: of fewer than two axes, those that are missing have one index
abbrev pub sheet_axes : List Axis → List Axis
sheet_axes [] = one ∷ one ∷ []
sheet_axes (a ∷ []) = a ∷ one ∷ []
sheet_axes (a ∷ b ∷ rest) = a ∷ b ∷ rest

-- sheets each of whose positions has the place that it has in a layout
pub record AreSheetsOf (l : LayoutModel) (sheets : Sheets) : Type 0 where
  pub axes : all_axes sheets ≡ sheet_axes l.axes
  pub places : (k : ℕ) → k < positions l.axes → places_of sheets k ≡ cell_at l k

-- sheets that can be copied into others: both have the same extents, and none of these is 0
pub record AreAlike (source destination : Sheets) : Type 0 where
  pub long : 0 < source.sheet.run.extent
  pub walkable : IsWalkable source.others.now
  pub into_walkable : IsWalkable destination.others.now
  pub alike : extents (axes_of destination.sheet) ≡ extents (axes_of source.sheet)
  pub others_alike : extents destination.others.now ≡ extents source.others.now
