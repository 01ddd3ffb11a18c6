-- What `draw` shows of a layout, byte by byte: each cell that it reaches, and the positions that share it (docs/COMMANDS.md, "draw").
-- RULES, "What a layout is". Assumes nothing.
use Rattle.std.specs.Prelude.{ℕ, ℤ, pos, int_lt, List, [], ◌∷◌, ◌++◌, codes, length, map, filter, nat_lt, slice_index_or, if◌then◌else◌}
use Rattle.std.specs.List.{flat_map, range_with_len}
use Rattle.std.specs.Ordering.{int_eq}
use Rattle.std.specs.Fmt.{decimal, signed_decimal}
use Rattle.specification.specs.Axis.{Axis, extents, positions, index_at}
use Rattle.specification.specs.Outcome.{Outcome, done, ◌>>◌, ◌>>=◌}
use Rattle.specification.specs.Layout.{LayoutModel, offset_at, handed}
use Rattle.view.specs.Count.{element_count}
use Rattle.view.specs.Printed.{list_text}

-- ---- the cells

-- the offset of each position, in the order of positions
abbrev pub offsets : LayoutModel → List ℤ
offsets l = map (offset_at l) (range_with_len 0 (positions l.axes))

-- a cell at its place among increasing ones, unless it stands there already
unfoldable pub insert_cell : ℤ → List ℤ → List ℤ
insert_cell z [] = z ∷ []
insert_cell z (cell ∷ cells) =
    if int_lt z cell then z ∷ cell ∷ cells
    else (if int_eq z cell then cell ∷ cells else cell ∷ insert_cell z cells)

-- the different offsets, in increasing order
unfoldable pub cells_of : List ℤ → List ℤ
cells_of [] = []
cells_of (z ∷ rest) = insert_cell z (cells_of rest)

-- the positions of a cell, in their order; the list has the offset of each position
abbrev pub positions_at : List ℤ → ℤ → List ℕ
positions_at list cell = filter (λ k. int_eq (slice_index_or list k (pos 0)) cell) (range_with_len 0 (length list))

-- ---- the text

-- the index vector of a position, after a space (32)
abbrev pub spaced_index : List Axis → ℕ → List ℕ
spaced_index axes k = 32 ∷ list_text decimal (index_at (extents axes) k)

-- a cell and its positions
unfoldable pub row_text : List Axis → List ℤ → ℤ → List ℕ
row_text axes list cell = signed_decimal cell ++ codes ":" ++ flat_map (spaced_index axes) (positions_at list cell)

-- how many cells there are, and a line (10) for each
unfoldable pub picture_text : LayoutModel → List ℕ
picture_text l =
    codes "cells " ++ decimal (length (cells_of (offsets l)))
    ++ flat_map (λ cell. 10 ∷ row_text l.axes (offsets l) cell) (cells_of (offsets l))

-- ---- the call

-- a picture, or how many positions there are if they are too many to draw
pub data Picture : Type 0 where
  picture : List ℕ → Picture
  too_many : ℕ → Picture

-- 1 or 3 as every call on a layout refuses it, then 8; a picture has at most 200 positions
unfoldable pub drawn : LayoutModel → Outcome Picture
drawn l = do
  handed l 0
  count ← element_count (extents l.axes)
  done (if nat_lt 200 count then too_many count else picture (picture_text l))
