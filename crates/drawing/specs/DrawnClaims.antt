-- Claims on a picture: which cells it has and in which order, on which line a position stands, how many lines there are, and when a layout is drawn.
use Rattle.std.specs.Prelude.{ℕ, suc, ◌<◌, ◌≤◌, ℤ, pos, ◌<ℤ◌, List, ◌↔◌, ◌≡◌, length, slice_index, slice_index_or}
use Rattle.std.specs.List.{Contains}
use Rattle.integer.specs.Range.{most_unsigned}
use Rattle.specification.specs.Axis.{positions, SharesOffset}
use Rattle.specification.specs.Outcome.{done, refused}
use Rattle.specification.specs.Layout.{LayoutModel, offset_at, IsAccepted}
use Rattle.specification.specs.CheckInClaims.{NormalRefused}
use Rattle.view.specs.AnswerClaims.{SomeAt}
use Rattle.drawing.specs.Drawn.{offsets, cells_of, positions_at, picture_text, picture, too_many, drawn}

-- the cells of a layout
abbrev pub cells : LayoutModel → List ℤ
cells l = cells_of (offsets l)

-- the positions on the line of a cell
abbrev pub line : LayoutModel → ℤ → List ℕ
line l cell = positions_at (offsets l) cell

-- at most 2^64 - 1 positions
abbrev pub IsCounted : LayoutModel → Type 0
IsCounted l = positions l.axes ≤ most_unsigned

pub record PictureClaims : Type 0 where
  -- the cells are the offsets of positions, each once, in increasing order
  pub reached : (l : LayoutModel) (z : ℤ) → Contains (cells l) z ↔ SomeAt l z
  pub increasing : (l : LayoutModel) (i : ℕ) → suc i < length (cells l) → slice_index_or (cells l) i (pos 0) <ℤ slice_index_or (cells l) (suc i) (pos 0)
  -- a position stands on the line of its cell and on no other; the positions of a line are in their order
  pub on_line : (l : LayoutModel) (cell : ℤ) (k : ℕ) → Contains (line l cell) k ↔ (k < positions l.axes) × (offset_at l k ≡ cell)
  pub in_order : (l : LayoutModel) (cell : ℤ) (i : ℕ) → suc i < length (line l cell) → slice_index (line l cell) i < slice_index (line l cell) (suc i)
  -- there are as many lines as positions exactly if no two positions share an offset
  pub one_each : (l : LayoutModel) → (length (cells l) ≡ positions l.axes) ↔ ¬ (SharesOffset l.axes)

pub record DrawnClaims : Type 0 where
  -- it is refused as the normal form is
  pub refuses : (l : LayoutModel) (number : ℕ) (values : List ℕ) → (drawn l ≡ refused number values) ↔ NormalRefused l number values
  -- and drawn exactly if it is accepted and has at most 200 positions
  pub draws : (l : LayoutModel) → (drawn l ≡ done (picture (picture_text l))) ↔ IsAccepted l × (positions l.axes ≤ 200)
  pub tells : (l : LayoutModel) (count : ℕ) → (drawn l ≡ done (too_many count)) ↔ IsAccepted l × IsCounted l × (200 < positions l.axes) × (positions l.axes ≡ count)
