-- The sheets of two suited layouts: on both sides as many, as large, and in their buffers.
use Rattle.std.proofs.Common.{◌≡◌, refl, sym, ap, ◌∙◌, ℕ, ◌*◌, ◌<◌, List, [], ◌∷◌, ◌++◌, ℤ, arith}
use Rattle.std.proofs.lemmas.Int.{ints}
use Rattle.specification.specs.Axis.{Axis, positions, product, extents}
use Rattle.specification.specs.Layout.{LayoutModel, IsAccepted}
use Rattle.specification.specs.Readings.{cell_at, IsTooShort}
use Rattle.specification.proofs.ReadingLaws.{cell_at-below}
use Rattle.positions.specs.Positions.{IsPlacedIn}
use Rattle.copying.specs.declared.sheets.Sheets.{Sheets}
use Rattle.copying.specs.Copy.{copies}
use Rattle.copying.specs.Sheets.{axes_of, places_of, positions_of, sheet_axes, AreSheetsOf, AreAlike}
use Rattle.copying.proofs.CopiesLaws.{copies-same}
use Rattle.copying.proofs.SheetsLaws.{sheet-positions, walkable}
use Rattle.copying.proofs.FrontLaws.{positions-front}

sheet-extents : (xs ys : List Axis) → extents xs ≡ extents ys → extents (sheet_axes xs) ≡ extents (sheet_axes ys)
sheet-extents [] [] e = refl
sheet-extents [] (b ∷ ys) e = grind (arith, ints, e)
sheet-extents (a ∷ xs) [] e = grind (arith, ints, e)
sheet-extents (a ∷ []) (b ∷ []) e = grind (arith, ints, e)
sheet-extents (a ∷ []) (b ∷ d ∷ ys) e = grind (arith, ints, e)
sheet-extents (a ∷ c ∷ xs) (b ∷ []) e = grind (arith, ints, e)
sheet-extents (a ∷ c ∷ xs) (b ∷ d ∷ ys) e = e

-- the sheets of one layout
module _ {l : LayoutModel} {sheets : Sheets} (a : AreSheetsOf l sheets) where
  counted : positions (axes_of sheets.sheet ++ sheets.others.now) ≡ positions l.axes
  counted = ap positions a.axes ∙ sheet-positions l.axes

  pub long : 0 < positions l.axes → 0 < sheets.sheet.run.extent
  unfolding product
  long h =
      let w : 0 < sheets.sheet.run.extent * (sheets.sheet.rows.extent * positions sheets.others.now) = rw counted h in
      grind (arith, ints, w)

  pub placed : (size : ℕ) → IsAccepted l → ¬ (IsTooShort l size) → IsPlacedIn sheets.start (axes_of sheets.sheet ++ sheets.others.now) size
  placed size b f k h =
      let i : k < positions l.axes = rw counted at h in
      rw (a.places k i) (cell_at-below l b size f k i)

-- the sheets of two layouts with the same extents
module _ {s d : LayoutModel} {sheets into : Sheets} (a : AreSheetsOf s sheets) (b : AreSheetsOf d into) (e : extents s.axes ≡ extents d.axes) where
  same : into.sheet.run.extent ∷ into.sheet.rows.extent ∷ extents into.others.now ≡ sheets.sheet.run.extent ∷ sheets.sheet.rows.extent ∷ extents sheets.others.now
  same = ap extents b.axes ∙ sym (sheet-extents s.axes d.axes e) ∙ sym (ap extents a.axes)

  rest : {x y z w : ℕ} {xs ys : List ℕ} → x ∷ z ∷ xs ≡ y ∷ w ∷ ys → xs ≡ ys
  rest p = grind (arith, ints, p)

  pub are-alike : IsAccepted s → IsAccepted d → 0 < positions s.axes → 0 < positions d.axes → AreAlike sheets into
  are-alike f g h k = record {
    long = long a h;
    walkable = walkable s f h a.axes;
    into_walkable = walkable d g k b.axes;
    alike = grind (arith, ints, same);
    others_alike = rest same;
  }

  -- the copies of the sheets are those of the positions
  pub sheets-copied : (from to : List ℤ) → copies (places_of sheets) (places_of into) from (positions_of sheets) to
      ≡ copies (cell_at s) (cell_at d) from (positions d.axes) to
  sheets-copied from to =
      let n : positions s.axes ≡ positions d.axes = ap product e in
      rw (← positions-front (axes_of sheets.sheet) sheets.others.now, counted a, n)
      (copies-same (places_of sheets) (cell_at s) (places_of into) (cell_at d) from (positions d.axes) to (λ i h. a.places i (rw n h)) b.places)
