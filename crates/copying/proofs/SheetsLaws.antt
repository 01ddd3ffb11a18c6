-- The sheets of an accepted layout: each position has the place that it has in the layout.
use Rattle.std.proofs.Common.{◌≡◌, refl, ap, ◌∙◌, ℕ, ◌+◌, ◌*◌, ◌/◌, ◌%◌, ◌<◌, ◌≤◌, List, [], ◌∷◌, ◌++◌, length, All, arith}
use Rattle.std.proofs.lemmas.Int.{ints}
use Rattle.specification.specs.Axis.{Axis, positions, product}
use Rattle.specification.specs.Layout.{LayoutModel, IsAccepted}
use Rattle.positions.specs.Positions.{place_at, words_at, word_of, StrideFits, IsWalkable}
use Rattle.positions.proofs.PlaceLaws.{place_of_layout, start_is}
use Rattle.copying.specs.declared.sheets.Sheet.{Sheet}
use Rattle.copying.specs.declared.sheets.Sheets.{Sheets}
use Rattle.copying.specs.Sheets.{axes_of, all_axes, sheet_axes, AreSheetsOf}

-- as sheets, axes have as many positions, and each has the same place
pub sheet-positions : (axes : List Axis) → positions (sheet_axes axes) ≡ positions axes
unfolding product
sheet-positions [] = omega arith
sheet-positions (a ∷ []) = omega arith
sheet-positions (a ∷ b ∷ rest) = refl

still : (k : ℕ) → k % 1 * 0 + 0 ≡ 0
still k = omega arith

sheet-places : (start : ℕ) (axes : List Axis) (k : ℕ) → place_at start (sheet_axes axes) k ≡ place_at start axes k
unfolding place_at words_at
sheet-places start [] k = rw (still (k / 1), still k) refl
sheet-places start (a ∷ []) k = rw (still (k / a.extent)) refl
sheet-places start (a ∷ b ∷ rest) k = refl

-- the others of at most 16 axes are fewer
few-others : (axes : List Axis) {a b : Axis} {others : List Axis} → length axes ≤ 16 → a ∷ b ∷ others ≡ sheet_axes axes → length others ≤ 16
few-others [] h e = omega (arith, ap length e)
few-others (a ∷ []) h e = omega (arith, ap length e)
few-others (a ∷ b ∷ rest) h e = omega (arith, h, ap length e)

module _ (l : LayoutModel) (a : IsAccepted l) (some : 0 < positions l.axes) where
  pub walkable : {sheet : Sheet} {others : List Axis} → axes_of sheet ++ others ≡ sheet_axes l.axes → IsWalkable others
  unfolding product
  walkable {sheet} {others} e =
      let h : 0 < sheet.run.extent * (sheet.rows.extent * positions others) = rw (ap positions e ∙ sheet-positions l.axes) some in
      record { few = few-others l.axes a.few e; some = grind (arith, ints, h) }

  pub sheets_are : (sheets : Sheets) → All StrideFits l.axes → all_axes sheets ≡ sheet_axes l.axes → sheets.start ≡ word_of l.offset → AreSheetsOf l sheets
  sheets_are sheets f e s = record {
    axes = e;
    places = λ k h. rw (s, start_is l a some, e) (sheet-places _ l.axes k ∙ place_of_layout l a k f h);
  }
