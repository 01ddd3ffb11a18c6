-- The sheets of two layouts: copied by two walks side by side, or at once if there is one.
use Rattle.std.proofs.Common.{Bool, true, false, ◌≡◌, refl, sym, ap, ◌∙◌, ℕ, ◌+◌, ◌*◌, ◌<◌, List, [], ◌∷◌, length, ℤ, arith}
use Rattle.std.specs.Prelude.{if◌then◌else◌}
use Rattle.specification.specs.Axis.{Axis, positions, product, extents}
use Rattle.positions.specs.Positions.{PositionAt, place_at}
use Rattle.copying.specs.Copy.{copies}
use Rattle.copying.specs.Sheets.{axes_of, places_of, positions_of, AreAlike}
use Rattle.copying.specs.declared.sheets.Sheets.{Sheets}
use Rattle.copying.proofs.FrontLaws.{copies-front}

-- ---- two walks side by side, from the first position of the others on

-- how many sheets are copied: as many as the walk has passed, or all if there is no more
abbrev pub passed : Bool → PositionAt → List Axis → ℕ
passed more at rest = if more then at.number else positions rest

module _ (source destination : Sheets) (from before : List ℤ) where
  abbrev pub size : ℕ
  size = positions (axes_of source.sheet)

  -- the first n positions are copied
  abbrev pub copied_of : ℕ → List ℤ
  copied_of n = copies (places_of source) (places_of destination) from n before

  -- the sheets that the walks have passed are copied; both stand at the same one
  pub record Swept (at into : PositionAt) (more : Bool) (after : List ℤ) : Type 0 where
    pub axes : at.axes ≡ source.others.now
    pub start : at.start ≡ source.start
    pub into_axes : into.axes ≡ destination.others.now
    pub into_start : into.start ≡ destination.start
    pub within : at.number < positions source.others.now
    pub alike : more ≡ true → into.number ≡ at.number
    pub copied : after ≡ copied_of (size * passed more at source.others.now)

  pub swept-none : 0 < positions source.others.now
      → Swept (record { axes = source.others.now; start = source.start; number = 0 }) (record { axes = destination.others.now; start = destination.start; number = 0 }) true before
  unfolding copies
  swept-none h =
      let n : size * 0 ≡ 0 = omega arith in
      record { axes = refl; start = refl; into_axes = refl; into_start = refl; within = h; alike = λ e. refl; copied = rw n refl }

  -- a sheet is copied from the places of a position of the others
  abbrev pub sheet_copied : ℕ → List ℤ → List ℤ
  sheet_copied r = copies (place_at (place_at source.start source.others.now r) (axes_of source.sheet)) (place_at (place_at destination.start destination.others.now r) (axes_of destination.sheet)) from size

  -- both walks have gone on to the next sheet
  pub swept-on : {at into at' into' : PositionAt} {more other : Bool} {after after' : List ℤ} → Swept at into true after → AreAlike source destination
      → after' ≡ sheet_copied at.number after
      → at'.axes ≡ at.axes → at'.start ≡ at.start → at'.number < positions at'.axes → (more ≡ true → at'.number ≡ at.number + 1) → (more ≡ false → at.number + 1 ≡ positions at.axes)
      → into'.axes ≡ into.axes → into'.start ≡ into.start → (other ≡ true → into'.number ≡ into.number + 1) → (other ≡ false → into.number + 1 ≡ positions into.axes)
      → Swept at' into' more after'
  swept-on {at} {into} {at'} {into'} {more} {other} w e c a s l on last ia is ion ilast = record {
    axes = a ∙ w.axes;
    start = s ∙ w.start;
    into_axes = ia ∙ w.into_axes;
    into_start = is ∙ w.into_start;
    within = omega (arith, l, ap positions (a ∙ w.axes));
    alike = λ m. together m other refl;
    copied = c ∙ ap (sheet_copied at.number) w.copied
        ∙ copies-front source.start destination.start (axes_of source.sheet) (axes_of destination.sheet) source.others.now destination.others.now from at.number before (ap product e.alike)
        ∙ ap (λ (k : ℕ). copied_of (size * k)) (sym (gone more refl));
  }
    where
      n : positions destination.others.now ≡ positions source.others.now
      n = ap product e.others_alike

      together : more ≡ true → (b : Bool) → other ≡ b → into'.number ≡ at'.number
      together m true q = omega (arith, ion q, on m, w.alike refl)
      together m false q = absurd (omega (arith, ilast q, on m, w.alike refl, l, n, ap positions (a ∙ w.axes), ap positions w.into_axes))

      gone : (b : Bool) → more ≡ b → passed more at' source.others.now ≡ at.number + 1
      gone true m = rw m (on m)
      gone false m = rw m (omega (arith, last m, ap positions w.axes))

-- ---- one sheet

pub none-other : (axes : List Axis) → length axes ≡ 0 → axes ≡ []
none-other [] h = refl
none-other (a ∷ rest) h = absurd (omega (arith, h))

pub none-too : (axes : List Axis) → extents axes ≡ [] → axes ≡ []
none-too [] e = refl
none-too (a ∷ rest) e = absurd (omega (arith, ap length e))

-- if there are no other axes, it is the whole copy
pub one-sheet : (source destination : Sheets) (from to : List ℤ) → source.others.now ≡ [] → destination.others.now ≡ []
    → copies (place_at source.start (axes_of source.sheet)) (place_at destination.start (axes_of destination.sheet)) from (positions (axes_of source.sheet)) to
    ≡ copies (places_of source) (places_of destination) from (positions_of source) to
unfolding product
one-sheet source destination from to e f =
    let n : positions (axes_of source.sheet) * 1 ≡ positions (axes_of source.sheet) = omega arith in
    rw (e, f, n) refl
