-- What a layout is drawn as, by the two calls that are made.
use Rattle.std.proofs.Common.{◌≡◌, ℕ, ◌<◌, ◌≤◌, List, arith}
use Rattle.std.proofs.lemmas.Int.{ints}
use Rattle.specification.specs.Axis.{Axis, extents, product}
use Rattle.specification.specs.Outcome.{done, refused, pass, refuse_if, ◌>>◌, ◌>>=◌}
use Rattle.specification.specs.Layout.{LayoutModel, handed}
use Rattle.view.specs.Count.{element_count}
use Rattle.drawing.specs.Drawn.{drawn, picture, too_many, picture_text}

module _ (m : LayoutModel) where
  pub refused_handed : {number : ℕ} {values : List ℕ} → refused number values ≡ handed m 0 → drawn m ≡ refused number values
  unfolding drawn ◌>>◌
  refused_handed e = rw (← e)

  module _ (passed : pass ≡ handed m 0) {axes : List Axis} (same : axes ≡ m.axes) where
    pub refused_count : {number : ℕ} {values : List ℕ} → refused number values ≡ element_count (extents axes) → drawn m ≡ refused number values
    unfolding drawn ◌>>◌ ◌>>=◌
    refused_count e = rw (← passed, ← same, ← e)

    pub too_large : (count : ℕ) → done count ≡ element_count (extents axes) → 200 < count → drawn m ≡ done (too_many count)
    unfolding drawn ◌>>◌ ◌>>=◌
    too_large count e h = rw (← passed, ← same, ← e) (grind (arith, ints))

    pub small_enough : (count : ℕ) → done count ≡ element_count (extents axes) → count ≤ 200 → drawn m ≡ done (picture (picture_text m))
    unfolding drawn ◌>>◌ ◌>>=◌
    small_enough count e h = rw (← passed, ← same, ← e) (grind (arith, ints))

-- the count is the number of positions
pub counted : (es : List ℕ) (count : ℕ) → done count ≡ element_count es → product es ≡ count
unfolding element_count refuse_if ◌>>◌
counted es count e = grind (arith, ints)
