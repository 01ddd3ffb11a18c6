-- What is refused before the verdict, by what the code finds.
use Rattle.std.specs.Prelude.{Bool, true, false, List, [], ℕ, ◌≡◌, nat_eq}
use Rattle.std.specs.Cmp.Lexicographic.{pointwise}
use Rattle.std.proofs.lemmas.Int.{ints}
use native.Mathlib.Omega.{arith}
use Rattle.specification.specs.Axis.{extents}
use Rattle.specification.specs.Outcome.{done, refused, refuse_if, pass, ◌>>◌}
use Rattle.specification.specs.Layout.{LayoutModel}
use Rattle.view.specs.Reach.{Ends}
use Rattle.view.specs.Readings.{reach_of_both, layout_ends, is_past}
use Rattle.view.proofs.ReadingLaws.{past-short}
use Rattle.copying.specs.Copy.{copy_handed}

module _ (s d : LayoutModel) (readings room : ℕ) where
  pub not_handed : {n : ℕ} {vs : List ℕ} → refused n vs ≡ reach_of_both s d → refused n vs ≡ copy_handed s d readings room
  unfolding copy_handed reach_of_both refuse_if ◌>>◌
  not_handed e = grind (arith, ints)

  module _ {e f : Ends} (reach : done (e, f) ≡ reach_of_both s d) {same : Bool} (same-is : same ≡ pointwise nat_eq (extents s.axes) (extents d.axes)) where
    pub extents_differ : same ≡ false → refused 12 [] ≡ copy_handed s d readings room
    unfolding copy_handed reach_of_both refuse_if ◌>>◌
    extents_differ n = grind (arith, ints)

    module _ (yes : same ≡ true) where
      pub source_short : is_past e readings ≡ true → refused 13 [] ≡ copy_handed s d readings room
      unfolding copy_handed reach_of_both refuse_if ◌>>◌
      source_short h = grind (arith, ints, past-short s readings)

      pub destination_short : is_past f room ≡ true → refused 13 [] ≡ copy_handed s d readings room
      unfolding copy_handed reach_of_both refuse_if ◌>>◌
      destination_short h = grind (arith, ints, past-short d room)

      pub suited : is_past e readings ≡ false → is_past f room ≡ false → pass ≡ copy_handed s d readings room
      unfolding copy_handed reach_of_both refuse_if ◌>>◌
      suited h k = grind (arith, ints, past-short s readings, past-short d room)

    -- the reach that is handed on
    pub reach_is : f ≡ layout_ends d
    unfolding reach_of_both ◌>>◌
    reach_is = grind (arith, ints, reach)
