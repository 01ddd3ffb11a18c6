-- The reach of two layouts by that of each, and a buffer that is too short by the reach of its layout.
use Rattle.std.specs.Prelude.{Bool, true, false, List, [], ℕ, ◌≡◌, ◌<◌, ◌≤◌}
use native.Mathlib.Omega.{arith}
use Rattle.std.proofs.lemmas.Int.{ints}
use Rattle.specification.specs.Outcome.{done, refused, refuse_if, ◌>>◌}
use Rattle.specification.specs.Layout.{LayoutModel, handed, is_in_reach}
use Rattle.specification.specs.Readings.{handed_both, least_buffer, is_too_short}
use Rattle.view.specs.declared.layout.Layout.{Layout}
use Rattle.view.specs.Model.{model_of}
use Rattle.view.specs.Reach.{Ends, reach_of}
use Rattle.view.specs.Readings.{layout_ends, reach_of_both, is_past}
use Rattle.view.proofs.AxesLaws.{length_first_axes}

module _ (x y : Layout) where
  pub first_many : 16 < x.rank → reach_of_both (model_of x) (model_of y) ≡ refused 1 []
  unfolding reach_of_both handed_both refuse_if ◌>>◌
  first_many h = grind (arith, ints, length_first_axes x.axes x.rank)

  pub second_many : 16 < y.rank → reach_of_both (model_of x) (model_of y) ≡ refused 1 []
  unfolding reach_of_both handed_both refuse_if ◌>>◌
  second_many h = grind (arith, ints, length_first_axes y.axes y.rank)

  module _ (few : x.rank ≤ 16) (few-too : y.rank ≤ 16) where
    pub first_out : {n : ℕ} {vs : List ℕ} → reach_of (model_of x) ≡ refused n vs → reach_of_both (model_of x) (model_of y) ≡ refused n vs
    unfolding reach_of_both handed_both reach_of handed refuse_if ◌>>◌
    first_out e = grind (arith, ints, length_first_axes x.axes x.rank, length_first_axes y.axes y.rank)

    pub second_out : {e : Ends} {n : ℕ} {vs : List ℕ} → reach_of (model_of x) ≡ done e → reach_of (model_of y) ≡ refused n vs → reach_of_both (model_of x) (model_of y) ≡ refused n vs
    unfolding reach_of_both handed_both reach_of handed refuse_if ◌>>◌
    second_out f g = grind (arith, ints, length_first_axes x.axes x.rank, length_first_axes y.axes y.rank)

    pub both_done : {e f : Ends} → reach_of (model_of x) ≡ done e → reach_of (model_of y) ≡ done f → reach_of_both (model_of x) (model_of y) ≡ done (e, f)
    unfolding reach_of_both handed_both reach_of handed refuse_if ◌>>◌
    both_done g h = grind (arith, ints, length_first_axes x.axes x.rank, length_first_axes y.axes y.rank)

-- of the ends of a layout: its least buffer is longer
pub past-short : (l : LayoutModel) (readings : ℕ) → is_past (layout_ends l) readings ≡ is_too_short l readings
unfolding least_buffer
past-short l readings = grind (arith, ints)
