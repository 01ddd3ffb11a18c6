-- The refusals of means by what the code finds, in their order.
use Rattle.std.proofs.Common.{true, false, ◌≡◌, ℕ, ◌<◌, ◌≤◌, List, [], ◌∷◌, arith}
use Rattle.std.proofs.lemmas.Int.{ints}
use Rattle.specification.specs.Axis.{Axis, extents}
use Rattle.specification.specs.Layout.{LayoutModel, handed}
use Rattle.specification.specs.Outcome.{done, refused, pass, refuse_if, ◌>>◌}
use Rattle.specification.specs.Views.{axis_at}
use Rattle.view.specs.Count.{element_count, count_of}
use Rattle.view.specs.Model.{model_of}
use Rattle.view.specs.Reach.{Ends, reach_of}
use Rattle.view.specs.Readings.{is_past}
use Rattle.view.specs.declared.layout.Layout.{Layout}
use Rattle.view.proofs.AxesLaws.{length_first_axes}
use Rattle.view.proofs.CountLaws.{element-count-of-axes}
use Rattle.view.proofs.ReadingLaws.{past-short}
use Rattle.means.specs.Means.{remaining, extent_rule, means_of}

-- of at most 16 axes the count of their extents is that of their positions
pub counted : (layout : Layout) {axes : List Axis} → layout.rank ≤ 16 → axes ≡ (model_of layout).axes → element_count (extents axes) ≡ count_of (model_of layout).axes
counted layout {axes} h e = rw e (element-count-of-axes (model_of layout).axes (omega (arith, h, length_first_axes layout.axes layout.rank)))

pub extent_none : {n : ℕ} → n ≡ 0 → extent_rule n ≡ refused 15 []
unfolding extent_rule refuse_if ◌>>◌
extent_none e = grind (arith, ints, e)

pub extent_fits : {n : ℕ} → 0 < n → n ≤ 65536 → extent_rule n ≡ pass
unfolding extent_rule refuse_if ◌>>◌
extent_fits h k = grind (arith, ints, h, k)

pub extent_long : {n : ℕ} → 65536 < n → extent_rule n ≡ refused 16 []
unfolding extent_rule refuse_if ◌>>◌
extent_long h = grind (arith, ints, h)

module _ (layout : Layout) (axis readings room : ℕ) where
  abbrev l : LayoutModel
  l = model_of layout

  pub not_handed : {n : ℕ} {vs : List ℕ} → reach_of l ≡ refused n vs → means_of l axis readings room ≡ refused n vs
  unfolding means_of reach_of ◌>>◌
  not_handed e = grind (arith, ints, e)

  module _ {e : Ends} (reach : reach_of l ≡ done e) where
    pub few : layout.rank ≤ 16
    unfolding reach_of handed refuse_if ◌>>◌
    few = grind (arith, ints, reach, length_first_axes layout.axes layout.rank)

    pub bad_axis : layout.rank ≤ axis → means_of l axis readings room ≡ refused 5 (axis ∷ layout.rank ∷ [])
    unfolding means_of reach_of refuse_if ◌>>◌
    bad_axis h = grind (arith, ints, reach, length_first_axes layout.axes layout.rank)

    module _ (in-rank : axis < layout.rank) (rest : Layout) (is : model_of rest ≡ remaining l axis) where
      pub too_full : {n : ℕ} {vs : List ℕ} → count_of (model_of rest).axes ≡ refused n vs → means_of l axis readings room ≡ refused n vs
      unfolding means_of reach_of count_of refuse_if ◌>>◌
      too_full f = grind (arith, ints, reach, is, f, length_first_axes layout.axes layout.rank)

      module _ {count : ℕ} (counted : count_of (model_of rest).axes ≡ done count) where
        pub short : is_past e readings ≡ true → means_of l axis readings room ≡ refused 13 []
        unfolding means_of reach_of count_of refuse_if ◌>>◌
        short h = grind (arith, ints, reach, is, counted, past-short l readings, length_first_axes layout.axes layout.rank)

        module _ (held : is_past e readings ≡ false) where
          pub no_room : room < count → means_of l axis readings room ≡ refused 10 (count ∷ [])
          unfolding means_of reach_of count_of refuse_if ◌>>◌
          no_room h = grind (arith, ints, reach, is, counted, past-short l readings, length_first_axes layout.axes layout.rank)

          module _ (fits : count ≤ room) {axes : List Axis} (all : axes ≡ l.axes) where
            pub bad_extent : {n : ℕ} {vs : List ℕ} → extent_rule (axis_at axes axis).extent ≡ refused n vs → means_of l axis readings room ≡ refused n vs
            unfolding means_of reach_of count_of refuse_if ◌>>◌
            bad_extent f = grind (arith, ints, reach, is, counted, all, f, past-short l readings, length_first_axes layout.axes layout.rank)

            pub good_extent : extent_rule (axis_at axes axis).extent ≡ pass → means_of l axis readings room ≡ done count
            unfolding means_of reach_of count_of refuse_if ◌>>◌
            good_extent f = grind (arith, ints, reach, is, counted, all, f, past-short l readings, length_first_axes layout.axes layout.rank)
