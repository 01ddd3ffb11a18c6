-- The rule that precedes in every call: what it answers, and what is known if it lets pass; and the reach, which begins with it.
use Rattle.std.specs.Prelude.{None, Option, Some}
use mathlib.Core.Path.{◌≡◌, sym, ap, ◌∙◌}
use mathlib.Core.Bool.{Bool, true, false, not}
use mathlib.Core.List.{List, []}
use Prim.Native.Nat.{ℕ, ◌≤◌, ◌<◌}
use native.Mathlib.Omega.{arith}
use lib.IntN.{ℤ}
use Rattle.std.proofs.lemmas.Int.{ints}
use Rattle.specification.specs.Outcome.{done, refused, refuse_if, ◌>>◌}
use Rattle.specification.specs.Layout.{LayoutModel, rank, is_in_reach, handed}
use Rattle.specification.specs.Axis.{Axis, extents}
use Rattle.specification.specs.Beside.{zero_among}
use Rattle.view.specs.declared.layout.Layout.{Layout}
use Rattle.view.specs.Model.{model_of, model_from}
use Rattle.view.specs.Reach.{Ends, none, ends, reach_of, accepted_ends}
use Rattle.view.proofs.AxesLaws.{length_first_axes}
use Rattle.view.proofs.BoundsLaws as reach

-- the reach of a layout by what the code finds of its axes, m
module _ (l : Layout) where
  pub reach_many : 16 < l.rank → reach_of (model_of l) ≡ refused 1 []
  reach_many h = reach.reach_many (model_of l) (omega (arith, length_first_axes l.axes l.rank))

  module _ {m : LayoutModel} (few : l.rank ≤ 16) (is : m ≡ model_of l) where
    few_axes : rank m ≤ 16
    few_axes = omega (arith, ap rank is, length_first_axes l.axes l.rank)

    pub reach_empty : zero_among (extents m.axes) ≡ true → reach_of (model_of l) ≡ done none
    reach_empty z = ap reach_of (sym is) ∙ reach.reach_empty m few_axes z

    module _ {o : Option Ends} (told : o ≡ accepted_ends m) (z : zero_among (extents m.axes) ≡ false) where
      pub reach_outside : o ≡ None → reach_of (model_of l) ≡ refused 3 []
      reach_outside n = ap reach_of (sym is) ∙ reach.reach_outside m few_axes told z n

      pub reach_between : {low high : ℤ} → o ≡ Some (ends low high) → reach_of (model_of l) ≡ done (ends low high)
      reach_between n = ap reach_of (sym is) ∙ reach.reach_between m few_axes told z n

module _ (l : Layout) (n : ℕ) where
  pub many_axes : 16 < l.rank → handed (model_of l) n ≡ refused 1 []
  unfolding handed refuse_if ◌>>◌
  many_axes h = grind (arith, ints, length_first_axes l.axes l.rank)

  pub many_entries : l.rank ≤ 16 → 16 < n → handed (model_of l) n ≡ refused 1 []
  unfolding handed refuse_if ◌>>◌
  many_entries h k = grind (arith, ints, length_first_axes l.axes l.rank)

  -- few axes and few entries: the reach decides
  pub handed_few : {axes : List Axis} {t : Bool} → l.rank ≤ 16 → n ≤ 16 → axes ≡ (model_of l).axes → t ≡ is_in_reach (model_from l.len l.offset.0 axes)
      → handed (model_of l) n ≡ refuse_if (not t) 3 []
  unfolding handed refuse_if ◌>>◌
  handed_few h k e r = grind (arith, ints, length_first_axes l.axes l.rank)
