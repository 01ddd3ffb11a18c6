-- Check-in's bounds and the rule which layouts are accepted, as one test each, and that test by the offset and the two sums of spans.
use Rattle.std.specs.List.{list_any}
use Rattle.std.specs.Prelude.{if◌then◌else◌, None, Option, Some}
use mathlib.Core.Path.{◌≡◌, refl, sym, ◌∙◌, subst}
use mathlib.Core.Bool.{Bool, true, false, not}
use mathlib.Core.List.{List, [], ◌∷◌}
use mathlib.Core.Logic.{◌⊎◌, inl, inr}
use Prim.Native.Nat.{◌≤◌, ◌<◌}
use native.Mathlib.Omega.{arith}
use lib.Dec.{T}
use lib.IntN.{ℤ}
use Rattle.integer.specs.Range.{fits, most_signed}
use Rattle.specification.specs.Outcome.{done, refused, pass, refuse_if, ◌>>◌}
use Rattle.specification.specs.Axis.{Axis, extents, is_empty, span, upward, downward}
use Rattle.specification.specs.Layout.{LayoutModel, rank, lowest, highest, is_in_reach, handed}
use Rattle.specification.specs.CheckIn.{bounds}
use Rattle.specification.proofs.ReachLaws.{Within, tests, untests, bounds-within}
use Rattle.specification.specs.Beside.{zero_among}
use Rattle.specification.proofs.OutcomeLaws.{passed-check, done_inj}
use Rattle.view.specs.Reach.{Ends, none, ends, reach_of, accepted_ends, within, none_wide, in_bounds}
use Rattle.view.proofs.AxesLaws.{none-wide}
use Rattle.view.proofs.CountLaws.{empty_extents}
use Rattle.std.proofs.lemmas.Int.{ints}

-- ---- check-in's bounds

-- one axis among them spans no more than all
spans_fit : (axes : List Axis) → upward axes ≤ most_signed → downward axes ≤ most_signed → list_any (λ a. not (fits (span a))) axes ≡ false
unfolding upward downward
spans_fit [] u d = refl
spans_fit (a ∷ rest) u d = rw (fit, spans_fit rest (omega arith) (omega arith))
  where
    fit : fits (span a) ≡ true
    fit = grind (arith, ints)

module _ (l : LayoutModel) where
  -- what is within is refused for a wide extent alone
  narrow-bounds : Within l → is_empty l.axes ≡ false → bounds l ≡ refuse_if (not (none_wide (extents l.axes))) 3 []
  unfolding bounds refuse_if
  narrow-bounds w e =
      let u : upward l.axes ≤ most_signed = omega (arith, ints, w.w_low, w.w_most) in
      let d : downward l.axes ≤ most_signed = omega (arith, ints, w.w_low, w.w_most) in
      grind (arith, ints, spans_fit l.axes u d, none-wide l.axes, w.w_low, w.w_most, w.w_in)

  -- bounds let pass or refuse 3
  three : (bounds l ≡ pass) ⊎ (bounds l ≡ refused 3 [])
  unfolding bounds refuse_if
  three = grind (arith, ints)

  -- what is not within is refused
  outside-bounds : (Within l → ⊥) → is_empty l.axes ≡ false → bounds l ≡ refused 3 []
  outside-bounds never e = elim three [
    | inl p ↦ absurd (elim (bounds-within l p) [ inl q ↦ subst T (sym q ∙ e) tt | inr w ↦ never w.1 ])
    | inr r ↦ r
  ]

  empty-bounds : is_empty l.axes ≡ true → bounds l ≡ pass
  unfolding bounds
  empty-bounds e = rw e

  pub bounds_tested : bounds l ≡ refuse_if (not (in_bounds l)) 3 []
  unfolding refuse_if
  bounds_tested = grind (arith, ints, empty_extents l.axes, empty-bounds, narrow-bounds, outside-bounds, tests l, untests l)

  pub bounds_passed : true ≡ in_bounds l → bounds l ≡ pass
  unfolding refuse_if
  bounds_passed e = rw (bounds_tested, ← e)

  pub bounds_refused : false ≡ in_bounds l → bounds l ≡ refused 3 []
  unfolding refuse_if
  bounds_refused e = rw (bounds_tested, ← e)

-- ---- the reach

-- what is within is in reach; else only an empty layout is
pub reach_within : (l : LayoutModel) (t : Bool) → t ≡ within l → t ≡ true → t ≡ is_in_reach l
unfolding is_in_reach
reach_within l t e h = grind (arith, ints)

pub reach_beyond : (l : LayoutModel) (t z : Bool) → t ≡ within l → t ≡ false → z ≡ zero_among (extents l.axes) → z ≡ is_in_reach l
unfolding is_in_reach
reach_beyond l t z e h k = grind (arith, ints, empty_extents l.axes)

-- what the code's answers say of the reach
module _ (l : LayoutModel) where
  pub reach_many : 16 < rank l → reach_of l ≡ refused 1 []
  unfolding reach_of handed refuse_if ◌>>◌
  reach_many h = grind (arith, ints)

  module _ (few : rank l ≤ 16) where
    pub reach_empty : zero_among (extents l.axes) ≡ true → reach_of l ≡ done none
    unfolding reach_of handed is_in_reach refuse_if ◌>>◌
    reach_empty z = grind (arith, ints, empty_extents l.axes)

    module _ {o : Option Ends} (told : o ≡ accepted_ends l) (z : zero_among (extents l.axes) ≡ false) where
      pub reach_outside : o ≡ None → reach_of l ≡ refused 3 []
      unfolding reach_of handed is_in_reach refuse_if ◌>>◌
      reach_outside n = grind (arith, ints, empty_extents l.axes)

      pub reach_between : {low high : ℤ} → o ≡ Some (ends low high) → reach_of l ≡ done (ends low high)
      unfolding reach_of handed is_in_reach refuse_if ◌>>◌
      reach_between n = grind (arith, ints, empty_extents l.axes)

-- the ends, if the layout is accepted
pub within-ends : (l : LayoutModel) {e : Ends} → reach_of l ≡ done e → (handed l 0 ≡ pass) × (e ≡ (if is_empty l.axes then none else ends (lowest l) (highest l)))
unfolding reach_of
within-ends l q = let p = passed-check (handed l 0) q in (p.0, sym (done_inj p.1))
