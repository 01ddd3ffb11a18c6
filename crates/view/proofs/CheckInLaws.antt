-- What check-in answers by the lengths of its lists and the bounds.
use mathlib.Core.Path.{◌≡◌}
use mathlib.Core.List.{List}
use Prim.Native.Nat.{ℕ}
use lib.IntN.{ℤ}
use Rattle.specification.specs.Axis.{Axis}
use Rattle.specification.specs.CheckIn.{bounds, check_in}
use Rattle.specification.specs.Outcome.{done, refused, pass, refuse_if, ◌>>◌}
use Rattle.specification.specs.Layout.{LayoutModel}
use Rattle.view.specs.Answers.{answer_of}
use Rattle.view.specs.Lists.{paired}
use Rattle.view.specs.Model.{model_from, checked_into}
use Rattle.std.proofs.lemmas.Int.{ints}
use native.Mathlib.Omega.{arith}

module _ (buffer : ℕ) (offset : ℤ) (es : List ℕ) (ss : List ℤ) where
  pub lists_refused : {number : ℕ} {values : List ℕ} → refused number values ≡ paired es ss → answer_of (check_in buffer offset es ss) ≡ refused number values
  unfolding check_in paired refuse_if ◌>>◌
  lists_refused e = grind (arith, ints)

  pub bounds_answered : {axes : List Axis} → done axes ≡ paired es ss → answer_of (check_in buffer offset es ss) ≡ bounds (model_from buffer offset axes)
  unfolding check_in paired refuse_if ◌>>◌
  bounds_answered e = grind (arith, ints)

  -- check-in into a layout that is there
  module _ (old : LayoutModel) where
    pub told_unpaired : {number : ℕ} {values : List ℕ} → refused number values ≡ paired es ss → checked_into old (check_in buffer offset es ss) ≡ record { answer = refused number values; layout = old }
    unfolding check_in paired refuse_if ◌>>◌
    told_unpaired e = grind (arith, ints)

    pub told_outside : {axes : List Axis} {number : ℕ} {values : List ℕ} → done axes ≡ paired es ss → refused number values ≡ bounds (model_from buffer offset axes)
        → checked_into old (check_in buffer offset es ss) ≡ record { answer = refused number values; layout = old }
    unfolding check_in paired refuse_if ◌>>◌
    told_outside e b = grind (arith, ints)

    pub told_inside : {axes : List Axis} → done axes ≡ paired es ss → pass ≡ bounds (model_from buffer offset axes)
        → checked_into old (check_in buffer offset es ss) ≡ record { answer = pass; layout = model_from buffer offset axes }
    unfolding check_in paired refuse_if ◌>>◌
    told_inside e b = grind (arith, ints)
