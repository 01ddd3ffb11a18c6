-- The loop of `run`: no vector on the way was completed.
use Rattle.std.proofs.Common.{◌≡◌, ◌∙◌, ℤ, Option, ℕ, suc, ◌+◌, ◌-◌, ◌<◌, ◌≤◌, Bool, true, false, Some, List, IsTrue, refl, if◌then◌else◌, sym, ap, arith}
use mathlib.Core.Logic.{◌↔◌}
use Rattle.std.proofs.lemmas.Int.{ints}
use Rattle.specification.specs.Search.{ActiveAxis, box, half, first_of, difference_at, difference_sum, Completes}
use Rattle.specification.specs.Verdict.{hit}
use Rattle.differences.specs.AxisDifferences.{number_of}
use Rattle.differences.proofs.VectorLaws.{number-low}
use Rattle.walk.specs.Underway.{vector_of, others_of, Stands}
use Rattle.walk.specs.WalkAt.{At}
use Rattle.walk.specs.declared.Place.{Place}
use Rattle.walk.specs.declared.difference_axis.Residues.{Residues}
use Rattle.walk.specs.declared.two_axes.TwoAxes.{TwoAxes}
use Rattle.walk.specs.declared.difference_axis.DifferenceAxis.{DifferenceAxis}
use Rattle.walk.proofs.Vectors.{small-of}

-- below half there is a next vector
pub one_more : (t : TwoAxes) (ds : List DifferenceAxis) (p : Place) → At t ds p → p.count < half (others_of ds)
    → number_of (vector_of ds) + 1 < box (others_of ds)
unfolding half
one_more t ds p a h = omega (arith, a.number, number-low (vector_of ds) (small-of t ds a.stands.fit))

-- a first place is this one, or that of the places after it
first-more : (test : ℕ → Bool) (n m c : ℕ) → n ≡ suc m → first_of test n c ≡ (if test c then Some c else first_of test m (suc c))
unfolding first_of
first-more test n m c e = ap (λ (k : ℕ). first_of test k c) e

-- the answer of `is_completed` is the definitions' test of the place
pub asked : (a b : ActiveAxis) (others : List ActiveAxis) (c k : ℕ) (r : Bool) → k ≡ half others + c
    → (IsTrue r ↔ Completes a b (difference_sum others (difference_at others k))) → hit a b others c ≡ r
unfolding hit
asked a b others c k r e w = grind (arith, ints)

-- the first of the places behind `from` up to `stop`
abbrev first_from : TwoAxes → List ActiveAxis → ℕ → ℕ → Option ℕ
first_from t others stop from = first_of (hit t.first t.second others) (stop - from) (suc from)

-- the walk stands on the way from `from` to `stop`, and the first place is among those that are left
pub record Running (t : TwoAxes) (others : List ActiveAxis) (from stop : ℕ) (ds : List DifferenceAxis) (p : Place) : Type 0 where
  pub at : At t ds p
  pub others_are : others_of ds ≡ others
  pub upto : p.count ≤ stop
  pub left : first_from t others stop from ≡ first_from t others stop p.count

module _ {t : TwoAxes} {others : List ActiveAxis} {from stop : ℕ} {ds : List DifferenceAxis} {p : Place}
    (w : Running t others from stop ds p) (h : p.count < stop) where
  -- one vector on
  module _ (ds' : List DifferenceAxis) (r : Residues) (s : Stands t ds' r) (o : others_of ds' ≡ others_of ds)
      (n : number_of (vector_of ds') ≡ number_of (vector_of ds) + 1) where
    on-at : At t ds' (record { count = p.count + 1; residues = r })
    on-at = record { stands = s; number = omega (arith, n, w.at.number, ap half o) }

    abbrev sum : ℤ
    sum = difference_sum (others_of ds') (difference_at (others_of ds') (number_of (vector_of ds')))

    module _ (y : Bool) (tells : IsTrue y ↔ Completes t.first t.second sum) where
      here : first_from t others stop from ≡ (if y then Some (p.count + 1) else first_from t others stop (p.count + 1))
      here =
          let told = asked t.first t.second (others_of ds') (p.count + 1) (number_of (vector_of ds')) y on-at.number tells in
          let e : suc p.count ≡ p.count + 1 = omega arith in
          w.left
          ∙ first-more (hit t.first t.second others) (stop - p.count) (stop - (p.count + 1)) (suc p.count) (omega arith)
          ∙ rw (e, ← w.others_are, ← o, told) refl

      pub on-found : y ≡ true → Some (p.count + 1) ≡ first_from t others stop from
      on-found e = sym (here ∙ rw e refl)

      pub on-running : y ≡ false → Running t others from stop ds' (record { count = p.count + 1; residues = r })
      on-running e = record { at = on-at; others_are = o ∙ w.others_are; upto = omega arith; left = here ∙ rw e refl }
