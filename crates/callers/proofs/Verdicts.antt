-- What a judgement says of axes, out of what the calls of the verdict promise (`Means`, `MeansOfLists`); and what a verdict byte says of a
-- layout, out of what the writer promises (`TrueByte`).
use Rattle.std.proofs.Common.{ℕ, ◌<◌, List, [], ◌∷◌, length, Ok, Err, refl, arith}
use lib.IntN.{ℤ}
use Rattle.std.proofs.lemmas.Int.{ints}
use Rattle.specification.specs.Axis.{Axis, axes_of_lists}
use Rattle.specification.specs.Layout.{LayoutModel}
use Rattle.specification.specs.Normal.{normal_of}
use Rattle.specification.specs.Verdict.{BothBudgetsPassed}
use Rattle.specification.specs.RecordsAgree.{TrueByte}
use Rattle.view.specs.declared.layout.Refusal.{Refusal}
use Rattle.view.specs.declared.layout.Refusal.TheVariants.{TooManyAxes, LengthsDiffer, OutOfRange, WrongLength, BadAxis, BadExtent, BadIndex, TooManyPositions, ShortScratch, ShortOutput, NotARecord, ExtentsDiffer, ShortReadings, NotDistinct, EmptyAxis, LongAxis}
use Rattle.injectivity.specs.declared.Judgement.{Judgement}
use Rattle.injectivity.specs.declared.Judgement.TheVariants.{Distinct, Repeated, Undecided}
use Rattle.injectivity.specs.Meaning.{NoneDue, IsFitting, Means, MeansOfLists}
use Rattle.callers.specs.Verdicts.{IsTrueOf, ByteTells}

pub told_true : (axes : List Axis) (before after : List ℕ) (j : Judgement) → Means axes before after (Ok j) → IsTrueOf axes j
unfolding Means
told_true axes before after (Distinct count) m = let d = m.distinct.0 (count, refl) in (d.1, d.2)
told_true axes before after (Repeated count) m = let d = m.repeated.0 (count, refl) in (d.1, d.2)
told_true axes before after Undecided m = (m.undecided.0 (0, refl)).1

-- no refusal if none is due
pub answered : (axes : List Axis) (before after : List ℕ) (why : Refusal) → Means axes before after (Err why) → ¬ (NoneDue axes (length before))
unfolding Means
answered axes before after TooManyAxes m d = let h = m.one.0 refl in omega (arith, d.few)
answered axes before after OutOfRange m d = d.not_three (m.three.0 refl).1
answered axes before after TooManyPositions m d = let h = (m.eight.0 refl).1 in let k = d.not_eight in absurd cc
answered axes before after (ShortScratch words) m d = let h = ((m.nine words).0 refl).1 in omega (arith, d.enough)
answered axes before after LengthsDiffer m d = grind (arith, m.no_other 2 [] refl)
answered axes before after (WrongLength a b) m d = grind (arith, m.no_other 4 (a ∷ b ∷ []) refl)
answered axes before after (BadAxis a b) m d = grind (arith, m.no_other 5 (a ∷ b ∷ []) refl)
answered axes before after (BadExtent a) m d = grind (arith, m.no_other 6 (a ∷ []) refl)
answered axes before after (BadIndex a) m d = grind (arith, m.no_other 7 (a ∷ []) refl)
answered axes before after (ShortOutput n) m d = grind (arith, m.no_other 10 (n ∷ []) refl)
answered axes before after NotARecord m d = grind (arith, m.no_other 11 [] refl)
answered axes before after ExtentsDiffer m d = grind (arith, m.no_other 12 [] refl)
answered axes before after ShortReadings m d = grind (arith, m.no_other 13 [] refl)
answered axes before after NotDistinct m d = grind (arith, m.no_other 14 [] refl)
answered axes before after EmptyAxis m d = grind (arith, m.no_other 15 [] refl)
answered axes before after LongAxis m d = grind (arith, m.no_other 16 [] refl)

-- ---- two lists

-- lists that were answered fit
fitting : (extents : List ℕ) (strides : List ℤ) (before after : List ℕ) (j : Judgement) → MeansOfLists extents strides before after (Ok j) → IsFitting extents strides
unfolding MeansOfLists
fitting extents strides before after j m = grind (arith, ints, m.one.1, m.two.1)

pub lists_told : (extents : List ℕ) (strides : List ℤ) (before after : List ℕ) (j : Judgement) → MeansOfLists extents strides before after (Ok j) → IsTrueOf (axes_of_lists extents strides) j
unfolding MeansOfLists
lists_told extents strides before after j m = told_true (axes_of_lists extents strides) before after j (m.fitting (fitting extents strides before after j m))

pub lists_answered : (extents : List ℕ) (strides : List ℤ) (before after : List ℕ) (why : Refusal) → MeansOfLists extents strides before after (Err why)
    → IsFitting extents strides → ¬ (NoneDue (axes_of_lists extents strides) (length before))
unfolding MeansOfLists
lists_answered extents strides before after why m f = answered (axes_of_lists extents strides) before after why (m.fitting f)

-- ---- the byte

-- a byte below 3 is of axes for which the budgets are not both passed
small_byte : (x : LayoutModel) (byte : ℕ) → TrueByte x byte → byte < 3 → ¬ (BothBudgetsPassed (normal_of x).axes)
small_byte x byte t h b = let e = t.undecided.1 b in omega (arith, h)

pub byte_tells : (x : LayoutModel) (byte : ℕ) → TrueByte x byte → ByteTells x byte
byte_tells x byte t =
    record {
      undecided = t.undecided;
      distinct = (λ e. let n = small_byte x byte t (omega (arith, e)) in (n, (t.distinct n).0 e), λ d. (t.distinct d.0).1 d.1);
      repeated = (λ e. let n = small_byte x byte t (omega (arith, e)) in (n, (t.repeated n).0 e), λ d. (t.repeated d.0).1 d.1);
    }
