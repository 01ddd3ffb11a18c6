-- The walk at the vector of no difference.
use Rattle.std.proofs.Common.{◌≡◌, ◌∙◌, ℕ, ◌+◌, ◌-◌, ◌%◌, ◌^◌, ◌<◌, ◌≤◌, List, [], ◌∷◌, length, get_or, set, take, refl, sym, ap, arith}
use native.Mathlib.Nat.{mul-pos}
use Rattle.std.specs.List.{All}
use Rattle.std.proofs.Math.Seq.{take_all}
use Rattle.std.proofs.lemmas.List.Elements.{All-head, All-tail, All-push}
use Rattle.std.proofs.lemmas.List.{take_more, take_more_set, map_push, length-set}
use Rattle.std.proofs.lemmas.Int.{ints}
use Rattle.specification.specs.Axis.{product}
use Rattle.specification.specs.Search.{ActiveAxis, span_sum, total, half}
use Rattle.differences.specs.AxisDifferences.{axes_of, number_of}
use Rattle.differences.proofs.ZeroVector.{zero_on, zero_vector, zero-axes, zero-number, zero-sum}
use Rattle.walk.specs.Underway.{IsCountable, difference_of, vector_of, others_of, IsFit, IsResidue}
use Rattle.walk.specs.WalkAt.{At, WalkAt, walk_at}
use Rattle.walk.specs.declared.Place.{Place}
use Rattle.walk.specs.declared.two_axes.TwoAxes.{TwoAxes}
use Rattle.walk.specs.declared.difference_axis.DifferenceAxis.{DifferenceAxis}
use Rattle.walk.proofs.Vectors.{above-is, below-is}

-- the axes before j are at their middles
pub record Made (t : TwoAxes) (others : List ActiveAxis) (ds : List DifferenceAxis) (j : ℕ) : Type 0 where
  pub long : length ds ≡ 16
  pub fit : All (IsFit t) (take j ds)
  pub vector : vector_of (take j ds) ≡ zero_vector (take j others)

at-zero : (d : DifferenceAxis) (a : ActiveAxis) → d.axis ≡ a → d.digit ≡ a.extent - 1 → difference_of d ≡ zero_on a
at-zero d a e f = grind (arith, ints)

pub made-more : (t : TwoAxes) (others : List ActiveAxis) (ds : List DifferenceAxis) (j : ℕ) (d : DifferenceAxis) (a : ActiveAxis)
    → Made t others ds j → j < 16 → j < length others
    → d.axis ≡ get_or others j a → d.digit ≡ (get_or others j a).extent - 1 → IsFit t d → Made t others (set ds j d) (j + 1)
made-more t others ds j d a w few h e f fit =
    let m = take_more_set ds j d (omega (arith, w.long)) in
    record {
      long = length-set ds j d ∙ w.long;
      fit = rw m (All-push (IsFit t) (take j ds) d w.fit fit);
      vector = rw (m, take_more others j a h, map_push difference_of, map_push zero_on, w.vector, at-zero d (get_or others j a) e f) refl;
    }

pub some-total : (l : List ActiveAxis) → All IsCountable l → 0 < total l
unfolding product
some-total [] c = omega arith
some-total (a ∷ rest) c = mul-pos (All-head IsCountable a rest c).0 (some-total rest (All-tail IsCountable a rest c))

module _ (t : TwoAxes) (others : List ActiveAxis) (ds : List DifferenceAxis) (j : ℕ) (w : Made t others ds j)
    (all : length others ≤ j) (no-more : j ≤ length others) where
  abbrev none : Place
  none = record { count = 0; residues = record { z = t.window; q = 0 } }

  abbrev front : List DifferenceAxis
  front = take (length others) ds

  here : j ≡ length others
  here = omega arith

  is-zero : vector_of front ≡ zero_vector others
  is-zero = ap (λ (k : ℕ). vector_of (take k ds)) (sym here) ∙ w.vector ∙ ap zero_vector (take_all j others all)

  others_are : others_of front ≡ others
  others_are = ap axes_of is-zero ∙ zero-axes others

  pub start-view : walk_at t front none ≡ record { first = t.first; second = t.second; others = others; count = 0 }
  start-view =
      let view = λ (o : List ActiveAxis). let w : WalkAt = record { first = t.first; second = t.second; others = o; count = 0 } in w in
      ap view others_are

  start-residue : (m x r : ℕ) → r < m → IsResidue m x r front r
  start-residue m x r h = record {
    low = h;
    so = rw (← above-is front, ← below-is front, is-zero, zero-sum (λ d. d.above) (λ a. refl) others, zero-sum (λ d. d.below) (λ a. refl) others) (record { p = 0; q = 0; eq = omega arith });
  }

  pub start : All IsCountable others → span_sum (t.first ∷ t.second ∷ others) < 2 ^ 64 → At t front none
  start c fits = record {
    stands = record {
      fit = rw (← here) w.fit;
      fits = rw others_are fits;
      z = start-residue t.second.stride t.inverse t.window t.apart;
      q = start-residue t.g (1 % t.g) 0 t.above;
    };
    number = omega (arith, ap number_of is-zero ∙ zero-number others (some-total others c), ap half others_are);
  }
