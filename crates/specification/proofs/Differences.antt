-- Two index vectors of one sum (`EqualSums`) are one vector of differences, not all 0, whose sum is 0 (`ZeroDifference`). No signs are wanted: a difference i - j
-- on an axis of extent n is kept as the digit i - j + (n - 1), from 0 to 2 (n - 1), so differences sum to 0 exactly if their digits sum to the span.
use mathlib.Core.Path.{◌≡◌, refl, sym, ap, ap₂, ◌∙◌}
use mathlib.Core.Logic.{◌≢◌}
use Prim.Native.Nat.{ℕ, suc, ◌+◌, ◌*◌, ◌-◌, ◌<◌}
use mathlib.Core.List.{List, [], ◌∷◌}
use native.Mathlib.Omega.{arith}
use Rattle.specification.proofs.Positions.{IndexVector, empty, ◌and◌, place}
use Rattle.specification.proofs.SeparatedAxis.{reach-span}
use Rattle.specification.proofs.Digits.{PositiveExtents, index_at-within, place-index_at}
use Rattle.specification.proofs.Pigeonhole.{pigeonhole, Clash}
use Rattle.specification.specs.Axis.{index_at, product}
use Rattle.specification.specs.Search.{ActiveAxis, lengths, reach, span_sum, widths}

-- two index vectors that differ and have one sum over absolute strides
pub record EqualSums (l : List ActiveAxis) : Type 0 where
  pub x : List ℕ
  pub y : List ℕ
  pub bx : IndexVector (lengths l) x
  pub by : IndexVector (lengths l) y
  pub other : x ≢ y
  pub same : reach l x ≡ reach l y

-- more positions than sums from 0 to the span: two share one (the block is Repeated)
pub crowded : (l : List ActiveAxis) → PositiveExtents (lengths l) → suc (span_sum l) < product (lengths l) → EqualSums l
crowded l pos h = go (pigeonhole (suc (span_sum l)) (product (lengths l)) (λ k. reach l (index_at (lengths l) k)) (λ k b. le l k (index_at-within pos k b)) h)
  where
    le : (l : List ActiveAxis) (k : ℕ) → IndexVector (lengths l) (index_at (lengths l) k) → reach l (index_at (lengths l) k) < suc (span_sum l)
    le l k b = omega (arith, reach-span l b)

    go : Clash (λ k. reach l (index_at (lengths l) k)) (product (lengths l)) → EqualSums l
    go c =
        let lo : c.i < product (lengths l) = omega arith in
        record {
          x = index_at (lengths l) c.i;
          y = index_at (lengths l) c.j;
          bx = index_at-within pos c.i lo;
          by = index_at-within pos c.j c.below;
          other = λ e. let z : c.i ≡ c.j = sym (place-index_at pos c.i lo) ∙ ap (λ (w : List ℕ). place (lengths l) w) e ∙ place-index_at pos c.j c.below in omega arith;
          same = c.same;
        }

-- ---- differences

-- the digits of no difference
abbrev pub no_difference : List ActiveAxis → List ℕ
no_difference [] = []
no_difference (a ∷ r) = (a.extent - 1) ∷ no_difference r

-- the digits of the differences of two index vectors
difference : List ActiveAxis → List ℕ → List ℕ → List ℕ
difference [] x y = []
difference (a ∷ r) [] y = []
difference (a ∷ r) (i ∷ x) [] = []
difference (a ∷ r) (i ∷ x) (j ∷ y) = (i + (a.extent - 1) - j) ∷ difference r x y

-- they are digits below 2 × extent - 1
difference-within : (l : List ActiveAxis) {x y : List ℕ} → IndexVector (lengths l) x → IndexVector (lengths l) y → IndexVector (widths l) (difference l x y)
unfolding difference
difference-within [] empty empty = empty
difference-within (a ∷ r) (◌and◌ {i = i} h b) (◌and◌ {i = j} k d) = let z : i + (a.extent - 1) - j < 2 * a.extent - 1 = omega arith in ◌and◌ z (difference-within r b d)

-- their sum is the difference of the two sums, plus the span
difference-reach : (l : List ActiveAxis) {x y : List ℕ} → IndexVector (lengths l) x → IndexVector (lengths l) y → reach l (difference l x y) + reach l y ≡ reach l x + span_sum l
unfolding difference reach span_sum
difference-reach [] empty empty = omega arith
difference-reach (a ∷ r) (◌and◌ {i = i} h b) (◌and◌ {i = j} k d) =
    let e : i + (a.extent - 1) - j + j ≡ i + (a.extent - 1) = omega arith in
    omega (arith, difference-reach r b d, ap (λ (z : ℕ). z * a.stride) e)

-- no difference: the vectors are equal
difference-none : (l : List ActiveAxis) {x y : List ℕ} → IndexVector (lengths l) x → IndexVector (lengths l) y → difference l x y ≡ no_difference l → x ≡ y
unfolding difference
difference-none [] empty empty e = refl
difference-none (a ∷ r) (◌and◌ {i = i} h b) (◌and◌ {i = j} k d) e =
    let hd : i + (a.extent - 1) - j ≡ a.extent - 1 = cc in
    let ij : i ≡ j = omega arith in
    ap₂ (λ (u : ℕ) (v : List ℕ). u ∷ v) ij (difference-none r b d (cc))

-- and back: the differences above 0 are one vector
above : List ActiveAxis → List ℕ → List ℕ
above [] d = []
above (a ∷ r) [] = []
above (a ∷ r) (i ∷ d) = (i - (a.extent - 1)) ∷ above r d

-- those below 0, without their sign, the other
under : List ActiveAxis → List ℕ → List ℕ
under [] d = []
under (a ∷ r) [] = []
under (a ∷ r) (i ∷ d) = (a.extent - 1 - i) ∷ under r d

-- the one is an index vector
above_within : (l : List ActiveAxis) {d : List ℕ} → IndexVector (widths l) d → IndexVector (lengths l) (above l d)
unfolding above
above_within [] empty = empty
above_within (a ∷ r) (◌and◌ {i = i} h b) = let z : i - (a.extent - 1) < a.extent = omega arith in ◌and◌ z (above_within r b)

-- and so is the other
under-within : (l : List ActiveAxis) {d : List ℕ} → IndexVector (widths l) d → IndexVector (lengths l) (under l d)
unfolding under
under-within [] empty = empty
under-within (a ∷ r) (◌and◌ {i = i} h b) = let z : a.extent - 1 - i < a.extent = omega arith in ◌and◌ z (under-within r b)

-- whose differences have the digits that they came from
difference-back : (l : List ActiveAxis) {d : List ℕ} → IndexVector (widths l) d → difference l (above l d) (under l d) ≡ d
unfolding difference above under
difference-back [] empty = refl
difference-back (a ∷ r) (◌and◌ {i = i} h b) = ap₂ (λ (u : ℕ) (v : List ℕ). u ∷ v) (omega arith) (difference-back r b)

-- a vector has no difference from itself
difference-self : (l : List ActiveAxis) {x : List ℕ} → IndexVector (lengths l) x → difference l x x ≡ no_difference l
unfolding difference
difference-self [] empty = refl
difference-self (a ∷ r) (◌and◌ {i = i} h b) = ap₂ (λ (u : ℕ) (v : List ℕ). u ∷ v) (omega arith) (difference-self r b)

-- digits of differences that are not all 0 and sum to 0
pub record ZeroDifference (l : List ActiveAxis) : Type 0 where
  pub d : List ℕ
  pub box : IndexVector (widths l) d
  pub some : d ≢ no_difference l
  pub sum : reach l d ≡ span_sum l

-- two vectors of one sum have such differences
pub pair-zero : (l : List ActiveAxis) → EqualSums l → ZeroDifference l
pair-zero l p = record {
  d = difference l p.x p.y;
  box = difference-within l p.bx p.by;
  some = λ e. p.other (difference-none l p.bx p.by e);
  sum = omega (arith, difference-reach l p.bx p.by, p.same);
}

-- such differences are those of two vectors of one sum
pub zero-pair : (l : List ActiveAxis) → ZeroDifference l → EqualSums l
zero-pair l z =
    let e : difference l (above l z.d) (under l z.d) ≡ z.d = difference-back l z.box in
    record {
      x = above l z.d;
      y = under l z.d;
      bx = above_within l z.box;
      by = under-within l z.box;
      other = λ q. z.some (sym e ∙ ap (λ (w : List ℕ). difference l w (under l z.d)) q ∙ difference-self l (under-within l z.box));
      same = omega (arith, difference-reach l (above_within l z.box) (under-within l z.box), ap (λ (w : List ℕ). reach l w) e, z.sum);
    }
