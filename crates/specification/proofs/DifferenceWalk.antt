-- The search: some differences of all axes sum to 0 exactly if those of the two set apart do alone, or the two make up for a vector of the others above zero.
-- The vectors below zero need no look: each is opposite to one above, and opposites are made up for alike.
use mathlib.Core.Path.{◌≡◌, refl, sym, ap, ap₂, ◌∙◌}
use mathlib.Core.Logic.{◌≢◌, ◌⊎◌, inl, inr}
use Prim.Native.Nat.{ℕ, ◌+◌, ◌*◌, ◌-◌, ◌<◌}
use mathlib.Core.List.{List, [], ◌∷◌}
use native.Mathlib.Omega.{arith}
use native.Mathlib.Decide.{dec_lt}
use Rattle.specification.proofs.Positions.{IndexVector, empty, ◌and◌, place}
use Rattle.specification.proofs.Digits.{PositiveExtents, none, more, index_at-within, place-index_at, index_at-place, place-lt, place-inj}
use Rattle.specification.proofs.Differences.{ZeroDifference, no_difference}
use Rattle.specification.specs.Axis.{index_at, product}
use Rattle.specification.specs.Search.{ActiveAxis, lengths, reach, span_sum, widths}

-- each axis has a difference
pub widths-positive : (l : List ActiveAxis) → PositiveExtents (lengths l) → PositiveExtents (widths l)
widths-positive [] none = none
widths-positive (a ∷ r) (more h t) = let z : 0 < 2 * a.extent - 1 = omega arith in more z (widths-positive r t)

-- no difference is one of the vectors
pub no_difference-within : (l : List ActiveAxis) → PositiveExtents (lengths l) → IndexVector (widths l) (no_difference l)
no_difference-within [] none = empty
no_difference-within (a ∷ r) (more h t) = let z : a.extent - 1 < 2 * a.extent - 1 = omega arith in ◌and◌ z (no_difference-within r t)

-- and sums to 0: its digits to the span
no_difference-reach : (l : List ActiveAxis) → reach l (no_difference l) ≡ span_sum l
unfolding reach span_sum
no_difference-reach [] = refl
no_difference-reach (a ∷ r) = ap (λ (z : ℕ). (a.extent - 1) * a.stride + z) (no_difference-reach r)

-- its place among them, the middle
unfoldable pub middle : List ActiveAxis → ℕ
middle l = place (widths l) (no_difference l)

-- the digits of the opposite differences
opposite : List ActiveAxis → List ℕ → List ℕ
opposite [] d = []
opposite (a ∷ r) [] = []
opposite (a ∷ r) (i ∷ d) = (2 * a.extent - 2 - i) ∷ opposite r d

-- they are digits too
opposite-within : (l : List ActiveAxis) {d : List ℕ} → IndexVector (widths l) d → IndexVector (widths l) (opposite l d)
unfolding opposite
opposite-within [] empty = empty
opposite-within (a ∷ r) (◌and◌ {i = i} h b) = let z : 2 * a.extent - 2 - i < 2 * a.extent - 1 = omega arith in ◌and◌ z (opposite-within r b)

-- opposites sum to twice the span
opposite-reach : (l : List ActiveAxis) {d : List ℕ} → IndexVector (widths l) d → reach l (opposite l d) + reach l d ≡ 2 * span_sum l
unfolding opposite reach span_sum
opposite-reach [] empty = refl
opposite-reach (a ∷ r) (◌and◌ {i = i} h b) =
    let e : 2 * a.extent - 2 - i + i ≡ 2 * (a.extent - 1) = omega arith in
    omega (arith, opposite-reach r b, ap (λ (z : ℕ). z * a.stride) e)

-- and stand as far from the two ends
opposite-place : (l : List ActiveAxis) {d : List ℕ} → IndexVector (widths l) d → place (widths l) (opposite l d) + place (widths l) d + 1 ≡ product (widths l)
unfolding opposite place product
opposite-place [] empty = refl
opposite-place (a ∷ r) (◌and◌ {i = i} {is = d} h b) =
    let e : 2 * a.extent - 2 - i + i + 1 ≡ 2 * a.extent - 1 = omega arith in
    let f = ap (λ (z : ℕ). (2 * a.extent - 1) * z) (opposite-place r b) in
    glue (2 * a.extent - 2 - i) i (2 * a.extent - 1) (place (widths r) (opposite r d)) (place (widths r) d) (product (widths r)) e f
  where
    glue : (j i w p q s : ℕ) → j + i + 1 ≡ w → w * (p + q + 1) ≡ w * s → j + w * p + (i + w * q) + 1 ≡ w * s
    glue j i w p q s e f = omega arith

-- no difference is opposite to itself
opposite-no_difference : (l : List ActiveAxis) → opposite l (no_difference l) ≡ no_difference l
unfolding opposite
opposite-no_difference [] = refl
opposite-no_difference (a ∷ r) = ap₂ (λ (u : ℕ) (v : List ℕ). u ∷ v) (omega arith) (opposite-no_difference r)

-- so there are as many vectors above the middle as below it
pub half-half : (l : List ActiveAxis) → PositiveExtents (lengths l) → 2 * middle l + 1 ≡ product (widths l)
unfolding middle
half-half l h = omega (arith, opposite-place l (no_difference-within l h), ap (λ (z : List ℕ). place (widths l) z) (opposite-no_difference l))

-- digits on the two axes that bring the sum t to the goal
pub record Solves (a b : ActiveAxis) (t goal : ℕ) : Type 0 where
  pub u : ℕ
  pub v : ℕ
  pub uu : u < 2 * a.extent - 1
  pub vv : v < 2 * b.extent - 1
  pub sum : u * a.stride + (v * b.stride + t) ≡ goal

-- a vector of the others above the middle that the two axes make up for
pub record Found (a b : ActiveAxis) (r : List ActiveAxis) : Type 0 where
  pub k : ℕ
  pub high : middle r < k
  pub low : k < product (widths r)
  pub solves : Solves a b (reach r (index_at (widths r) k)) (span_sum (a ∷ b ∷ r))

-- with it some differences of all axes sum to 0
pub found-zero : (a b : ActiveAxis) (r : List ActiveAxis) → PositiveExtents (lengths r) → Found a b r → ZeroDifference (a ∷ b ∷ r)
unfolding reach middle
found-zero a b r h f = record {
  d = f.solves.u ∷ f.solves.v ∷ index_at (widths r) f.k;
  box = ◌and◌ f.solves.uu (◌and◌ f.solves.vv (index_at-within (widths-positive r h) f.k f.low));
  some = λ e. let q : index_at (widths r) f.k ≡ no_difference r = cc in
      omega (arith, f.high, sym (place-index_at (widths-positive r h) f.k f.low) ∙ ap (λ (z : List ℕ). place (widths r) z) q);
  sum = f.solves.sum;
}

-- differences of the two alone are differences of all axes
pub two-zero : (a b : ActiveAxis) (r : List ActiveAxis) → PositiveExtents (lengths r) → ZeroDifference (a ∷ b ∷ []) → ZeroDifference (a ∷ b ∷ r)
unfolding reach span_sum
two-zero a b r h z = go z.d z.box z.some z.sum
  where
    go : (d : List ℕ) → IndexVector (widths (a ∷ b ∷ [])) d → d ≢ no_difference (a ∷ b ∷ []) → reach (a ∷ b ∷ []) d ≡ span_sum (a ∷ b ∷ []) → ZeroDifference (a ∷ b ∷ r)
    go _ (◌and◌ {i = u} hu (◌and◌ {i = v} hv empty)) ne e = record {
      d = u ∷ v ∷ no_difference r;
      box = ◌and◌ hu (◌and◌ hv (no_difference-within r h));
      some = λ q. let qu : u ≡ a.extent - 1 = cc in let qv : v ≡ b.extent - 1 = cc in ne (ap₂ (λ (x y : ℕ). x ∷ y ∷ []) qu qv);
      sum = omega (arith, e, no_difference-reach r);
    }

-- and there are no others: differences of all axes sum to 0 on the two alone, or stand above the middle, or their opposites do
pub zero-split : (a b : ActiveAxis) (r : List ActiveAxis) → PositiveExtents (lengths r) → ZeroDifference (a ∷ b ∷ r) → ZeroDifference (a ∷ b ∷ []) ⊎ Found a b r
unfolding reach span_sum middle opposite
zero-split a b r h z = go z.d z.box z.some z.sum
  where
    go : (d : List ℕ) → IndexVector (widths (a ∷ b ∷ r)) d → d ≢ no_difference (a ∷ b ∷ r) → reach (a ∷ b ∷ r) d ≡ span_sum (a ∷ b ∷ r) → ZeroDifference (a ∷ b ∷ []) ⊎ Found a b r
    go _ (◌and◌ {i = u} hu (◌and◌ {i = v} {is = d} hv bd)) ne e = pick (dec_lt (middle r) (place (widths r) d)) (dec_lt (place (widths r) d) (middle r))
      where
        pick : Dec (middle r < place (widths r) d) → Dec (place (widths r) d < middle r) → ZeroDifference (a ∷ b ∷ []) ⊎ Found a b r
        pick (yes p) q = inr (record {
          k = place (widths r) d;
          high = p;
          low = place-lt bd;
          solves = record { u = u; v = v; uu = hu; vv = hv; sum = rw (index_at-place bd) e };
        })
        pick (no p) (yes q) = inr (record {
          k = place (widths r) (opposite r d);
          high = omega (arith, q, opposite-place r bd, half-half r h);
          low = place-lt (opposite-within r bd);
          solves = record {
            u = 2 * a.extent - 2 - u;
            v = 2 * b.extent - 2 - v;
            uu = omega arith;
            vv = omega arith;
            sum = rw (index_at-place (opposite-within r bd)) (omega (arith, e, opposite-reach (a ∷ b ∷ r) (◌and◌ hu (◌and◌ hv bd))));
          };
        })
        pick (no p) (no q) =
            let m : d ≡ no_difference r = place-inj bd (no_difference-within r h) (omega arith) in
            inl (record {
              d = u ∷ v ∷ [];
              box = ◌and◌ hu (◌and◌ hv empty);
              some = λ w. let qu : u ≡ a.extent - 1 = cc in let qv : v ≡ b.extent - 1 = cc in
                  ne (λ i. qu i ∷ qv i ∷ m i);
              sum = omega (arith, e, ap (λ (x : List ℕ). reach r x) m, no_difference-reach r);
            })
