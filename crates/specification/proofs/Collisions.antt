-- Two index vectors of one sum, and what they come to: found on the block they are two positions of one offset, and if none are there all positions are distinct.
-- Beside it the search both ways, and the axes that no search needs: of extent 1, and of stride 0.
use mathlib.Core.Path.{◌≡◌, sym, ap, ap₂, ◌∙◌}
use mathlib.Core.Logic.{◌⊎◌, inl, inr}
use Prim.Native.Nat.{ℕ, ◌*◌, ◌<◌}
use mathlib.Core.List.{List, [], ◌∷◌}
use native.Mathlib.Omega.{arith}
use native.Mathlib.Decide.{ℕ_discrete}
use Rattle.specification.proofs.NormalAxes.{AllPositive}
use Rattle.specification.proofs.Positions.{IndexVector, ◌and◌, place, sum-at-place, place-lt, Distinct, apart_distinct}
use Rattle.specification.proofs.AbsoluteStrides.{absolute, lengths-absolute, turned, turned-within, turned-turned, offset-reach, SumsApart, apart-of-sums}
use Rattle.specification.proofs.Digits.{place-inj, PositiveExtents}
use Rattle.specification.proofs.Differences.{EqualSums, ZeroDifference, pair-zero, zero-pair}
use Rattle.specification.proofs.AxisOrder.{Carry}
use Rattle.specification.proofs.DifferenceWalk.{Found, found-zero, zero-split}
use Rattle.integer.proofs.PartLaws.{parts-ext}
use Rattle.specification.specs.Axis.{Axis, SharesOffset, extents, offset_sum}
use Rattle.specification.specs.Search.{ActiveAxis, lengths, reach}
use Rattle.std.proofs.lemmas.Int.{ints}

-- no two vectors of one sum: sums tell vectors apart
pub no-pair : (l : List ActiveAxis) → ¬ (EqualSums l) → SumsApart l
no-pair l f x y bx by e = go (ℕ_discrete (place (lengths l) x) (place (lengths l) y))
  where
    go : Dec (place (lengths l) x ≡ place (lengths l) y) → x ≡ y
    go (yes p) = place-inj bx by p
    go (no p) = absurd (f (record { x = x; y = y; bx = bx; by = by; other = λ q. p (ap (λ (z : List ℕ). place (lengths l) z) q); same = e }))

-- two vectors of one sum carried over to other axes
pub pair-carry : {l m : List ActiveAxis} → Carry l m → EqualSums l → EqualSums m
pair-carry c p = grind (arith, ints)

-- vectors of one sum over absolute strides, turned, are positions of one offset
pub pair-shared : (l : List Axis) → EqualSums (absolute 0 l) → SharesOffset l
pair-shared l p =
    let wx : IndexVector (extents l) p.x = rw (lengths-absolute 0 l) at p.bx in
    let wy : IndexVector (extents l) p.y = rw (lengths-absolute 0 l) at p.by in
    let px = turned-within l wx in
    let py = turned-within l wy in
    let tx = turned-turned l wx in
    let ty = turned-turned l wy in
    record {
      one = place (extents l) (turned l p.x);
      other = place (extents l) (turned l p.y);
      one_is = place-lt l px;
      other_is = place-lt l py;
      different = λ e. p.other (sym tx ∙ ap (λ (z : List ℕ). turned l z) (place-inj px py e) ∙ ty);
      same = sum-at-place l px ∙ parts-ext {x = offset_sum l (turned l p.x)} {y = offset_sum l (turned l p.y)} (omega (arith, offset-reach 0 l px, offset-reach 0 l py, ap (λ (z : List ℕ). reach (absolute 0 l) z) tx, ap (λ (z : List ℕ). reach (absolute 0 l) z) ty, p.same)) ∙ sym (sum-at-place l py);
    }

-- vectors told apart over absolute strides are positions told apart
pub apart-positions : (l : List Axis) → AllPositive l → SumsApart (absolute 0 l) → Distinct l
apart-positions l h f = apart_distinct h (apart-of-sums 0 l f)

-- ---- the search, both ways

-- nothing found: sums tell vectors apart
pub search_no : (a b : ActiveAxis) (r : List ActiveAxis) → PositiveExtents (lengths r) → ¬ (ZeroDifference (a ∷ b ∷ [])) → ¬ (Found a b r) → SumsApart (a ∷ b ∷ r)
search_no a b r h f g = no-pair (a ∷ b ∷ r) (λ p. go (zero-split a b r h (pair-zero (a ∷ b ∷ r) p)))
  where
    go : ZeroDifference (a ∷ b ∷ []) ⊎ Found a b r → ⊥
    go (inl z) = f z
    go (inr w) = g w

-- a vector found: two vectors of one sum
pub search-yes : (a b : ActiveAxis) (r : List ActiveAxis) → PositiveExtents (lengths r) → Found a b r → EqualSums (a ∷ b ∷ r)
search-yes a b r h w = zero-pair (a ∷ b ∷ r) (found-zero a b r h w)

-- ---- axes that no search needs

-- an axis of extent 1 counts for nothing: its index is 0
pub single : (a : ActiveAxis) (r : List ActiveAxis) → a.extent ≡ 1 → Carry (a ∷ r) r
unfolding reach
single a r e = record { to = tail; box = within; same = same_sum; inj = injective }
  where
    tail : List ℕ → List ℕ
    tail [] = []
    tail (i ∷ x) = x

    within : (x : List ℕ) → IndexVector (a.extent ∷ lengths r) x → IndexVector (lengths r) (tail x)
    within _ (◌and◌ h b) = b

    same_sum : (x : List ℕ) → IndexVector (a.extent ∷ lengths r) x → reach r (tail x) ≡ reach (a ∷ r) x
    same_sum _ (◌and◌ {i = i} {is = x} h b) = let z : i ≡ 0 = omega arith in omega (arith, ap (λ (w : ℕ). w * a.stride) z)

    injective : (x y : List ℕ) → IndexVector (a.extent ∷ lengths r) x → IndexVector (a.extent ∷ lengths r) y → tail x ≡ tail y → x ≡ y
    injective _ _ (◌and◌ {i = i} {is = x} h b) (◌and◌ {i = j} {is = y} k d) q = ap₂ (λ (u : ℕ) (v : List ℕ). u ∷ v) (omega arith) q

-- and may be put in front
pub single-back : (a : ActiveAxis) (r : List ActiveAxis) → a.extent ≡ 1 → Carry r (a ∷ r)
unfolding reach
single-back a r e = record { to = λ x. 0 ∷ x; box = λ x b. let z : 0 < a.extent = omega arith in ◌and◌ z b; same = λ x b. omega arith; inj = λ x y bx by q. cc }

-- an active axis of stride 0: two indices of it have one sum
pub still : (a : ActiveAxis) (r : List ActiveAxis) {x : List ℕ} → IndexVector (lengths r) x → 1 < a.extent → a.stride ≡ 0 → EqualSums (a ∷ r)
unfolding reach
still a r {x} b h z =
    let h0 : 0 < a.extent = omega arith in
    record { x = 0 ∷ x; y = 1 ∷ x; bx = ◌and◌ h0 b; by = ◌and◌ h b; other = λ e. let q : ◌≡◌ {A = ℕ} 0 1 = cc in omega arith; same = omega arith }
