-- Positions and index vectors over a list of extents: position k and the vector of its digits, axis 0 the lowest, determine each other.
-- The other files take their facts on index vectors from here.
use mathlib.Core.Path.{◌≡◌, refl, sym, ap, ap₂, ◌∙◌}
use mathlib.Core.List.{List, [], ◌∷◌}
use Prim.Native.Nat.{ℕ, ◌+◌, ◌*◌, ◌/◌, ◌%◌, ◌<◌}
use native.Mathlib.Nat.{mod-lt, mod-add-div, div-lt_iff_lt-mul, add-mul-mod_self_left, add-mul-div_left, mod-eq_of_lt, div-eq_of_lt, mul_comm, mul-le-mul_left, zero-add, mul-pos}
use native.Mathlib.Omega.{arith}
use lib.Arith.{lt-one}
use Rattle.specification.specs.Axis.{index_at, product}

-- no extent is 0
pub data PositiveExtents : List ℕ → Type 0 where
  none : PositiveExtents []
  more : {e : ℕ} {es : List ℕ} → 0 < e → PositiveExtents es → PositiveExtents (e ∷ es)

-- an index vector: each index below its extent
pub data IndexVector : List ℕ → List ℕ → Type 0 where
  empty : IndexVector [] []
  ◌and◌ : {e i : ℕ} {es is : List ℕ} → i < e → IndexVector es is → IndexVector (e ∷ es) (i ∷ is)

-- the position of an index vector
unfoldable pub place : List ℕ → List ℕ → ℕ
place [] x = 0
place (e ∷ es) [] = 0
place (e ∷ es) (i ∷ x) = i + e * place es x

-- there is a position
pub product-positive : {es : List ℕ} → PositiveExtents es → 0 < product es
unfolding product
product-positive none = omega arith
product-positive (more h t) = mul-pos h (product-positive t)

-- what the lowest digit leaves of a position is a position of the other extents
pub quotient-below : (k n c : ℕ) → 0 < n → k < n * c → k / n < c
quotient-below k n c h l = (div-lt_iff_lt-mul h).1 (rw (← mul_comm n c) l)

-- the digits of a position are an index vector
pub index_at-within : {es : List ℕ} → PositiveExtents es → (k : ℕ) → k < product es → IndexVector es (index_at es k)
unfolding index_at product
index_at-within none k h = empty
index_at-within (more {e} {es} p t) k h = ◌and◌ (mod-lt k p) (index_at-within t (k / e) (quotient-below k e (product es) p h))

-- its position is the one that it came from
pub place-index_at : {es : List ℕ} → PositiveExtents es → (k : ℕ) → k < product es → place es (index_at es k) ≡ k
unfolding index_at product place
place-index_at none k h = sym (lt-one h)
place-index_at (more {e} {es} p t) k h = ap (λ (z : ℕ). k % e + e * z) (place-index_at t (k / e) (quotient-below k e (product es) p h)) ∙ mod-add-div k e

-- the position of an index vector has that vector for its digits
pub index_at-place : {es x : List ℕ} → IndexVector es x → index_at es (place es x) ≡ x
unfolding index_at place
index_at-place empty = refl
index_at-place (◌and◌ {e = e} {i = i} {es = es} {is = x} h b) =
    ap₂ (λ (y : ℕ) (z : List ℕ). y ∷ z)
    (add-mul-mod_self_left i e (place es x) ∙ mod-eq_of_lt h)
    (ap (λ (z : ℕ). index_at es z) (add-mul-div_left i (place es x) (omega arith) ∙ ap (λ (z : ℕ). z + place es x) (div-eq_of_lt h) ∙ zero-add (place es x))
    ∙ index_at-place b)

-- and is a position
pub place-lt : {es x : List ℕ} → IndexVector es x → place es x < product es
unfolding place product
place-lt empty = omega arith
place-lt (◌and◌ {e = e} h b) = omega (arith, mul-le-mul_left e (place-lt b))

-- two index vectors at one position are equal
pub place-inj : {es x y : List ℕ} → IndexVector es x → IndexVector es y → place es x ≡ place es y → x ≡ y
place-inj {es} bx by e = sym (index_at-place bx) ∙ ap (λ (z : ℕ). index_at es z) e ∙ index_at-place by
