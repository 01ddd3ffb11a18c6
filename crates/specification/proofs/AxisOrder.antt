-- The order of axes does not matter to which sums there are: for each list in another order, index vectors are carried over one by one with their sums (`Carry`).
use mathlib.Core.Path.{◌≡◌, refl, sym, ap, ap₂, ◌∙◌}
use mathlib.Core.List.{List, [], ◌∷◌}
use Prim.Native.Nat.{ℕ, ◌+◌, ◌*◌}
use native.Mathlib.Omega.{arith}
use Rattle.specification.specs.Search.{ActiveAxis, lengths, reach}
use Rattle.specification.proofs.Positions.{IndexVector, ◌and◌}
use Rattle.specification.proofs.AbsoluteStrides.{SumsApart}

-- each index vector of l goes to one of m with the same sum, and different ones to different ones
pub record Carry (l m : List ActiveAxis) : Type 0 where
  pub to : List ℕ → List ℕ
  pub box : (x : List ℕ) → IndexVector (lengths l) x → IndexVector (lengths m) (to x)
  pub same : (x : List ℕ) → IndexVector (lengths l) x → reach m (to x) ≡ reach l x
  pub inj : (x y : List ℕ) → IndexVector (lengths l) x → IndexVector (lengths l) y → to x ≡ to y → x ≡ y

-- so l tells its vectors apart if m does
pub carry : {l m : List ActiveAxis} → Carry l m → SumsApart m → SumsApart l
carry c f x y bx by e = c.inj x y bx by (f (c.to x) (c.to y) (c.box x bx) (c.box y by) (c.same x bx ∙ e ∙ sym (c.same y by)))

-- m is l in another order: neighbours are swapped, any number of times
pub data Perm : List ActiveAxis → List ActiveAxis → Type 0 where
  nil : Perm [] []
  skip : {a : ActiveAxis} {l m : List ActiveAxis} → Perm l m → Perm (a ∷ l) (a ∷ m)
  swap : {a b : ActiveAxis} {l : List ActiveAxis} → Perm (a ∷ b ∷ l) (b ∷ a ∷ l)
  trans : {l m q : List ActiveAxis} → Perm l m → Perm m q → Perm l q

-- and l is m in another order
pub perm-sym : {l m : List ActiveAxis} → Perm l m → Perm m l
perm-sym nil = nil
perm-sym (skip p) = skip (perm-sym p)
perm-sym swap = swap
perm-sym (trans p q) = trans (perm-sym q) (perm-sym p)

-- ---- carrying over

-- the first index stays
on_tail : (List ℕ → List ℕ) → List ℕ → List ℕ
on_tail f [] = []
on_tail f (i ∷ x) = i ∷ f x

-- one more axis in front of both
pub carry-skip : {a : ActiveAxis} {l m : List ActiveAxis} → Carry l m → Carry (a ∷ l) (a ∷ m)
unfolding on_tail reach
carry-skip {a} {l} {m} c = record { to = on_tail c.to; box = within; same = same_sum; inj = injective }
  where
    within : (x : List ℕ) → IndexVector (a.extent ∷ lengths l) x → IndexVector (a.extent ∷ lengths m) (on_tail c.to x)
    within _ (◌and◌ {is = x} h b) = ◌and◌ h (c.box x b)

    same_sum : (x : List ℕ) → IndexVector (a.extent ∷ lengths l) x → reach (a ∷ m) (on_tail c.to x) ≡ reach (a ∷ l) x
    same_sum _ (◌and◌ {i = i} {is = x} h b) = ap (λ (z : ℕ). i * a.stride + z) (c.same x b)

    injective : (x y : List ℕ) → IndexVector (a.extent ∷ lengths l) x → IndexVector (a.extent ∷ lengths l) y → on_tail c.to x ≡ on_tail c.to y → x ≡ y
    injective _ _ (◌and◌ {i = i} {is = x} h b) (◌and◌ {i = j} {is = y} k d) e =
        let eij : i ≡ j = cc in let exy : c.to x ≡ c.to y = cc in
        ap₂ (λ (u : ℕ) (v : List ℕ). u ∷ v) eij (c.inj x y b d exy)

-- the first two indices swapped
swap_two : List ℕ → List ℕ
swap_two [] = []
swap_two (i ∷ []) = i ∷ []
swap_two (i ∷ j ∷ x) = j ∷ i ∷ x

-- swapped twice they are as before
swap_two-twice : (x : List ℕ) → swap_two (swap_two x) ≡ x
unfolding swap_two
swap_two-twice [] = refl
swap_two-twice (i ∷ []) = refl
swap_two-twice (i ∷ j ∷ x) = refl

-- the first two axes swapped
carry-swap : (a b : ActiveAxis) (l : List ActiveAxis) → Carry (a ∷ b ∷ l) (b ∷ a ∷ l)
unfolding swap_two reach
carry-swap a b l = record { to = swap_two; box = within; same = same_sum; inj = λ x y bx by e. sym (swap_two-twice x) ∙ ap swap_two e ∙ swap_two-twice y }
  where
    within : (x : List ℕ) → IndexVector (a.extent ∷ b.extent ∷ lengths l) x → IndexVector (b.extent ∷ a.extent ∷ lengths l) (swap_two x)
    within _ (◌and◌ h (◌and◌ k d)) = ◌and◌ k (◌and◌ h d)

    same_sum : (x : List ℕ) → IndexVector (a.extent ∷ b.extent ∷ lengths l) x → reach (b ∷ a ∷ l) (swap_two x) ≡ reach (a ∷ b ∷ l) x
    same_sum _ (◌and◌ h (◌and◌ k d)) = omega arith

-- one after another
pub carry-trans : {l m q : List ActiveAxis} → Carry l m → Carry m q → Carry l q
carry-trans c d = record {
  to = λ x. d.to (c.to x);
  box = λ x b. d.box (c.to x) (c.box x b);
  same = λ x b. d.same (c.to x) (c.box x b) ∙ c.same x b;
  inj = λ x y bx by e. c.inj x y bx by (d.inj (c.to x) (c.to y) (c.box x bx) (c.box y by) e);
}

-- any order
pub carry-perm : {l m : List ActiveAxis} → Perm l m → Carry l m
carry-perm nil = record { to = λ x. x; box = λ x b. b; same = λ x b. refl; inj = λ x y b d e. e }
carry-perm (skip p) = carry-skip (carry-perm p)
carry-perm (swap {a} {b} {l}) = carry-swap a b l
carry-perm (trans p r) = carry-trans (carry-perm p) (carry-perm r)

-- axes tell their vectors apart in one order if they do in another
pub apart-of-perm : {l m : List ActiveAxis} → Perm l m → SumsApart m → SumsApart l
apart-of-perm p f = carry (carry-perm p) f
