-- Sums over a list of numbers, and over a range of them.
use Rattle.std.specs.List.{range_with_len}
use Rattle.std.specs.Prelude.{if◌then◌else◌, filter}
use mathlib.Core.Path.{◌≡◌, refl, sym, ap, ap₂, subst, ◌∙◌}
use mathlib.Core.Bool.{Bool, true, false}
use mathlib.Core.List.{List, [], ◌∷◌}
use Prim.Native.Nat.{ℕ, zero, suc, ◌+◌, ◌*◌, ◌<◌, ◌≤◌}
use native.Mathlib.Decide.{ℕ_discrete}
use native.Mathlib.Omega.{arith}
use lib.Dec.{T}
use Rattle.std.proofs.lemmas.Int.{ints}

-- the sum of f over the entries
unfoldable pub sum_of : (ℕ → ℕ) → List ℕ → ℕ
sum_of f [] = 0
sum_of f (a ∷ r) = f a + sum_of f r

pub sum-ext : (f g : ℕ → ℕ) (l : List ℕ) → ((a : ℕ) → f a ≡ g a) → sum_of f l ≡ sum_of g l
unfolding sum_of
sum-ext f g l e = grind (arith, ints)

pub sum-zero : (l : List ℕ) → sum_of (λ a. 0) l ≡ 0
unfolding sum_of
sum-zero [] = refl
sum-zero (a ∷ r) = omega (arith, sum-zero r)

sum-add : (f g : ℕ → ℕ) (l : List ℕ) → sum_of (λ a. f a + g a) l ≡ sum_of f l + sum_of g l
unfolding sum_of
sum-add f g [] = refl
sum-add f g (a ∷ r) = omega (arith, sum-add f g r)

pub sum-times : (c : ℕ) (f : ℕ → ℕ) (l : List ℕ) → sum_of (λ a. c * f a) l ≡ c * sum_of f l
unfolding sum_of
sum-times c f [] = omega arith
sum-times c f (a ∷ r) = omega (arith, sum-times c f r)

pub sum-swap : (h : ℕ → ℕ → ℕ) (l m : List ℕ) → sum_of (λ k. sum_of (h k) m) l ≡ sum_of (λ a. sum_of (λ k. h k a) l) m
unfolding sum_of
sum-swap h [] m = sym (sum-zero m)
sum-swap h (k ∷ r) m = ap (λ (z : ℕ). sum_of (h k) m + z) (sum-swap h r m) ∙ sym (sum-add (h k) (λ a. sum_of (λ k'. h k' a) r) m)

pub sum-filter : (test : ℕ → Bool) (f : ℕ → ℕ) (l : List ℕ) → sum_of f (filter test l) ≡ sum_of (λ a. if test a then f a else 0) l
unfolding sum_of
sum-filter test f [] = refl
sum-filter test f (a ∷ r) = go (test a) (sum-filter test f r)
  where
    go : (t : Bool) → sum_of f (filter test r) ≡ sum_of (λ a. if test a then f a else 0) r → sum_of f (if t then a ∷ filter test r else filter test r) ≡ (if t then f a else 0) + sum_of (λ a. if test a then f a else 0) r
    go true e = omega (arith, e)
    go false e = omega (arith, e)

-- one number of a range passes
sum-none : (test : ℕ → Bool) (c i n : ℕ) → ((k : ℕ) → i ≤ k → k < i + n → test k ≡ false) → sum_of (λ k. if test k then c else 0) (range_with_len i n) ≡ 0
unfolding sum_of
sum-none test c i zero f = refl
sum-none test c i (suc n) f = go (test i) (f i (omega arith) (omega arith)) (sum-none test c (i + 1) n (λ k h l. f k (omega arith) (omega arith)))
  where
    go : (t : Bool) → t ≡ false → sum_of (λ k. if test k then c else 0) (range_with_len (i + 1) n) ≡ 0 → (if t then c else 0) + sum_of (λ k. if test k then c else 0) (range_with_len (i + 1) n) ≡ 0
    go true e z = absurd (subst T e tt)
    go false e z = omega (arith, z)

pub sum_one : (test : ℕ → Bool) (c p i n : ℕ) → i ≤ p → p < i + n → test p ≡ true → ((k : ℕ) → i ≤ k → k < i + n → test k ≡ true → k ≡ p) → sum_of (λ k. if test k then c else 0) (range_with_len i n) ≡ c
unfolding sum_of
sum_one test c p i zero h l e f = absurd (omega arith)
sum_one test c p i (suc n) h l e f = go (ℕ_discrete i p) (λ q. sum_one test c p (i + 1) n q (omega arith) e (λ k a b. f k (omega arith) (omega arith)))
  where
    off : (k : ℕ) → i ≤ k → k < suc (i + n) → ¬ (k ≡ p) → test k ≡ false
    off k a b ne = pick (test k) (f k a (omega arith))
      where
        pick : (t : Bool) → (t ≡ true → k ≡ p) → t ≡ false
        pick true q = absurd (ne (q refl))
        pick false q = refl

    here : (t : Bool) → t ≡ true → sum_of (λ k. if test k then c else 0) (range_with_len (i + 1) n) ≡ 0 → (if t then c else 0) + sum_of (λ k. if test k then c else 0) (range_with_len (i + 1) n) ≡ c
    here true q z = omega (arith, z)
    here false q z = absurd (subst T (sym q) tt)

    there : (t : Bool) → t ≡ false → sum_of (λ k. if test k then c else 0) (range_with_len (i + 1) n) ≡ c → (if t then c else 0) + sum_of (λ k. if test k then c else 0) (range_with_len (i + 1) n) ≡ c
    there true q z = absurd (subst T q tt)
    there false q z = omega (arith, z)

    go : Dec (i ≡ p) → (i + 1 ≤ p → sum_of (λ k. if test k then c else 0) (range_with_len (i + 1) n) ≡ c) → (if test i then c else 0) + sum_of (λ k. if test k then c else 0) (range_with_len (i + 1) n) ≡ c
    go (yes q) ih = here (test i) (rw q e) (sum-none test c (i + 1) n (λ k a b. off k (omega arith) (omega arith) (λ z. omega arith)))
    go (no q) ih = there (test i) (off i (omega arith) (omega arith) q) (ih (omega arith))

pub sum-range : (f g : ℕ → ℕ) (i n : ℕ) → ((a : ℕ) → i ≤ a → a < i + n → f a ≡ g a) → sum_of f (range_with_len i n) ≡ sum_of g (range_with_len i n)
unfolding sum_of
sum-range f g i zero e = refl
sum-range f g i (suc n) e = ap₂ (λ (x y : ℕ). x + y) (e i (omega arith) (omega arith)) (sum-range f g (i + 1) n (λ a h l. e a (omega arith) (omega arith)))
