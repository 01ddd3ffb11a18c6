-- An order of all axes without repetition has the sum of all: each entry takes its number out of what is left.
use Rattle.std.specs.List.{list_any, range_with_len}
use Rattle.std.specs.Prelude.{if◌then◌else◌}
use mathlib.Core.Path.{◌≡◌, refl, sym, ap, ap₂, subst, ◌∙◌}
use mathlib.Core.Bool.{Bool, true, false, ◌||◌}
use mathlib.Core.List.{List, [], ◌∷◌, ◌++◌, append-nil, append_assoc}
use Prim.Native.Nat.{ℕ, zero, suc, ◌+◌, ◌<◌, ◌≤◌}
use native.Mathlib.Decide.{ℕ_discrete}
use native.Mathlib.Omega.{arith}
use lib.Dec.{T, eqb, leb}
use lib.ListN.{length}
use borrow.Author.Tests.{leb-false, eq-eqb, ne_eqb}
use Rattle.specification.specs.Outcome.{pass}
use Rattle.specification.specs.Views.{order_fault}
use Rattle.specification.proofs.OutcomeLaws.{passed}
use Rattle.specification.proofs.Sums.{sum_of}
use Rattle.specification.proofs.TestLaws.{true-not-false, or-of-false, or-true}

-- the sum over n numbers from k on that are not among those before
unfoldable pub left : (ℕ → ℕ) → List ℕ → ℕ → ℕ → ℕ
left f before k zero = 0
left f before k (suc n) = (if list_any (eqb k) before then 0 else f k) + left f before (suc k) n

among-more : (x a : ℕ) (before : List ℕ) → list_any (eqb x) (before ++ (a ∷ [])) ≡ (list_any (eqb x) before || eqb x a)
among-more x a [] = or-of-false (eqb x a)
among-more x a (b ∷ r) = go (eqb x b) (among-more x a r)
  where
    go : (t : Bool) → list_any (eqb x) (r ++ (a ∷ [])) ≡ (list_any (eqb x) r || eqb x a) → (t || list_any (eqb x) (r ++ (a ∷ []))) ≡ ((t || list_any (eqb x) r) || eqb x a)
    go true e = refl
    go false e = e

among-other : (x a : ℕ) (before : List ℕ) → ¬ (x ≡ a) → list_any (eqb x) (before ++ (a ∷ [])) ≡ list_any (eqb x) before
among-other x a before n = among-more x a before ∙ ap (λ (t : Bool). list_any (eqb x) before || t) (ne_eqb x a n) ∙ or-of-false (list_any (eqb x) before)

among_self : (a : ℕ) (before : List ℕ) → list_any (eqb a) (before ++ (a ∷ [])) ≡ true
among_self a before = among-more a a before ∙ ap (λ (t : Bool). list_any (eqb a) before || t) (eq-eqb a a refl) ∙ or-true (list_any (eqb a) before)

left-above : (f : ℕ → ℕ) (before : List ℕ) (a k n : ℕ) → a < k → left f (before ++ (a ∷ [])) k n ≡ left f before k n
unfolding left
left-above f before a k zero h = refl
left-above f before a k (suc n) h =
    ap₂ (λ (t : Bool) (z : ℕ). (if t then 0 else f k) + z) (among-other k a before (λ e. omega arith)) (left-above f before a (suc k) n (omega arith))

left-take : (f : ℕ → ℕ) (before : List ℕ) (a k n : ℕ) → k ≤ a → a < k + n → list_any (eqb a) before ≡ false → left f before k n ≡ f a + left f (before ++ (a ∷ [])) k n
unfolding left
left-take f before a k zero h l m = absurd (omega arith)
left-take f before a k (suc n) h l m = go (ℕ_discrete k a) (λ p. left-take f before a (suc k) n p (omega arith) m)
  where
    go : Dec (k ≡ a) → (suc k ≤ a → left f before (suc k) n ≡ f a + left f (before ++ (a ∷ [])) (suc k) n)
        → (if list_any (eqb k) before then 0 else f k) + left f before (suc k) n ≡ f a + ((if list_any (eqb k) (before ++ (a ∷ [])) then 0 else f k) + left f (before ++ (a ∷ [])) (suc k) n)
    go (yes e) ih = subst (λ (z : ℕ). (if list_any (eqb z) before then 0 else f z) + left f before (suc k) n ≡ f a + ((if list_any (eqb z) (before ++ (a ∷ [])) then 0 else f z) + left f (before ++ (a ∷ [])) (suc k) n)) (sym e)
        (here (list_any (eqb a) before) (list_any (eqb a) (before ++ (a ∷ []))) m (among_self a before) (left-above f before a (suc k) n (omega arith)))
      where
        here : (t u : Bool) → t ≡ false → u ≡ true → left f (before ++ (a ∷ [])) (suc k) n ≡ left f before (suc k) n
            → (if t then 0 else f a) + left f before (suc k) n ≡ f a + ((if u then 0 else f a) + left f (before ++ (a ∷ [])) (suc k) n)
        here true u p q r = absurd (subst T p tt)
        here false false p q r = absurd (true-not-false q refl)
        here false true p q r = omega (arith, r)
    go (no e) ih =
        ap₂ (λ (t : Bool) (z : ℕ). (if t then 0 else f k) + z) (sym (among-other k a before e)) (ih (omega arith))
        ∙ swap-sum (if list_any (eqb k) (before ++ (a ∷ [])) then 0 else f k) (f a) (left f (before ++ (a ∷ [])) (suc k) n)
      where
        swap-sum : (x y z : ℕ) → x + (y + z) ≡ y + (x + z)
        swap-sum x y z = omega arith

order-sum : (f : ℕ → ℕ) (n : ℕ) (before order : List ℕ) → order_fault n before order ≡ pass → sum_of f order + left f (before ++ order) 0 n ≡ left f before 0 n
unfolding order_fault sum_of
order-sum f n before [] e = omega (arith, ap (λ (b : List ℕ). left f b 0 n) (append-nil before))
order-sum f n before (a ∷ rest) e =
    let p = passed (leb n a) 5 (a ∷ n ∷ []) e in
    let q = passed (list_any (eqb a) before) 5 (a ∷ n ∷ []) p.1 in
    let ih = order-sum f n (before ++ (a ∷ [])) rest q.1 in
    let s : left f ((before ++ (a ∷ [])) ++ rest) 0 n ≡ left f (before ++ (a ∷ rest)) 0 n = ap (λ (b : List ℕ). left f b 0 n) (append_assoc before (a ∷ []) rest) in
    let t = left-take f before a 0 n (omega arith) (omega (arith, leb-false n a p.0)) q.0 in
    omega (arith, ih, s, t)

left-none : (f : ℕ → ℕ) (before : List ℕ) (k n : ℕ) → left (λ i. 1) before k n ≡ 0 → left f before k n ≡ 0
unfolding left
left-none f before k zero e = refl
left-none f before k (suc n) e = go (list_any (eqb k) before) e (left-none f before (suc k) n)
  where
    go : (t : Bool) → (if t then 0 else 1) + left (λ i. 1) before (suc k) n ≡ 0 → (left (λ i. 1) before (suc k) n ≡ 0 → left f before (suc k) n ≡ 0) → (if t then 0 else f k) + left f before (suc k) n ≡ 0
    go true e ih = omega (arith, ih (omega arith))
    go false e ih = absurd (omega arith)

sum_ones : (order : List ℕ) → sum_of (λ i. 1) order ≡ length order
unfolding sum_of
sum_ones [] = refl
sum_ones (a ∷ r) = omega (arith, sum_ones r)

left-ones : (k n : ℕ) → left (λ i. 1) [] k n ≡ n
unfolding left
left-ones k zero = refl
left-ones k (suc n) = omega (arith, left-ones (suc k) n)

-- an order of all axes without repetition has the sum of all
pub whole_sum : (f : ℕ → ℕ) (order : List ℕ) (n : ℕ) → length order ≡ n → order_fault n [] order ≡ pass → sum_of f order ≡ left f [] 0 n
whole_sum f order n h e =
    let z : left (λ i. 1) order 0 n ≡ 0 = omega (arith, order-sum (λ i. 1) n [] order e, sum_ones order, left-ones 0 n) in
    omega (arith, order-sum f n [] order e, left-none f order 0 n z)

-- with nothing before, it is the sum over the range
pub left-sum : (f : ℕ → ℕ) (i n : ℕ) → left f [] i n ≡ sum_of f (range_with_len i n)
unfolding left sum_of
left-sum f i zero = refl
left-sum f i (suc n) = ap (λ (z : ℕ). f i + z) (subst (λ (m : ℕ). left f [] (suc i) n ≡ sum_of f (range_with_len m n)) (omega arith) (left-sum f (suc i) n))

pub left-shift : (f : ℕ → ℕ) (k n : ℕ) → left f [] (suc k) n ≡ left (λ i. f (suc i)) [] k n
unfolding left
left-shift f k zero = refl
left-shift f k (suc n) = ap (λ (z : ℕ). f (suc k) + z) (left-shift f (suc k) n)
