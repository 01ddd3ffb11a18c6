-- What diagonal_view does to the offset of an index vector whose tied axes have one index.
use Rattle.std.specs.List.{list_any, range_with_len}
use Rattle.std.specs.Prelude.{Option, Some, None, if◌then◌else◌, filter}
use mathlib.Core.Path.{◌≡◌, refl, sym, ap, subst, ◌∙◌}
use mathlib.Core.Bool.{Bool, true, false, not, ◌&&◌}
use mathlib.Core.List.{List, [], ◌∷◌, map}
use Prim.Native.Nat.{ℕ, zero, suc, ◌+◌, ◌*◌, ◌<◌, ◌≤◌}
use native.Mathlib.Decide.{dec_lt}
use native.Mathlib.Omega.{arith}
use lib.Dec.{T, ltb}
use lib.IntN.{ℤ, pos, ◌+ℤ◌}
use lib.ListN.{length, get_or}
use borrow.Author.Tests.{ltb-true, lt-ltb}
use Rattle.integer.specs.Parts.{positive_part, negative_part}
use Rattle.integer.proofs.MultipleLaws.{multiples}
use Rattle.specification.specs.Tests.{is_yes}
use Rattle.specification.specs.Axis.{offset_sum}
use Rattle.specification.specs.Outcome.{Check, pass, ◌>>◌}
use Rattle.specification.specs.Layout.{LayoutModel, rank, handed}
use Rattle.specification.specs.CheckIn.{bounds}
use Rattle.specification.specs.Tied.{IsTied, itself, turned, chain}
use Rattle.specification.specs.TiedDecided.{tied?}
use Rattle.specification.specs.Views.{with_axes, axis_at, pair_fault, class_of, kept, stride_sum, fused, diagonal_axes, sum_faults, diagonal_view}
use Rattle.specification.specs.Search.{first_of}
use Rattle.specification.specs.ViewClaims.{ViewClaims}
use Rattle.specification.proofs.OrderSums.{left-sum}
use Rattle.specification.proofs.SearchLaws.{First, first-of}
use Rattle.specification.proofs.Sums.{sum_of, sum-ext, sum-zero, sum-times, sum-swap, sum-filter, sum_one, sum-range}
use Rattle.specification.proofs.TestLaws.{true-not-false}
use Rattle.specification.proofs.ViewLaws.{permuted, stretched, weigh, parts, by-axis, settled}
use Rattle.std.proofs.lemmas.Int.{ints}

-- ---- some entry of a range that passes one test passes another

pub list_any-no : (f g : ℕ → Bool) (i n : ℕ) → ((x : ℕ) → i ≤ x → x < i + n → g x ≡ true → f x ≡ false) → list_any f (filter g (range_with_len i n)) ≡ false
list_any-no f g i zero h = refl
list_any-no f g i (suc n) h =
    let rest = list_any-no f g (i + 1) n (λ x a b. h x (omega arith) (omega arith)) in
    let here : g i ≡ true → f i ≡ false = h i (omega arith) (omega arith) in
    grind (arith, ints)

pub list_any-yes : (f g : ℕ → Bool) (i n x : ℕ) → i ≤ x → x < i + n → g x ≡ true → f x ≡ true → list_any f (filter g (range_with_len i n)) ≡ true
list_any-yes f g i zero x a b p q = absurd (omega arith)
list_any-yes f g i (suc n) x a b p q =
    let later : i + 1 ≤ x → list_any f (filter g (range_with_len (i + 1) n)) ≡ true = λ l. list_any-yes f g (i + 1) n x l (omega arith) p q in
    grind (arith, ints)

-- ---- each axis is in the class of exactly one axis that is kept

module _ (pairs : List (ℕ × ℕ)) (n : ℕ) where
  abbrev t : ℕ → ℕ → Bool
  t a b = is_yes (tied? pairs a b)

  abbrev q : ℕ → Bool
  q a = not (list_any (λ b. ltb b a) (class_of pairs n a))

  pub test-tied : (a b : ℕ) → t a b ≡ true → IsTied pairs a b
  test-tied a b e = grind (arith, ints)

  pub tied-test : (a b : ℕ) → IsTied pairs a b → t a b ≡ true
  tied-test a b p = grind (arith, ints)

  record Root (a : ℕ) : Type 0 where
    root : ℕ
    root-lt : root < n
    root_tied : IsTied pairs root a
    root_kept : q root ≡ true
    root-only : (k : ℕ) → k < n → IsTied pairs k a → q k ≡ true → k ≡ root

  root-of : (a : ℕ) → a < n → Root a
  unfolding class_of
  root-of a h = go (first_of (λ k. t k a) n 0) (first-of (λ k. t k a) n 0)
    where
      neg : {b : Bool} → b ≡ false → not b ≡ true
      neg e = rw e

      pos-neg : {b : Bool} → b ≡ true → not b ≡ false
      pos-neg e = rw e

      go : (o : Option ℕ) → First (λ k. t k a) n 0 o → Root a
      go None f = absurd (true-not-false (tied-test a a itself) (f a (omega arith) (omega arith)))
      go (Some p) f =
          let tp : IsTied pairs p a = test-tied p a f.2 in
          record {
            root = p;
            root-lt = omega (arith, f.1);
            root_tied = tp;
            root_kept = neg (list_any-no (λ b. ltb b p) (t p) 0 n (λ x i l e. low x (test-tied p x e) (ltb x p) refl));
            root-only = λ k l tk qk. only k l tk qk (dec_lt k p) (dec_lt p k);
          }
        where
          low : (x : ℕ) → IsTied pairs p x → (b : Bool) → ltb x p ≡ b → b ≡ false
          low x w false e = refl
          low x w true e = absurd (true-not-false (tied-test x a (chain (turned w) (test-tied p a f.2))) (f.3 x (omega arith) (ltb-true x p e)))

          only : (k : ℕ) → k < n → IsTied pairs k a → q k ≡ true → Dec (k < p) → Dec (p < k) → k ≡ p
          only k l tk qk (yes lt) d = absurd (true-not-false (tied-test k a tk) (f.3 k (omega arith) lt))
          only k l tk qk (no nl) (yes lt) = absurd (true-not-false qk (pos-neg (list_any-yes (λ b. ltb b k) (t k) 0 n p (omega arith) (omega (arith, f.1)) (tied-test k p (chain tk (turned (test-tied p a f.2)))) (lt-ltb p k lt))))
          only k l tk qk (no nl) (no ng) = omega arith

  -- the sum over the classes of the kept axes is the sum over all
  class-sum : (f : ℕ → ℕ) → sum_of (λ k. sum_of f (class_of pairs n k)) (kept pairs n) ≡ sum_of f (range_with_len 0 n)
  unfolding class_of kept
  class-sum f =
      sum-filter q (λ k. sum_of f (filter (t k) (range_with_len 0 n))) (range_with_len 0 n)
      ∙ sum-ext (λ k. if q k then sum_of f (filter (t k) (range_with_len 0 n)) else 0) (λ k. sum_of (λ a. if q k && t k a then f a else 0) (range_with_len 0 n)) (range_with_len 0 n) (λ k. inner k (q k))
      ∙ sum-swap (λ k a. if q k && t k a then f a else 0) (range_with_len 0 n) (range_with_len 0 n)
      ∙ sum-range (λ a. sum_of (λ k. if q k && t k a then f a else 0) (range_with_len 0 n)) f 0 n (λ a i h. one a (omega arith))
    where
      inner : (k : ℕ) (b : Bool) → (if b then sum_of f (filter (t k) (range_with_len 0 n)) else 0) ≡ sum_of (λ a. if b && t k a then f a else 0) (range_with_len 0 n)
      inner k true = sum-filter (t k) f (range_with_len 0 n)
      inner k false = sym (sum-zero (range_with_len 0 n))

      and_both : (x y : Bool) → (x && y) ≡ true → (x ≡ true) × (y ≡ true)
      and_both true y e = (refl, e)
      and_both false y e = absurd (subst T (sym e) tt)

      one : (a : ℕ) → a < n → sum_of (λ k. if q k && t k a then f a else 0) (range_with_len 0 n) ≡ f a
      one a h =
          let r = root-of a h in
          let e : (q r.root && t r.root a) ≡ true = rw (r.root_kept, tied-test r.root a r.root_tied) in
          sum_one (λ k. q k && t k a) (f a) r.root 0 n (omega arith) (omega (arith, r.root-lt)) e
          (λ k i l b. let w = and_both (q k) (t k a) b in r.root-only k (omega arith) (test-tied k a w.1) w.0)

-- ---- offsets

module _ (l : LayoutModel) (pairs : List (ℕ × ℕ)) (index : List ℕ) where
  abbrev y : ℕ → ℕ
  y a = get_or index a 0

  abbrev part : (ℤ → ℕ) → ℕ → ℕ
  part g a = g (axis_at l.axes a).stride

  stride-parts : (z : ℤ) (c : List ℕ) → positive_part (stride_sum z (map (axis_at l.axes) c)) + (negative_part z + sum_of (part negative_part) c) ≡ (positive_part z + sum_of (part positive_part) c) + negative_part (stride_sum z (map (axis_at l.axes) c))
  unfolding stride_sum sum_of
  stride-parts z [] = omega arith
  stride-parts z (a ∷ r) = omega (arith, ints, stride-parts (z +ℤ (axis_at l.axes a).stride) r)

  abbrev heavy : (ℤ → ℕ) → ℕ → ℕ
  heavy g k = y k * sum_of (part g) (class_of pairs (rank l) k)

  diagonal-parts : (ks : List ℕ) → positive_part (offset_sum (map (fused l pairs) ks) (map y ks)) + sum_of (heavy negative_part) ks ≡ sum_of (heavy positive_part) ks + negative_part (offset_sum (map (fused l pairs) ks) (map y ks))
  unfolding offset_sum sum_of fused
  diagonal-parts [] = refl
  diagonal-parts (k ∷ r) =
      omega (arith, multiples, diagonal-parts r, ap (λ (m : ℕ). y k * m) (stride-parts (pos 0) (class_of pairs (rank l) k)))

  module _ (alike : (a b : ℕ) → IsTied pairs a b → get_or index a 0 ≡ get_or index b 0) where
    in-class : (h : ℕ → ℕ) (k : ℕ) → y k * sum_of h (class_of pairs (rank l) k) ≡ sum_of (λ a. y a * h a) (class_of pairs (rank l) k)
    unfolding class_of
    in-class h k = sym (sum-times (y k) h (class_of pairs (rank l) k)) ∙ sum-filter (t pairs (rank l) k) (λ a. y k * h a) (range_with_len 0 (rank l))
        ∙ sum-ext (λ a. if t pairs (rank l) k a then y k * h a else 0) (λ a. if t pairs (rank l) k a then y a * h a else 0) (range_with_len 0 (rank l)) (λ a. same a (t pairs (rank l) k a) (test-tied pairs (rank l) k a))
        ∙ sym (sum-filter (t pairs (rank l) k) (λ a. y a * h a) (range_with_len 0 (rank l)))
      where
        same : (a : ℕ) (b : Bool) → (b ≡ true → IsTied pairs k a) → (if b then y k * h a else 0) ≡ (if b then y a * h a else 0)
        same a true f = ap (λ (m : ℕ). m * h a) (alike k a (f refl))
        same a false f = refl

    all-classes : (g : ℤ → ℕ) → length index ≡ rank l → sum_of (heavy g) (kept pairs (rank l)) ≡ weigh g l.axes index
    all-classes g n =
        sum-ext (heavy g) (λ k. sum_of (λ a. y a * part g a) (class_of pairs (rank l) k)) (kept pairs (rank l)) (in-class (part g))
        ∙ class-sum pairs (rank l) (λ a. y a * part g a)
        ∙ sym (left-sum (λ a. y a * part g a) 0 (rank l))
        ∙ by-axis g l.axes index n

    fused-offset : (diagonal_view l pairs).answer ≡ pass → length index ≡ rank l
        → offset_sum (diagonal_view l pairs).layout.axes (map (λ a. get_or index a 0) (kept pairs (rank l))) ≡ offset_sum l.axes index
    unfolding diagonal_view diagonal_axes
    fused-offset e n =
        let c : Check = handed l 0 >> pair_fault (rank l) pairs >> sum_faults l pairs (kept pairs (rank l)) >> bounds (with_axes l (map (fused l pairs) (kept pairs (rank l)))) in
        let s = settled l (with_axes l (map (fused l pairs) (kept pairs (rank l)))) c e in
        ap (λ (m : LayoutModel). offset_sum m.axes (map y (kept pairs (rank l)))) s.becomes
        ∙ omega (arith, ints, diagonal-parts (kept pairs (rank l)), all-classes positive_part n, all-classes negative_part n, parts l.axes index)

pub view_claims : ViewClaims
view_claims = record { permuted = permuted; stretched = stretched; fused = λ l pairs index e n alike. fused-offset l pairs index alike e n }
