-- Entries of an ascending list by their places: the class of an axis, the place of the axis that a class stands at, the least extent of a class; and the pairs that flat numbers hold.
use Rattle.std.specs.List.{list_any, range_with_len}
use Rattle.std.specs.Prelude.{if◌then◌else◌, filter}
use mathlib.Core.Bool.{Bool, true, false, not}
use mathlib.Core.List.{List, [], ◌∷◌, map}
use mathlib.Core.Logic.{◌↔◌}
use mathlib.Core.Path.{◌≡◌, refl, sym, ap, subst, ◌∙◌}
use Prim.Native.Nat.{ℕ, zero, suc, min, ◌+◌, ◌*◌, ◌/◌, ◌<◌, ◌≤◌}
use native.Mathlib.Decide.{ℕ_discrete, dec_le}
use native.Mathlib.Omega.{arith}
use lib.Dec.{T, ltb}
use lib.ListN.{length, get_or}
use borrow.Author.Tests.{ltb-true, lt-ltb, le-ltb, not-true}
use Rattle.specification.specs.Tests.{is_yes}
use Rattle.specification.specs.Axis.{Axis}
use Rattle.specification.specs.Tied.{IsTied}
use Rattle.specification.specs.TiedDecided.{tied?}
use Rattle.specification.specs.Views.{pairs_of, class_of, kept, place_of, least_extent}
use Rattle.specification.specs.ViewRules.{pair_at}
use Rattle.specification.specs.ViewClaims.{IsAscending, Entry, ClassClaims}
use Rattle.specification.proofs.DiagonalLaws.{list_any-no, list_any-yes, test-tied, tied-test}
use Rattle.specification.proofs.TestLaws.{true-not-false}

-- b stands at place p
pub record At (list : List ℕ) (p b : ℕ) : Type 0 where
  pub place_lt : p < length list
  pub entry_is : get_or list p 0 ≡ b

next-at : {list : List ℕ} {p b : ℕ} (c : ℕ) → At list p b → At (c ∷ list) (suc p) b
next-at c a = record { place_lt = omega (arith, a.place_lt); entry_is = a.entry_is }

-- ---- numbers of a range that pass a test

-- how many entries are below b
abbrev below : ℕ → List ℕ → ℕ
below b list = length (filter (λ c. ltb c b) list)

none_below : (test : ℕ → Bool) (b k n : ℕ) → b ≤ k → below b (filter test (range_with_len k n)) ≡ 0
none_below test b k zero h = refl
none_below test b k (suc n) h = go (test k) (none_below test b (k + 1) n (omega arith))
  where
    go : (t : Bool) → below b (filter test (range_with_len (k + 1) n)) ≡ 0 → below b (if t then k ∷ filter test (range_with_len (k + 1) n) else filter test (range_with_len (k + 1) n)) ≡ 0
    go true e = rw (le-ltb k b h) e
    go false e = e

-- one that passes stands at the place that counts those below it
stands_at : (test : ℕ → Bool) (b k n : ℕ) → k ≤ b → b < k + n → test b ≡ true → At (filter test (range_with_len k n)) (below b (filter test (range_with_len k n))) b
stands_at test b k zero h l e = absurd (omega arith)
stands_at test b k (suc n) h l e = go (ℕ_discrete k b) (test k) refl (λ g. stands_at test b (k + 1) n g (omega arith) e)
  where
    rest : List ℕ
    rest = filter test (range_with_len (k + 1) n)

    go : Dec (k ≡ b) → (t : Bool) → test k ≡ t → (k + 1 ≤ b → At rest (below b rest) b) → At (if t then k ∷ rest else rest) (below b (if t then k ∷ rest else rest)) b
    go (yes q) true f ih = record {
      place_lt = rw (le-ltb k b (omega arith), none_below test b (k + 1) n (omega arith)) (omega arith);
      entry_is = rw (le-ltb k b (omega arith), none_below test b (k + 1) n (omega arith)) q;
    }
    go (yes q) false f ih = absurd (subst T (sym e ∙ ap test (sym q) ∙ f) tt)
    go (no q) true f ih = rw (lt-ltb k b (omega arith)) (next-at k (ih (omega arith)))
    go (no q) false f ih = ih (omega arith)

-- what stands there is of the range and passes
entry-passes : (test : ℕ → Bool) (k n p : ℕ) → p < length (filter test (range_with_len k n))
    → (get_or (filter test (range_with_len k n)) p 0 < k + n) × (test (get_or (filter test (range_with_len k n)) p 0) ≡ true)
entry-passes test k zero p h = absurd (omega arith)
entry-passes test k (suc n) p h = go (test k) refl p h (entry-passes test (k + 1) n)
  where
    rest : List ℕ
    rest = filter test (range_with_len (k + 1) n)

    go : (t : Bool) → test k ≡ t → (p : ℕ) → p < length (if t then k ∷ rest else rest) → ((q : ℕ) → q < length rest → (get_or rest q 0 < k + 1 + n) × (test (get_or rest q 0) ≡ true))
        → (get_or (if t then k ∷ rest else rest) p 0 < k + suc n) × (test (get_or (if t then k ∷ rest else rest) p 0) ≡ true)
    go true f zero h ih = (omega arith, f)
    go true f (suc p) h ih = let w = ih p (omega arith) in (omega (arith, w.0), w.1)
    go false f p h ih = let w = ih p h in (omega (arith, w.0), w.1)

-- no entry is below the range, and each is below the next
from_start : (test : ℕ → Bool) (k n p : ℕ) → p < length (filter test (range_with_len k n)) → k ≤ get_or (filter test (range_with_len k n)) p 0
from_start test k zero p h = absurd (omega arith)
from_start test k (suc n) p h = go (test k) p h (from_start test (k + 1) n)
  where
    rest : List ℕ
    rest = filter test (range_with_len (k + 1) n)

    go : (t : Bool) (p : ℕ) → p < length (if t then k ∷ rest else rest) → ((q : ℕ) → q < length rest → k + 1 ≤ get_or rest q 0) → k ≤ get_or (if t then k ∷ rest else rest) p 0
    go true zero h ih = omega arith
    go true (suc p) h ih = omega (arith, ih p (omega arith))
    go false p h ih = omega (arith, ih p h)

ascends : (test : ℕ → Bool) (k n : ℕ) → IsAscending (filter test (range_with_len k n))
ascends test k zero i h = absurd (omega arith)
ascends test k (suc n) i h = go (test k) i h (ascends test (k + 1) n)
  where
    rest : List ℕ
    rest = filter test (range_with_len (k + 1) n)

    go : (t : Bool) (i : ℕ) → suc i < length (if t then k ∷ rest else rest) → IsAscending rest → get_or (if t then k ∷ rest else rest) i 0 < get_or (if t then k ∷ rest else rest) (suc i) 0
    go true zero h ih = omega (arith, from_start test (k + 1) n 0 (omega arith))
    go true (suc i) h ih = ih i (omega arith)
    go false i h ih = ih i h

-- ---- the least extent

-- it is at most each extent
pub least-at-most : (axis : ℕ → Axis) (list : List ℕ) (p : ℕ) → p < length list → least_extent (map axis list) ≤ (axis (get_or list p 0)).extent
unfolding least_extent
least-at-most axis [] p h = absurd (omega arith)
least-at-most axis (b ∷ []) zero h = omega arith
least-at-most axis (b ∷ []) (suc p) h = absurd (omega arith)
least-at-most axis (b ∷ c ∷ rest) zero h = omega arith
least-at-most axis (b ∷ c ∷ rest) (suc p) h = omega (arith, least-at-most axis (c ∷ rest) p (omega arith))

-- and it is one of them
pub least_is_one : (axis : ℕ → Axis) (b : ℕ) (list : List ℕ) → (p : ℕ) × (p < length (b ∷ list)) × (least_extent (map axis (b ∷ list)) ≡ (axis (get_or (b ∷ list) p 0)).extent)
unfolding least_extent
least_is_one axis b [] = (0, omega arith, refl)
least_is_one axis b (c ∷ rest) = go (dec_le (axis b).extent (least_extent (map axis (c ∷ rest)))) (least_is_one axis c rest)
  where
    go : Dec ((axis b).extent ≤ least_extent (map axis (c ∷ rest))) → (p : ℕ) × (p < length (c ∷ rest)) × (least_extent (map axis (c ∷ rest)) ≡ (axis (get_or (c ∷ rest) p 0)).extent)
        → (p : ℕ) × (p < length (b ∷ c ∷ rest)) × (min (axis b).extent (least_extent (map axis (c ∷ rest))) ≡ (axis (get_or (b ∷ c ∷ rest) p 0)).extent)
    go (yes h) w = (0, omega arith, omega arith)
    go (no h) w = (suc w.0, omega (arith, w.1), omega (arith, w.2))

-- ---- classes

module _ (pairs : List (ℕ × ℕ)) (n a : ℕ) where
  -- a tied axis has a place in the class
  pub tied_at : (b : ℕ) → b < n → IsTied pairs a b → At (class_of pairs n a) (below b (class_of pairs n a)) b
  unfolding class_of
  tied_at b h t = stands_at (λ c. is_yes (tied? pairs a c)) b 0 n (omega arith) (omega arith) (tied-test pairs n a b t)

  -- an axis of the class is tied
  pub at-tied : (p : ℕ) → p < length (class_of pairs n a) → (get_or (class_of pairs n a) p 0 < n) × IsTied pairs a (get_or (class_of pairs n a) p 0)
  unfolding class_of
  at-tied p h = let w = entry-passes (λ c. is_yes (tied? pairs a c)) 0 n p h in (omega (arith, w.0), test-tied pairs n a (get_or (class_of pairs n a) p 0) w.1)

  -- a class that has no axis below a stands at a, at the place that counts the kept axes below it
  pub kept_at : a < n → ((b : ℕ) → b < a → ¬ (IsTied pairs a b)) → At (kept pairs n) (place_of pairs n a) a
  unfolding kept place_of class_of
  kept_at h f = stands_at (λ c. not (list_any (λ b. ltb b c) (class_of pairs n c))) a 0 n (omega arith) (omega arith) (rw lowest)
    where
      higher : (b : ℕ) → IsTied pairs a b → (t : Bool) → ltb b a ≡ t → t ≡ false
      higher b w false e = refl
      higher b w true e = absurd (f b (ltb-true b a e) w)

      lowest : list_any (λ b. ltb b a) (class_of pairs n a) ≡ false
      lowest = list_any-no (λ b. ltb b a) (λ b. is_yes (tied? pairs a b)) 0 n (λ b i l e. higher b (test-tied pairs n a b e) (ltb b a) refl)

-- ---- the lists as they are claimed

-- what stands at a place is an entry
entry_at : {list : List ℕ} {p b : ℕ} → At list p b → Entry list b
entry_at {p} a = record { place = p; in_list = a.place_lt; there = a.entry_is }

module _ (pairs : List (ℕ × ℕ)) (n : ℕ) where
  class_is : (a b : ℕ) → Entry (class_of pairs n a) b ↔ (b < n) × IsTied pairs a b
  class_is a b = (λ e. rw (← e.there) (at-tied pairs n a e.place e.in_list), λ w. entry_at (tied_at pairs n a b w.0 w.1))

  -- a kept axis has no lower axis in its class
  at-kept : (p : ℕ) → p < length (kept pairs n) → (get_or (kept pairs n) p 0 < n) × ((b : ℕ) → b < get_or (kept pairs n) p 0 → ¬ (IsTied pairs (get_or (kept pairs n) p 0) b))
  unfolding kept class_of
  at-kept p h =
      let w = entry-passes (λ c. not (list_any (λ b. ltb b c) (class_of pairs n c))) 0 n p h in
      (omega (arith, w.0), λ b k t. true-not-false (list_any-yes (λ c. ltb c (get_or (kept pairs n) p 0)) (λ c. is_yes (tied? pairs (get_or (kept pairs n) p 0) c)) 0 n b (omega arith) (omega (arith, w.0)) (tied-test pairs n (get_or (kept pairs n) p 0) b t) (lt-ltb b (get_or (kept pairs n) p 0) k)) (not-true _ w.1))

  kept_is : (a : ℕ) → Entry (kept pairs n) a ↔ (a < n) × ((b : ℕ) → b < a → ¬ (IsTied pairs a b))
  kept_is a = (λ e. rw (← e.there) (at-kept e.place e.in_list), λ w. entry_at (kept_at pairs n a w.0 w.1))

pair_is : (numbers : List ℕ) (i : ℕ) → i < length (pairs_of numbers) → pair_at (pairs_of numbers) i ≡ (get_or numbers (2 * i) 0, get_or numbers (2 * i + 1) 0)
unfolding pairs_of
pair_is [] i h = absurd (omega arith)
pair_is (a ∷ []) i h = absurd (omega arith)
pair_is (a ∷ b ∷ rest) zero h = refl
pair_is (a ∷ b ∷ rest) (suc i) h =
    let e : 2 * suc i ≡ suc (suc (2 * i)) = omega arith in
    let f : suc (suc (2 * i)) + 1 ≡ suc (suc (2 * i + 1)) = omega arith in
    rw (e, f) (pair_is rest i (omega arith))

pairs_are : (numbers : List ℕ) → length (pairs_of numbers) ≡ length numbers / 2
unfolding pairs_of
pairs_are [] = refl
pairs_are (a ∷ []) = refl
pairs_are (a ∷ b ∷ rest) = omega (arith, pairs_are rest)

pub class_claims : ClassClaims
unfolding class_of kept
class_claims = record {
  class_ascends = λ pairs n a. ascends (λ b. is_yes (tied? pairs a b)) 0 n;
  class_is = class_is;
  kept_ascends = λ pairs n. ascends (λ a. not (list_any (λ b. ltb b a) (class_of pairs n a))) 0 n;
  kept_is = kept_is;
  pair_is = pair_is;
  pairs_are = pairs_are;
}
