-- Laws of the tests on lists: how many entries pass, and that the order of a list does not matter to them.
use Rattle.std.specs.List.{list_any}
use Rattle.std.specs.Prelude.{if◌then◌else◌, filter}
use mathlib.Core.Path.{◌≡◌, refl, sym, subst, ◌∙◌}
use mathlib.Core.Bool.{Bool, true, false, ◌||◌}
use mathlib.Core.List.{List, [], ◌∷◌, reverse, reverse_aux}
use Prim.Native.Nat.{ℕ, zero, suc, ◌<◌, ◌≤◌}
use native.Mathlib.Omega.{arith}
use lib.Dec.{T}
use lib.ListN.{length, get_or}

-- a test that holds and does not hold
pub true-not-false : {t : Bool} → t ≡ true → t ≡ false → ⊥
true-not-false p q = subst T (sym p ∙ q) tt

-- a test joined with one that fails, and with one that holds
pub or-of-false : (t : Bool) → (t || false) ≡ t
or-of-false true = refl
or-of-false false = refl

pub or-true : (t : Bool) → (t || true) ≡ true
or-true true = refl
or-true false = refl

module _ {A : Type 0} where
  -- what passes the first test passes the second: the first has no more entries
  pub those-no-more : (p q : A → Bool) (l : List A) → ((a : A) → p a ≡ true → q a ≡ true) → length (filter p l) ≤ length (filter q l)
  those-no-more p q [] h = omega arith
  those-no-more p q (a ∷ r) h = go (p a) (q a) (h a) (those-no-more p q r h)
    where
      go : (t u : Bool) → (t ≡ true → u ≡ true) → length (filter p r) ≤ length (filter q r)
          → length (if t then a ∷ filter p r else filter p r) ≤ length (if u then a ∷ filter q r else filter q r)
      go true true i k = omega arith
      go true false i k = absurd (true-not-false (i refl) refl)
      go false true i k = omega arith
      go false false i k = k

  -- and fewer if some entry passes the second alone
  pub those-fewer : (p q : A → Bool) (d : A) (l : List A) (i : ℕ) → i < length l → ((a : A) → p a ≡ true → q a ≡ true)
      → p (get_or l i d) ≡ false → q (get_or l i d) ≡ true → length (filter p l) < length (filter q l)
  those-fewer p q d [] i b h e f = absurd (omega arith)
  those-fewer p q d (a ∷ r) zero b h e f = rw (e, f) (omega (arith, those-no-more p q r h))
  those-fewer p q d (a ∷ r) (suc i) b h e f = go (p a) (q a) (h a) (those-fewer p q d r i (omega arith) h e f)
    where
      go : (t u : Bool) → (t ≡ true → u ≡ true) → length (filter p r) < length (filter q r)
          → length (if t then a ∷ filter p r else filter p r) < length (if u then a ∷ filter q r else filter q r)
      go true true i k = omega arith
      go true false i k = absurd (true-not-false (i refl) refl)
      go false true i k = omega arith
      go false false i k = k

  -- every entry passes
  pub those-all : (l : List A) → length (filter (λ a. true) l) ≡ length l
  those-all [] = refl
  those-all (a ∷ r) = omega (arith, those-all r)

  -- so no more pass than there are
  pub length-those : (p : A → Bool) (l : List A) → length (filter p l) ≤ length l
  length-those p l = omega (arith, those-no-more p (λ a. true) l (λ a e. refl), those-all l)

  -- no entry passes
  pub those-none : (p : A → Bool) (d : A) (l : List A) → ((i : ℕ) → i < length l → p (get_or l i d) ≡ false) → length (filter p l) ≡ 0
  those-none p d [] h = refl
  those-none p d (a ∷ r) h = rw (h 0 (omega arith)) (those-none p d r (λ i b. h (suc i) (omega arith)))

  -- a list and its reverse have the same entries
  pub some-reverse : (p : A → Bool) (l : List A) → list_any p (reverse l) ≡ list_any p l
  some-reverse p l = into l [] ∙ or-of-false (list_any p l)
    where
      either : (t u v : Bool) → (u || (t || v)) ≡ ((t || u) || v)
      either true true v = refl
      either true false v = refl
      either false true v = refl
      either false false v = refl

      into : (l r : List A) → list_any p (reverse_aux l r) ≡ (list_any p l || list_any p r)
      into [] r = refl
      into (a ∷ l) r = into l (a ∷ r) ∙ either (p a) (list_any p l) (list_any p r)
