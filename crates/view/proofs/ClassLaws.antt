-- What the roots say of the classes: the kept axes are the roots, and the class of a root are the axes with that root.
use Rattle.std.specs.List.{list_any}
use mathlib.Core.Path.{◌≡◌, refl, sym, subst, ◌∙◌}
use mathlib.Core.Bool.{Bool, true, false, not}
use mathlib.Core.List.{List}
use Prim.Native.Nat.{ℕ, ◌≤◌, ◌<◌}
use native.Mathlib.Omega.{arith}
use lib.Dec.{eqb, ltb}
use borrow.Author.Tests.{lt-ltb, le-ltb, eqb-true, eqb-false}
use Rattle.specification.specs.Tests.{is_yes}
use Rattle.specification.specs.Tied.{IsTied, turned}
use Rattle.specification.specs.TiedDecided.{tied?}
use Rattle.specification.specs.Views.{class_of, kept}
use Rattle.view.specs.Ties.{root_at, is_root}
use Rattle.view.proofs.TieLaws.{RootsOf}
use Rattle.view.proofs.RangeLaws.{passing, passing-ext, list_any-none, list_any_one}
use Rattle.std.proofs.lemmas.Int.{ints}

decided-yes : {P : Type 0} (d : Dec P) → P → is_yes d ≡ true
decided-yes d q = grind (arith, ints)

decided-no : {P : Type 0} (d : Dec P) → (P → ⊥) → is_yes d ≡ false
decided-no d n = grind (arith, ints)

module _ {rank : ℕ} {pairs : List (ℕ × ℕ)} {roots : List ℕ} (few : rank ≤ 16) (of : RootsOf pairs roots) where
  abbrev root : ℕ → ℕ
  root = root_at roots

  -- the axes with root a
  abbrev with_root : ℕ → ℕ → Bool
  with_root a b = eqb (root b) a

  pub class-of-root : (a : ℕ) → root a ≡ a → class_of pairs rank a ≡ passing (with_root a) rank
  unfolding class_of passing
  class-of-root a own = passing-ext (λ b. is_yes (tied? pairs a b)) (with_root a) rank (λ b h. by b h (with_root a b) refl)
    where
      by : (b : ℕ) → b < rank → (s : Bool) → with_root a b ≡ s → is_yes (tied? pairs a b) ≡ s
      by b h true e = decided-yes (tied? pairs a b) (turned (subst (IsTied pairs b) (eqb-true (root b) a e) (of.tied b (omega arith))))
      by b h false e = decided-no (tied? pairs a b) (λ w. eqb-false (root b) a e (sym (of.alike a b w) ∙ own))

  -- no lower axis is tied to a root
  root-lowest : (a : ℕ) → root a ≡ a → list_any (λ b. ltb b a) (class_of pairs rank a) ≡ false
  root-lowest a own = rw (class-of-root a own) (list_any-none (λ b. ltb b a) (with_root a) rank (λ b h e. le-ltb b a (omega (arith, eqb-true (root b) a e, of.low b (omega arith)))))

  -- to another axis its root is
  other-lower : (a : ℕ) → a < rank → (root a ≡ a → ⊥) → list_any (λ b. ltb b a) (class_of pairs rank a) ≡ true
  unfolding class_of passing
  other-lower a h n =
      let below : root a ≤ a = of.low a (omega arith) in
      let less : root a < a = omega arith in
      list_any_one (λ b. ltb b a) (λ b. is_yes (tied? pairs a b)) rank (root a) (omega arith) (decided-yes (tied? pairs a (root a)) (of.tied a (omega arith))) (lt-ltb (root a) a less)

  pub kept-are-roots : kept pairs rank ≡ passing (is_root roots) rank
  unfolding kept passing
  kept-are-roots = passing-ext (λ a. not (list_any (λ b. ltb b a) (class_of pairs rank a))) (is_root roots) rank (λ a h. by a h (is_root roots a) refl)
    where
      by : (a : ℕ) → a < rank → (s : Bool) → is_root roots a ≡ s → not (list_any (λ b. ltb b a) (class_of pairs rank a)) ≡ s
      by a h true e = rw (root-lowest a (eqb-true (root a) a e))
      by a h false e = rw (other-lower a h (eqb-false (root a) a e))
