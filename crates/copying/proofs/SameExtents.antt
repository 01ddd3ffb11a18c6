-- Two iterators that say which items are left are equal exactly if those are.
use Rattle.std.specs.Prelude.{Bool, true, false, List, [], ◌∷◌, ◌≡◌, Option, Some, None}
use Rattle.std.specs.Cmp.Lexicographic.{pointwise}
use Rattle.std.specs.Iterator.{YieldsFirst, YieldsThen}
use Rattle.std.specs.List.{AllZip}
use Rattle.std.specs.Option.{MatchOption, IfSome}
use mathlib.Core.Path.{sym, subst}

module _ {S T A : Type 0} (left : S → List A) (left-too : T → List A) (E : A → A → Bool) (r : Bool) where
  -- the last two answers
  abbrev pub Last : Option A → Option A → Type 0
  Last o p = MatchOption o (MatchOption p (r ≡ true) (λ _. r ≡ false)) (λ x. (r ≡ false) × IfSome p (λ y. E x y ≡ false))

  at-last : (s u : S) (t v : T) (o p : Option A) → YieldsFirst left s o u → YieldsFirst left-too t p v → Last o p → r ≡ pointwise E (left s) (left-too t)
  at-last s u t v None None e f h = rw (e.0, f.0) h
  at-last s u t v None (Some y) e f h = rw (e.0, f) h
  at-last s u t v (Some x) None e f h = rw (e, f.0) h.0
  at-last s u t v (Some x) (Some y) e f h = rw (e, f, h.1) h.0

  pub eq-left : (s u : S) (t v : T) (xs ys : List A) (o p : Option A) → YieldsThen (YieldsFirst left) s xs o u → YieldsThen (YieldsFirst left-too) t ys p v
      → AllZip (λ x y. E x y ≡ true) xs ys → Last o p → r ≡ pointwise E (left s) (left-too t)
  eq-left s u t v [] [] o p (s', e, f) (t', g, h) z l = subst (λ w. r ≡ pointwise E (left w) (left-too t)) (sym e) (subst (λ w. r ≡ pointwise E (left s') (left-too w)) (sym g) (at-last s' u t' v o p f h l))
  eq-left s u t v (x ∷ xs) (y ∷ ys) o p (s', (j, a, e), f) (t', (k, b, g), h) z l = rw (a, b, z.0) (eq-left j u k v xs ys o p (s', e, f) (t', g, h) z.1 l)
  eq-left s u t v [] (y ∷ ys) o p e f z l = absurd z
  eq-left s u t v (x ∷ xs) [] o p e f z l = absurd z
