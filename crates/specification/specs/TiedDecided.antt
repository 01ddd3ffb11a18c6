-- That it can be decided whether two axes are tied. The type of `tied?` says what is decided; the rest need not be read:
-- each axis gets a name, and a pair renames one class to the other. RULES, "Diagonal view".
use Rattle.std.specs.Prelude.{Bool, true, false, not, List, [], ◌∷◌, ◌≡◌, refl, ℕ, T, ◌==◌, if◌then◌else◌}
use Rattle.std.proofs.Common.{inl, inr, sym, ap, subst, ◌∙◌, eqb→eq, T_not}
use Rattle.std.proofs.Math.Dec.{eqb_refl}
use Rattle.integer.proofs.Decide.{by_test}
use Rattle.specification.specs.Tied.{Among, IsTied, itself, pair, turned, chain}

-- the name of an axis once the pairs are taken in
unfoldable pub name : List (ℕ × ℕ) → ℕ → ℕ
name [] a = a
name (p ∷ rest) a = if name rest a == name rest p.0 then name rest p.1 else name rest a

wider : {p : ℕ × ℕ} {pairs : List (ℕ × ℕ)} {a b : ℕ} → IsTied pairs a b → IsTied (p ∷ pairs) a b
wider itself = itself
wider (pair q m) = pair q (inr m)
wider (turned t) = turned (wider t)
wider (chain t u) = chain (wider t) (wider u)

tied_name : (pairs : List (ℕ × ℕ)) (a : ℕ) → IsTied pairs a (name pairs a)
unfolding name
tied_name [] a = itself
tied_name (p ∷ rest) a = go (name rest a == name rest p.0) (eqb→eq (name rest a) (name rest p.0))
    (wider (tied_name rest a)) (wider (tied_name rest p.0)) (wider (tied_name rest p.1))
  where
    go : (t : Bool) → (T t → name rest a ≡ name rest p.0) → IsTied (p ∷ rest) a (name rest a) → IsTied (p ∷ rest) p.0 (name rest p.0) → IsTied (p ∷ rest) p.1 (name rest p.1)
        → IsTied (p ∷ rest) a (if t then name rest p.1 else name rest a)
    go true e x y z = chain (subst (IsTied (p ∷ rest) a) (e tt) x) (chain (turned y) (chain (pair p (inl refl)) z))
    go false e x y z = x

same_name : {pairs : List (ℕ × ℕ)} {a b : ℕ} → IsTied pairs a b → name pairs a ≡ name pairs b
unfolding name
same_name itself = refl
same_name {pairs} (pair p m) = go pairs m
  where
    both : (t : Bool) (x : ℕ) → (if t then x else x) ≡ x
    both true x = refl
    both false x = refl

    hit : (x y z : ℕ) → (if x == x then y else z) ≡ y
    hit x y z = first (x == x) (eqb_refl x)
      where
        first : (t : Bool) → T t → (if t then y else z) ≡ y
        first true h = refl
        first false h = absurd h

    go : (pairs : List (ℕ × ℕ)) → Among p pairs → name pairs p.0 ≡ name pairs p.1
    go [] m = absurd m
    go (q ∷ rest) (inl e) = rw e (hit (name rest q.0) (name rest q.1) (name rest q.0) ∙ sym (both (name rest q.1 == name rest q.0) (name rest q.1)))
    go (q ∷ rest) (inr m) = ap (λ (z : ℕ). if z == name rest q.0 then name rest q.1 else z) (go rest m)
same_name (turned t) = sym (same_name t)
same_name (chain t u) = same_name t ∙ same_name u

pub named_tied : (pairs : List (ℕ × ℕ)) (a b : ℕ) → T (name pairs a == name pairs b) → IsTied pairs a b
named_tied pairs a b t = chain (tied_name pairs a) (subst (λ (z : ℕ). IsTied pairs z b) (sym (eqb→eq (name pairs a) (name pairs b) t)) (turned (tied_name pairs b)))

pub untied_named : (pairs : List (ℕ × ℕ)) (a b : ℕ) → T (not (name pairs a == name pairs b)) → IsTied pairs a b → ⊥
untied_named pairs a b t tied = T_not (name pairs a == name pairs b) t (rw (same_name tied) (eqb_refl (name pairs b)))

-- whether two axes are tied
unfoldable pub tied? : (pairs : List (ℕ × ℕ)) (a b : ℕ) → Dec (IsTied pairs a b)
tied? pairs a b = by_test (name pairs a == name pairs b) (named_tied pairs a b) (untied_named pairs a b)
