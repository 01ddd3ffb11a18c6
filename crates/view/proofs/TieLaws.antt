-- Pairs one after another: what they refuse, what they tie, and what the roots say once they are tied.
use Rattle.std.specs.List.{range_with_len}
use Rattle.std.specs.Prelude.{if◌then◌else◌}
use mathlib.Core.Path.{◌≡◌, refl, sym, ap, subst, ◌∙◌}
use mathlib.Core.Bool.{Bool, true, false}
use mathlib.Core.List.{List, [], ◌∷◌, ◌++◌, append-nil, append_assoc}
use mathlib.Core.Logic.{◌⊎◌, inl, inr}
use Prim.Native.Nat.{ℕ, zero, suc, ◌+◌, ◌≤◌, ◌<◌, max, min}
use native.Mathlib.Decide.{dec_le}
use native.Mathlib.Omega.{arith}
use lib.Dec.{eqb, leb}
use lib.ListN.{length, length-map}
use Rattle.std.proofs.lemmas.List.{get_or-map}
use borrow.Author.Tests.{le-leb, lt-leb, eq-eqb, ne_eqb, leb-false, eqb-true}
use Rattle.specification.specs.Outcome.{refused, pass, refuse_if, ◌>>◌}
use Rattle.specification.specs.Tied.{Among, IsTied, itself, pair, turned, chain}
use Rattle.specification.specs.Views.{pair_fault}
use Rattle.specification.proofs.OutcomeLaws.{passed}
use Rattle.view.specs.Ties.{root_at, own_roots, renamed, joined, joined_all}
use Rattle.std.proofs.lemmas.Int.{ints}

-- ---- what pairs refuse

module _ (rank a b : ℕ) where
  pub fault_outside : rank ≤ max a b → pair_fault rank ((a, b) ∷ []) ≡ refused 5 (max a b ∷ rank ∷ [])
  unfolding pair_fault refuse_if ◌>>◌
  fault_outside h = rw (le-leb rank (max a b) h)

  pub fault_equal : max a b < rank → a ≡ b → pair_fault rank ((a, b) ∷ []) ≡ refused 5 (a ∷ rank ∷ [])
  unfolding pair_fault refuse_if ◌>>◌
  fault_equal h k = rw (lt-leb rank (max a b) h, eq-eqb a b k)

  pub fault_none : max a b < rank → (a ≡ b → ⊥) → pair_fault rank ((a, b) ∷ []) ≡ pass
  unfolding pair_fault refuse_if ◌>>◌
  fault_none h k = rw (lt-leb rank (max a b) h, ne_eqb a b k)

-- a first pair that is let pass, and one that is not
module _ {rank same : ℕ} (e : same ≡ rank) (p : ℕ × ℕ) (rest : List (ℕ × ℕ)) where
  pub fault-next : pass ≡ pair_fault same (p ∷ []) → pair_fault rank (p ∷ rest) ≡ pair_fault rank rest
  unfolding pair_fault refuse_if ◌>>◌
  fault-next f = grind (arith, ints)

  pub fault-here : {number : ℕ} {values : List ℕ} → refused number values ≡ pair_fault same (p ∷ []) → pair_fault rank (p ∷ rest) ≡ refused number values
  unfolding pair_fault ◌>>◌ refuse_if
  fault-here f = grind (arith, ints)

pub fault-empty : (rank : ℕ) → pair_fault rank [] ≡ pass
unfolding pair_fault
fault-empty rank = refl

-- ---- what pairs tie

among-left : (q : ℕ × ℕ) (ps qs : List (ℕ × ℕ)) → Among q ps → Among q (ps ++ qs)
among-left q [] qs m = absurd m
among-left q (p ∷ ps) qs (inl e) = inl e
among-left q (p ∷ ps) qs (inr m) = inr (among-left q ps qs m)

among-last : (ps : List (ℕ × ℕ)) (p : ℕ × ℕ) → Among p (ps ++ (p ∷ []))
among-last [] p = inl refl
among-last (q ∷ ps) p = inr (among-last ps p)

among_cases : (q : ℕ × ℕ) (ps : List (ℕ × ℕ)) (p : ℕ × ℕ) → Among q (ps ++ (p ∷ [])) → Among q ps ⊎ (q ≡ p)
among_cases q [] p (inl e) = inr e
among_cases q [] p (inr m) = absurd m
among_cases q (r ∷ ps) p (inl e) = inl (inl e)
among_cases q (r ∷ ps) p (inr m) = elim (among_cases q ps p m) [ inl n ↦ inl (inr n) | inr e ↦ inr e ]

tied-wider : {ps : List (ℕ × ℕ)} {a b : ℕ} (qs : List (ℕ × ℕ)) → IsTied ps a b → IsTied (ps ++ qs) a b
tied-wider qs itself = itself
tied-wider {ps} qs (pair p m) = pair p (among-left p ps qs m)
tied-wider qs (turned t) = turned (tied-wider qs t)
tied-wider qs (chain t u) = chain (tied-wider qs t) (tied-wider qs u)

-- if the axes of each pair have one root, all tied axes have
tied-alike : {ps : List (ℕ × ℕ)} {a b : ℕ} (roots : List ℕ) → ((q : ℕ × ℕ) → Among q ps → root_at roots q.0 ≡ root_at roots q.1) → IsTied ps a b → root_at roots a ≡ root_at roots b
tied-alike roots each itself = refl
tied-alike roots each (pair q m) = each q m
tied-alike roots each (turned t) = sym (tied-alike roots each t)
tied-alike roots each (chain t u) = tied-alike roots each t ∙ tied-alike roots each u

-- ---- what roots say

-- of the classes of these pairs: the axes of each pair are below 16; a root for each axis, which is not above the axis and is tied to it;
-- and one root for all axes that are tied, so that it is the lowest of them
pub record RootsOf (pairs : List (ℕ × ℕ)) (roots : List ℕ) : Type 0 where
  pub long : length roots ≡ 16
  pub below : (q : ℕ × ℕ) → Among q pairs → (q.0 < 16) × (q.1 < 16)
  pub low : (a : ℕ) → a < 16 → root_at roots a ≤ a
  pub tied : (a : ℕ) → a < 16 → IsTied pairs a (root_at roots a)
  pub alike : (a b : ℕ) → IsTied pairs a b → root_at roots a ≡ root_at roots b

-- ---- no pair

root-range_with_len : (k n a : ℕ) → a < n → root_at (range_with_len k n) a ≡ k + a
root-range_with_len k zero a h = absurd (omega arith)
root-range_with_len k (suc n) zero h = omega arith
root-range_with_len k (suc n) (suc a) h = root-range_with_len (k + 1) n a (omega arith) ∙ omega arith

length-own : length own_roots ≡ 16
length-own = refl

-- each axis is its own root
roots-none : RootsOf [] own_roots
roots-none = record {
  long = length-own;
  below = λ q m. absurd m;
  low = λ a h. omega (arith, root a h);
  tied = λ a h. rw (root a h) itself;
  alike = λ a b. tied-alike own_roots (λ q m. absurd m);
}
  where
    root : (a : ℕ) → a < 16 → root_at own_roots a ≡ a
    root a h = root-range_with_len 0 16 a h ∙ omega arith

-- ---- two classes under the lower root

-- the pairs and one more
abbrev more : List (ℕ × ℕ) → ℕ → ℕ → List (ℕ × ℕ)
more ps a b = ps ++ ((a, b) ∷ [])

module _ {ps : List (ℕ × ℕ)} {roots : List ℕ} (of : RootsOf ps roots) (a b : ℕ) (within : max a b < 16) where
  abbrev old : ℕ → ℕ
  old = root_at roots

  abbrev higher : ℕ
  higher = max (old a) (old b)

  abbrev lower : ℕ
  lower = min (old a) (old b)

  abbrev new : List ℕ
  new = joined roots (a, b)

  joined_at : (x : ℕ) → x < 16 → root_at new x ≡ renamed higher lower (old x)
  joined_at x h = get_or-map (renamed higher lower) roots x 0 0 (omega (arith, of.long))

  joined-low : (x : ℕ) → x < 16 → root_at new x ≤ x
  joined-low x h = let was = of.low x h in rw (joined_at x h) (grind (arith, ints))

  both_tied : IsTied (more ps a b) (old a) (old b)
  both_tied = chain (turned (tied-wider ((a, b) ∷ []) (of.tied a (omega arith))))
      (chain (pair (a, b) (among-last ps (a, b))) (tied-wider ((a, b) ∷ []) (of.tied b (omega arith))))

  higher-lower : IsTied (more ps a b) higher lower
  higher-lower = by (dec_le (old a) (old b))
    where
      by : Dec (old a ≤ old b) → IsTied (more ps a b) higher lower
      by (yes h) = let p : higher ≡ old b = omega arith in let q : lower ≡ old a = omega arith in rw (p, q) (turned both_tied)
      by (no n) = let p : higher ≡ old a = omega arith in let q : lower ≡ old b = omega arith in rw (p, q) both_tied

  joined-tied : (x : ℕ) → x < 16 → IsTied (more ps a b) x (root_at new x)
  joined-tied x h = rw (joined_at x h) (by (eqb (old x) higher) (eqb-true (old x) higher) (tied-wider ((a, b) ∷ []) (of.tied x h)))
    where
      by : (s : Bool) → (s ≡ true → old x ≡ higher) → IsTied (more ps a b) x (old x) → IsTied (more ps a b) x (if s then lower else old x)
      by true e w = chain (subst (IsTied (more ps a b) x) (e refl) w) higher-lower
      by false e w = w

  -- of the two roots each becomes the lower
  to-lower : (z : ℕ) → (z ≡ old a) ⊎ (z ≡ old b) → renamed higher lower z ≡ lower
  to-lower z w = grind (arith, ints)

  joined-each : (q : ℕ × ℕ) → Among q (more ps a b) → root_at new q.0 ≡ root_at new q.1
  joined-each q m = by (among_cases q ps (a, b) m)
    where
      by : Among q ps ⊎ (q ≡ (a, b)) → root_at new q.0 ≡ root_at new q.1
      by (inl n) =
          let w = of.below q n in
          joined_at q.0 (omega arith) ∙ ap (renamed higher lower) (of.alike q.0 q.1 (pair q n)) ∙ sym (joined_at q.1 (omega arith))
      by (inr e) = rw e (joined_at a (omega arith) ∙ to-lower (old a) (inl refl) ∙ sym (joined_at b (omega arith) ∙ to-lower (old b) (inr refl)))

  roots-joined : RootsOf (more ps a b) new
  roots-joined = record {
    long = length-map roots (renamed higher lower) ∙ of.long;
    below = λ q m. is-below q (among_cases q ps (a, b) m);
    low = joined-low;
    tied = joined-tied;
    alike = λ x y w. tied-alike new joined-each w;
  }
    where
      is-below : (q : ℕ × ℕ) → Among q ps ⊎ (q ≡ (a, b)) → (q.0 < 16) × (q.1 < 16)
      is-below q (inl n) = of.below q n
      is-below q (inr e) = rw e (omega arith)

-- ---- pairs one after another

roots-all : (rank : ℕ) {ps : List (ℕ × ℕ)} {roots : List ℕ} → rank ≤ 16 → RootsOf ps roots → (rest : List (ℕ × ℕ)) → pair_fault rank rest ≡ pass
    → RootsOf (ps ++ rest) (joined_all roots rest)
unfolding pair_fault
roots-all rank {ps} few of [] e = rw append-nil of
roots-all rank {ps} {roots} few of (p ∷ rest) e =
    let x = passed (leb rank (max p.0 p.1)) 5 (max p.0 p.1 ∷ rank ∷ []) e in
    let y = passed (eqb p.0 p.1) 5 (p.0 ∷ rank ∷ []) x.1 in
    let h : max p.0 p.1 < rank = leb-false rank (max p.0 p.1) x.0 in
    subst (λ (l : List (ℕ × ℕ)). RootsOf l (joined_all (joined roots p) rest)) (append_assoc ps (p ∷ []) rest)
    (roots-all rank {ps = more ps p.0 p.1} {roots = joined roots p} few (roots-joined of p.0 p.1 (omega arith)) rest y.1)

pub roots-of : (rank : ℕ) (pairs : List (ℕ × ℕ)) → rank ≤ 16 → pair_fault rank pairs ≡ pass → RootsOf pairs (joined_all own_roots pairs)
roots-of rank pairs few e = roots-all rank few roots-none pairs e
