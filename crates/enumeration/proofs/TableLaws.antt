-- Numbers among words: which they are, how many words behind the homes are free, and what a number put changes.
use Rattle.std.proofs.Common.{◌≡◌, ◌≢◌, ◌⊎◌, ◌∙◌, refl, sym, ap, ap₂, inl, inr, ℕ, zero, suc, ◌+◌, ◌-◌, ◌<◌, ◌≤◌, List, [], ◌∷◌, length, get_or, set, replicate, Bool, true, false, not, ◌&&◌, ◌||◌, eqb, if◌then◌else◌, Result, Ok, Err, IfOk, IfErr, is_ok, true≢false, arith, mod-lt, length-set, get_or-set_same, get_or-set_other, eqb-true, eq-eqb, ne_eqb}
use Rattle.std.proofs.Math.Decide.{ℕ_discrete, dec_lt}
use Rattle.std.specs.Cmp.{nat_cmp_total, unsigned_tied, both_ways}
use Rattle.std.specs.FinSet.{FinSet, contains, empty, insert, contains-empty, contains-insert, contains-remove, contains-from_list_nat, from_list, same_set, nat_cmp-IsAntisymmetric}
use Rattle.std.specs.List.{list_any}
use Rattle.std.specs.Ordering.{nat_cmp}
use Rattle.std.proofs.lemmas.Bool.{eqb-false, and_parts, and_from, or_left, or_right, not_from_false, not-true}
use Rattle.std.proofs.lemmas.Bool.Decides.{nat_tests}
use Rattle.std.proofs.lemmas.Int.{ints}
use Rattle.std.proofs.lemmas.List.{get_or_default, get_or_past, get_or-replicate, length-replicate, drop-replicate}
use Rattle.std.proofs.lemmas.List.Folds.{list_any_at, Any-from_list_any, sum_by-replicate}
use Rattle.std.proofs.lemmas.List.Sums.{sum_by-cons}
use Rattle.enumeration.specs.Homes.{numbers_in, free_behind, is_free, home_of, IsNumberAt, IsReached, IsPlaceFor, IsPlaced}

abbrev at : List ℕ → ℕ → ℕ
at words i = get_or words i 0

-- ---- sets of numbers

same : (s t : FinSet nat_cmp) → ((q : ℕ) → contains s q ≡ true → contains t q ≡ true)
    → ((q : ℕ) → contains t q ≡ true → contains s q ≡ true) → s ≡ t
same s t f g = same_set nat_cmp_total nat_cmp-IsAntisymmetric s t (λ q. both_ways _ _ (f q) (g q))

pub none_in : (s : FinSet nat_cmp) → s ≡ empty → (q : ℕ) → contains s q ≡ true → ⊥
none_in s e q h = true≢false (sym h ∙ ap (λ z. contains z q) e ∙ contains-empty nat_cmp q)

module _ (s t : FinSet nat_cmp) (n : ℕ) (e : t ≡ insert s n) where
  told : (q : ℕ) → contains t q ≡ (eqb q n || contains s q)
  told q = ap (λ z. contains z q) e ∙ contains-insert nat_cmp_total s n q ∙ ap (λ a. a || contains s q) (unsigned_tied q n)

  pub put-has : contains t n ≡ true
  put-has = told n ∙ or_left _ _ (eq-eqb n n refl)

  pub put-keeps : (q : ℕ) → contains s q ≡ true → contains t q ≡ true
  put-keeps q h = told q ∙ or_right _ _ h

  pub put-only : (q : ℕ) → contains t q ≡ true → (q ≡ n) ⊎ (contains s q ≡ true)
  put-only q h = grind (arith, nat_tests, told q)

-- ---- which numbers there are

module _ (words : List ℕ) (n : ℕ) where
  among : contains (numbers_in words) n ≡ (not (eqb n 0) && list_any (λ y. eqb y n) words)
  among = contains-remove nat_cmp_total (from_list words) 0 n ∙ ap₂ (λ a b. not a && b) (unsigned_tied n 0) (contains-from_list_nat words n)

  -- a number stands at some place, and is above 0
  place_of : contains (numbers_in words) n ≡ true → (i : ℕ) × (i < length words) × IsNumberAt words n i
  place_of h =
      let p = and_parts (not (eqb n 0)) (list_any (λ y. eqb y n) words) (sym among ∙ h) in
      let a = Any-from_list_any (λ y. eqb y n) words p.1 in
      (a.0, a.2, (eqb-false n 0 (not-true (eqb n 0) p.0), get_or_default words a.0 0 a.1 a.2 ∙ a.3 ∙ eqb-true a.1 n a.4))

  -- what stands at a place is a number
  stands : (i : ℕ) → IsNumberAt words n i → contains (numbers_in words) n ≡ true
  stands i a =
      let l : i < length words = grind (arith, get_or_past words i 0) in
      among
      ∙ and_from (not (eqb n 0)) (list_any (λ y. eqb y n) words)
      (not_from_false (eqb n 0) (ne_eqb n 0 a.0))
      (list_any_at (λ y. eqb y n) words i 0 l (eq-eqb (at words i) n a.1))

pub none_cleared : (n : ℕ) → numbers_in (replicate n 0) ≡ empty
none_cleared n = same _ _ (λ q h. absurd (no q (place_of (replicate n 0) q h))) (λ q h. absurd (none_in empty refl q h))
  where
    no : (q : ℕ) → (i : ℕ) × (i < length {A = ℕ} (replicate n 0)) × IsNumberAt (replicate n 0) q i → ⊥
    no q p = p.2.0 (sym p.2.1 ∙ get_or-replicate n p.0 0 0 (omega (arith, p.1, length-replicate {A = ℕ} n 0)))

-- a number that is there is not put again
pub numbers-same : (words : List ℕ) (i n : ℕ) → IsNumberAt words n i → numbers_in words ≡ insert (numbers_in words) n
numbers-same words i n a = same _ _ (put-keeps _ _ n refl)
    (λ q c. grind (arith, put-only (numbers_in words) _ n refl q c, stands words n i a))

-- ---- how many words behind the homes are free

abbrev count_one : Bool → ℕ
count_one b = if b then 1 else 0

first_word : (w : ℕ) (words : List ℕ) → free_behind 0 (w ∷ words) ≡ count_one (is_free w) + free_behind 0 words
first_word w words = sum_by-cons (λ x. count_one (is_free x)) w words

pub free_cleared : (n homes : ℕ) → free_behind homes (replicate n 0) ≡ n - homes
free_cleared n homes =
    ap (free_behind 0) (drop-replicate homes n 0)
    ∙ sum_by-replicate (λ x. count_one (is_free x)) (n - homes) 0
    ∙ omega arith

-- a number put takes one at most
pub free-put : (words : List ℕ) (homes i n : ℕ) → free_behind homes words ≤ free_behind homes (set words i n) + 1
free-put [] homes i n = omega arith
free-put (w ∷ words) zero zero n =
    let l : count_one (is_free w) ≤ 1 = grind (arith, ints) in
    omega (arith, first_word w words, first_word n words)
free-put (w ∷ words) zero (suc i) n = omega (arith, first_word w words, first_word w (set words i n), free-put words zero i n)
free-put (w ∷ words) (suc homes) zero n = omega arith
free-put (w ∷ words) (suc homes) (suc i) n = free-put words homes i n

none_free : (words : List ℕ) (homes : ℕ) → ((k : ℕ) → homes ≤ k → k < length words → at words k ≢ 0) → free_behind homes words ≡ 0
none_free [] zero h = refl
none_free [] (suc homes) h = refl
none_free (w ∷ words) zero h =
    let z = ne_eqb w 0 (h 0 (omega arith) (omega arith)) in
    omega (arith, first_word w words, ap count_one z, none_free words zero (λ k l m. h (suc k) (omega arith) (omega arith)))
none_free (w ∷ words) (suc homes) h = none_free words homes (λ k l m. h (suc k) (omega arith) (omega arith))

-- ---- a table

-- a number above all is not among them
pub too-large : (homes : ℕ) (words : List ℕ) (most n : ℕ) → IsPlaced homes words most → most < n → contains (numbers_in words) n ≡ false
too-large homes words most n t l = both_ways _ _
    (λ h. let q = place_of words n h in absurd (omega (arith, q.2.1, t.low q.0)))
    (λ e. absurd (true≢false (sym e)))

module _ (homes : ℕ) (words : List ℕ) (most n place : ℕ) (t : IsPlaced homes words most) (p : IsPlaceFor homes words n place) where
  -- n is at no place: not before this one, and at this one a look for it ends
  missing : contains (numbers_in words) n ≡ false
  missing = both_ways _ _ (λ h. let q = place_of words n h in absurd (never q.0 q.2.0 q.2.1)) (λ e. absurd (true≢false (sym e)))
    where
      never : (i : ℕ) → n ≢ 0 → at words i ≡ n → ⊥
      never i z e =
          let r = t.reached i (λ y. z (sym e ∙ y)) in
          let f : home_of homes (at words i) ≡ home_of homes n = ap (home_of homes) e in
          grind (arith, f, r.from, r.taken place, p.missed i, p.reached.from)

  -- if a word behind the homes is free, n is put into one
  module _ (r : 0 < free_behind homes words) where
    home_below : home_of homes n < homes
    unfolding home_of
    home_below = mod-lt _ t.some

    pub put-inside : place < length words
    put-inside = go (dec_lt place (length words))
      where
        go : Dec (place < length words) → place < length words
        go (yes l) = l
        go (no l) = absurd (omega (arith, none_free words homes (λ k a b. p.reached.taken k (omega (arith, home_below)) (omega arith))))

    module _ (z : n ≢ 0) where
      abbrev Word : ℕ → Type 0
      Word k = ((k ≡ place) × (at (set words place n) k ≡ n)) ⊎ ((k ≢ place) × (at (set words place n) k ≡ at words k))

      word : (k : ℕ) → Word k
      word k = go (ℕ_discrete k place)
        where
          go : Dec (k ≡ place) → Word k
          go (yes e) = inl (e, ap (at (set words place n)) e ∙ get_or-set_same words place n 0 put-inside)
          go (no e) = inr (e, get_or-set_other words place k n 0 e)

      -- a word that was not free is what it was
      kept : (k : ℕ) → at words k ≢ 0 → at (set words place n) k ≡ at words k
      kept k o = get_or-set_other words place k n 0 (λ e. o (ap (at words) e ∙ p.free))

      pub numbers-put : numbers_in (set words place n) ≡ insert (numbers_in words) n
      numbers-put = same _ _
          (λ q c. let i = place_of (set words place n) q c in to q i.0 i.2.0 i.2.1 (word i.0))
          (λ q c. from q (put-only (numbers_in words) _ n refl q c))
        where
          to : (q i : ℕ) → q ≢ 0 → at (set words place n) i ≡ q → Word i → contains (insert (numbers_in words) n) q ≡ true
          to q i o e (inl w) = ap (contains (insert (numbers_in words) n)) (sym e ∙ w.1) ∙ put-has (numbers_in words) _ n refl
          to q i o e (inr w) = put-keeps (numbers_in words) _ n refl q (stands words q i (o, sym w.1 ∙ e))

          from : (q : ℕ) → (q ≡ n) ⊎ (contains (numbers_in words) q ≡ true) → contains (numbers_in (set words place n)) q ≡ true
          from q (inl e) =
              ap (contains (numbers_in (set words place n))) e
              ∙ stands (set words place n) n place (z, get_or-set_same words place n 0 put-inside)
          from q (inr e) =
              let i = place_of words q e in
              stands (set words place n) q i.0 (i.2.0, kept i.0 (λ o. i.2.0 (sym i.2.1 ∙ o)) ∙ i.2.1)

      pub placed-put : (most' : ℕ) → most ≤ most' → n ≤ most' → IsPlaced homes (set words place n) most'
      placed-put most' a b = record {
        some = t.some;
        within = omega (arith, t.within, length-set words place n);
        low = λ k. grind (arith, word k, t.low k);
        reached = λ k o. reached k o (word k);
      }
        where
          still : {m i : ℕ} → IsReached homes words m i → IsReached homes (set words place n) m i
          still r = record { from = r.from; taken = λ k l h e. r.taken k l h (sym (kept k (r.taken k l h)) ∙ e) }

          reached : (k : ℕ) → at (set words place n) k ≢ 0 → Word k → IsReached homes (set words place n) (at (set words place n) k) k
          reached k o (inl e) = rw (e.1, e.0) (still p.reached)
          reached k o (inr e) = rw (e.1) (still (t.reached k (λ y. o (e.1 ∙ y))))

-- what the look for n tells
pub find-tells : (homes : ℕ) (words : List ℕ) (most n : ℕ) → IsPlaced homes words most → (r : Result ℕ ℕ) → IfOk r (IsNumberAt words n)
    → IfErr r (IsPlaceFor homes words n) → is_ok r ≡ contains (numbers_in words) n
find-tells homes words most n t (Ok place) a p = sym (stands words n place a)
find-tells homes words most n t (Err place) a p = sym (missing homes words most n place t p)
