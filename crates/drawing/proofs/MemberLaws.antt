-- What a list has, entry by entry, and lists that have nothing twice.
use Rattle.std.proofs.Common.{◌≡◌, ◌≢◌, ℕ, zero, suc, ◌+◌, ◌<◌, ◌≤◌, ℤ, List, [], ◌∷◌, length, map, filter, Bool, true, false, Contains, refl, sym, ap, subst, ◌∙◌, arith}
use Rattle.std.specs.Prelude.{int_lt, ◌⊎◌, if◌then◌else◌}
use mathlib.Core.Logic.{inl, inr}
use Rattle.std.specs.List.{range_with_len}
use Rattle.std.specs.Ordering.{int_eq}
use Rattle.std.proofs.lemmas.Int.{ints}
use Rattle.drawing.specs.Drawn.{insert_cell, cells_of}
use Rattle.drawing.proofs.RisingLaws.{AllAfter, Rising}
use Rattle.drawing.proofs.CellLaws.{Above, few_cells, rising}

module _ {A : Type 0} where
  unfoldable pub Has : List A → A → Type 0
  Has [] x = ⊥
  Has (y ∷ list) x = (y ≡ x) ⊎ Has list x

  pub to_Contains : (list : List A) (x : A) → Has list x → Contains list x
  unfolding Has
  to_Contains [] x h = elim h [ ]
  to_Contains (y ∷ list) x (inl e) = (0, omega arith, e)
  to_Contains (y ∷ list) x (inr h) = let c = to_Contains list x h in (suc c.0, omega (arith, c.1), c.2)

  pub from_Contains : (list : List A) (x : A) → Contains list x → Has list x
  unfolding Has
  from_Contains [] x (i, h, e) = absurd (omega arith)
  from_Contains (y ∷ list) x (zero, h, e) = inl e
  from_Contains (y ∷ list) x (suc i, h, e) = inr (from_Contains list x (i, omega arith, e))

  -- of a filter
  pub filtered : (p : A → Bool) (list : List A) (x : A) → Has (filter p list) x → Has list x × (p x ≡ true)
  unfolding Has
  filtered p [] x h = absurd h
  filtered p (y ∷ list) x h = go (p y) refl (filtered p list x) h
    where
      go : (t : Bool) → p y ≡ t → (Has (filter p list) x → Has list x × (p x ≡ true)) → Has (if t then y ∷ filter p list else filter p list) x → Has (y ∷ list) x × (p x ≡ true)
      go true e rest (inl same) = (inl same, ap p (sym same) ∙ e)
      go true e rest (inr h) = let w = rest h in (inr w.0, w.1)
      go false e rest h = let w = rest h in (inr w.0, w.1)

  pub kept : (p : A → Bool) (list : List A) (x : A) → Has list x → p x ≡ true → Has (filter p list) x
  unfolding Has
  kept p [] x h e = h
  kept p (y ∷ list) x h e = go (p y) refl (λ i. kept p list x i e) h
    where
      go : (t : Bool) → p y ≡ t → (Has list x → Has (filter p list) x) → (y ≡ x) ⊎ Has list x → Has (if t then y ∷ filter p list else filter p list) x
      go true q rest (inl same) = inl same
      go true q rest (inr i) = inr (rest i)
      go false q rest (inl same) = absurd (differ (sym q ∙ ap p same ∙ e))
        where
          differ : false ≡ true → ⊥
          differ d = cc
      go false q rest (inr i) = rest i

  -- nothing twice
  unfoldable pub NoTwice : List A → Type 0
  NoTwice [] = Unit {0}
  NoTwice (x ∷ list) = ¬ (Has list x) × NoTwice list

-- ---- values over a range

module _ {A : Type 0} (f : ℕ → A) where
  pub somewhere : (a n : ℕ) (x : A) → Has (map f (range_with_len a n)) x → (k : ℕ) × (a ≤ k) × (k < a + n) × (f k ≡ x)
  unfolding Has
  somewhere a zero x h = absurd h
  somewhere a (suc n) x (inl e) = (a, omega arith, omega arith, e)
  somewhere a (suc n) x (inr h) = let w = somewhere (a + 1) n x h in (w.0, omega (arith, w.1), omega (arith, w.2), w.3)

  pub there : (a n k : ℕ) → a ≤ k → k < a + n → Has (map f (range_with_len a n)) (f k)
  unfolding Has
  there a zero k h l = absurd (omega arith)
  there a (suc n) k h l = go (later a k h) (λ m. there (a + 1) n k m (omega arith))
    where
      later : (a k : ℕ) → a ≤ k → (a ≡ k) ⊎ (a + 1 ≤ k)
      later a k h = grind (arith, ints)

      go : (a ≡ k) ⊎ (a + 1 ≤ k) → (a + 1 ≤ k → Has (map f (range_with_len (a + 1) n)) (f k)) → (f a ≡ f k) ⊎ Has (map f (range_with_len (a + 1) n)) (f k)
      go (inl e) rest = inl (ap f e)
      go (inr m) rest = inr (rest m)

  -- no value twice: no two places have one value
  pub apart_to : (a n : ℕ) → NoTwice (map f (range_with_len a n)) → (i j : ℕ) → a ≤ i → i < j → j < a + n → f i ≢ f j
  unfolding NoTwice
  apart_to a zero t i j h l m e = absurd (omega arith)
  apart_to a (suc n) t i j h l m e = go (later a i h) (λ k. apart_to (a + 1) n t.1 i j k l (omega arith) e)
    where
      later : (a i : ℕ) → a ≤ i → (a ≡ i) ⊎ (a + 1 ≤ i)
      later a i h = grind (arith, ints)

      go : (a ≡ i) ⊎ (a + 1 ≤ i) → (a + 1 ≤ i → ⊥) → ⊥
      go (inl q) rest = t.0 (subst (Has (map f (range_with_len (a + 1) n))) (sym e ∙ ap f (sym q)) (there (a + 1) n j (omega arith) (omega arith)))
      go (inr k) rest = rest k

  pub apart_from : (a n : ℕ) → ((i j : ℕ) → a ≤ i → i < j → j < a + n → f i ≢ f j) → NoTwice (map f (range_with_len a n))
  unfolding NoTwice
  apart_from a zero differ = tt
  apart_from a (suc n) differ = (
    λ h. let w = somewhere (a + 1) n (f a) h in differ a w.0 (omega arith) (omega (arith, w.1)) (omega (arith, w.2)) (sym w.3),
    apart_from (a + 1) n (λ i j h l m. differ i j (omega arith) l (omega arith)),
  )

-- ---- cells

equal-cells : (a b : ℤ) → int_eq a b ≡ true → a ≡ b
equal-cells a b e = grind (arith, ints)

went-in : (z : ℤ) (cells : List ℤ) (x : ℤ) → Has (insert_cell z cells) x → (z ≡ x) ⊎ Has cells x
unfolding Has insert_cell
went-in z [] x h = h
went-in z (cell ∷ cells) x h = go (int_lt z cell) (int_eq z cell) (went-in z cells x) h
  where
    go : (lower equal : Bool) → (Has (insert_cell z cells) x → (z ≡ x) ⊎ Has cells x) → Has (if lower then z ∷ cell ∷ cells else (if equal then cell ∷ cells else cell ∷ insert_cell z cells)) x → (z ≡ x) ⊎ Has (cell ∷ cells) x
    go true equal rest h = h
    go false true rest h = inr h
    go false false rest (inl e) = inr (inl e)
    go false false rest (inr h) = elim (rest h) [ inl e ↦ inl e | inr i ↦ inr (inr i) ]

goes-in : (z : ℤ) (cells : List ℤ) (x : ℤ) → (z ≡ x) ⊎ Has cells x → Has (insert_cell z cells) x
unfolding Has insert_cell
goes-in z [] x h = h
goes-in z (cell ∷ cells) x h = go (int_lt z cell) (int_eq z cell) refl (goes-in z cells x) h
  where
    go : (lower equal : Bool) → int_eq z cell ≡ equal → ((z ≡ x) ⊎ Has cells x → Has (insert_cell z cells) x) → (z ≡ x) ⊎ Has (cell ∷ cells) x
        → Has (if lower then z ∷ cell ∷ cells else (if equal then cell ∷ cells else cell ∷ insert_cell z cells)) x
    go true equal q rest h = h
    go false true q rest (inl e) = inl (sym (equal-cells z cell q) ∙ e)
    go false true q rest (inr h) = h
    go false false q rest (inl e) = inr (rest (inl e))
    go false false q rest (inr (inl e)) = inl e
    go false false q rest (inr (inr i)) = inr (rest (inr i))

pub in_list : (list : List ℤ) (x : ℤ) → Has (cells_of list) x → Has list x
unfolding Has cells_of
in_list [] x h = h
in_list (z ∷ list) x h = elim (went-in z (cells_of list) x h) [ inl e ↦ inl e | inr i ↦ inr (in_list list x i) ]

pub in_cells : (list : List ℤ) (x : ℤ) → Has list x → Has (cells_of list) x
unfolding Has cells_of
in_cells [] x h = h
in_cells (z ∷ list) x (inl e) = goes-in z (cells_of list) x (inl e)
in_cells (z ∷ list) x (inr h) = goes-in z (cells_of list) x (inr (in_cells list x h))

-- ---- as many cells as offsets

above-has : (a : ℤ) (cells : List ℤ) (x : ℤ) → AllAfter Above a cells → Has cells x → Above a x
unfolding Has AllAfter
above-has a [] x after h = absurd h
above-has a (cell ∷ cells) x after (inl e) = subst (Above a) e after.0
above-has a (cell ∷ cells) x after (inr h) = above-has a cells x after.1 h

-- a cell that is there already changes nothing
stays : (z : ℤ) (cells : List ℤ) → Rising Above cells → Has cells z → insert_cell z cells ≡ cells
unfolding Has Rising insert_cell
stays z [] r h = absurd h
stays z (cell ∷ cells) r h = go (int_lt z cell) (int_eq z cell) refl refl (stays z cells r.1) h
  where
    not-lower : int_lt z cell ≡ true → (cell ≡ z) ⊎ Has cells z → ⊥
    not-lower l (inl e) = grind (arith, ints)
    not-lower l (inr i) = let above = above-has cell cells z r.0 i in grind (arith, ints)

    go : (lower equal : Bool) → int_lt z cell ≡ lower → int_eq z cell ≡ equal → (Has cells z → insert_cell z cells ≡ cells) → (cell ≡ z) ⊎ Has cells z
        → (if lower then z ∷ cell ∷ cells else (if equal then cell ∷ cells else cell ∷ insert_cell z cells)) ≡ cell ∷ cells
    go true equal l q rest h = absurd (not-lower l h)
    go false true l q rest h = refl
    go false false l q rest (inl e) = absurd (let n : int_eq z cell ≡ false = q in grind (arith, ints))
    go false false l q rest (inr i) = ap (λ list. cell ∷ list) (rest i)

fresh : (z : ℤ) (cells : List ℤ) → ¬ (Has cells z) → length (insert_cell z cells) ≡ suc (length cells)
unfolding Has insert_cell
fresh z [] n = refl
fresh z (cell ∷ cells) n = go (int_lt z cell) (int_eq z cell) refl (fresh z cells (λ h. n (inr h)))
  where
    go : (lower equal : Bool) → int_eq z cell ≡ equal → length (insert_cell z cells) ≡ suc (length cells)
        → length (if lower then z ∷ cell ∷ cells else (if equal then cell ∷ cells else cell ∷ insert_cell z cells)) ≡ suc (suc (length cells))
    go true equal q rest = refl
    go false true q rest = absurd (n (inl (sym (equal-cells z cell q))))
    go false false q rest = ap suc rest

pub all_apart : (list : List ℤ) → length (cells_of list) ≡ length list → NoTwice list
unfolding NoTwice cells_of
all_apart [] e = tt
all_apart (z ∷ list) e =
    let once : ¬ (Has list z) = λ h.
    let same = stays z (cells_of list) (rising list) (in_cells list z h) in omega (arith, e, ap length same, few_cells list) in
    (once, all_apart list (omega (arith, e, fresh z (cells_of list) (λ h. once (in_list list z h)))))

pub all_counted : (list : List ℤ) → NoTwice list → length (cells_of list) ≡ length list
unfolding NoTwice cells_of
all_counted [] t = refl
all_counted (z ∷ list) t = fresh z (cells_of list) (λ h. t.0 (in_list list z h)) ∙ ap suc (all_counted list t.1)
