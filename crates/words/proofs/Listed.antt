-- Entries read one after another, as a loop does.
use Rattle.std.proofs.Common.{◌≡◌, ℕ, zero, suc, ◌+◌, ◌<◌, ◌≤◌, List, [], ◌∷◌, ◌++◌, length, map, drop, get_or, Option, Some, None, Ok, Err, refl, sym, ap, append_assoc, arith}
use Rattle.std.proofs.lemmas.List.{append-nil}
use Rattle.words.specs.declared.fault.Form.{Form}
use Rattle.words.specs.Texts.{misspelled_entry}
use Rattle.words.specs.Words.{Told, ◌>>=◌, listed}

-- what was read before, and what is still read
abbrev pub with_front : {A : Type 0} → List A → Told (List A) → Told (List A)
with_front front read = read >>= λ xs. Ok (front ++ xs)

regroup : {A : Type 0} (front : List A) (x : A) (read : Told (List A)) → with_front front (read >>= λ xs. Ok (x ∷ xs)) ≡ with_front (front ++ x ∷ []) read
regroup front x (Ok xs) = ap Ok (sym (append_assoc front (x ∷ []) xs))
regroup front x (Err text) = refl

module _ {A : Type 0} (spelled : List ℕ → Option A) (form : Form) (word place : ℕ) (front : List A) (text : List ℕ) (texts : List (List ℕ)) where
  pub goes_on : (x : A) → Some x ≡ spelled text → with_front front (listed spelled form word place (text ∷ texts)) ≡ with_front (front ++ x ∷ []) (listed spelled form word (place + 1) texts)
  unfolding listed
  goes_on x e = rw (← e) (regroup front x (listed spelled form word (place + 1) texts))

  pub stops : None ≡ spelled text → with_front front (listed spelled form word place (text ∷ texts)) ≡ Err (misspelled_entry word place text form)
  unfolding listed
  stops e = rw (← e) refl

pub ends : {A : Type 0} (spelled : List ℕ → Option A) (form : Form) (word place : ℕ) (front : List A) → with_front front (listed spelled form word place []) ≡ Ok front
unfolding listed
ends spelled form word place front = ap Ok (append-nil front)

-- ---- a list of texts by place

pub drop_map : {X : Type 0} (f : X → List ℕ) (xs : List X) (i : ℕ) (d : X) → i < length xs → drop i (map f xs) ≡ f (get_or xs i d) ∷ drop (i + 1) (map f xs)
drop_map f [] i d lt = absurd (omega arith)
drop_map f (x ∷ xs) zero d lt = refl
drop_map f (x ∷ xs) (suc i) d lt = let e : suc i + 1 ≡ suc (i + 1) = omega arith in rw e (drop_map f xs i d (omega arith))

pub drop_map_end : {X : Type 0} (f : X → List ℕ) (xs : List X) (i : ℕ) → length xs ≤ i → drop i (map f xs) ≡ []
drop_map_end f [] zero le = refl
drop_map_end f [] (suc i) le = refl
drop_map_end f (x ∷ xs) zero le = absurd (omega arith)
drop_map_end f (x ∷ xs) (suc i) le = drop_map_end f xs i (omega arith)
