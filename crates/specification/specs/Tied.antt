-- What it is that two axes are tied: by a pair, or by a chain of pairs.
-- RULES, "Diagonal view".
use Rattle.std.specs.Prelude.{List, [], ◌∷◌, ◌⊎◌, ◌≡◌, ℕ}

-- a pair is in the list
abbrev pub Among : ℕ × ℕ → List (ℕ × ℕ) → Type 0
Among p [] = ⊥
Among p (q ∷ rest) = (p ≡ q) ⊎ Among p rest

-- a and b are tied by a chain of pairs, each taken either way
pub data IsTied (pairs : List (ℕ × ℕ)) : ℕ → ℕ → Type 0 where
  itself : {a : ℕ} → IsTied pairs a a
  pair : (p : ℕ × ℕ) → Among p pairs → IsTied pairs p.0 p.1
  turned : {a b : ℕ} → IsTied pairs a b → IsTied pairs b a
  chain : {a b c : ℕ} → IsTied pairs a b → IsTied pairs b c → IsTied pairs a c
