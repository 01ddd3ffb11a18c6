-- Pairs from one on: of structs, and of flat numbers taken two at a time.
use mathlib.Core.Path.{◌≡◌, refl, ap}
use mathlib.Core.List.{List, [], ◌∷◌, map}
use Prim.Native.Nat.{ℕ, zero, suc, ◌+◌, ◌≤◌, ◌<◌, ◌/◌}
use native.Mathlib.Numerals.{add-one}
use native.Mathlib.Omega.{arith}
use lib.ListN.{length, drop, get_or}
use Rattle.specification.specs.Views.{pairs_of}
use Rattle.std.specs.Simd.{first_chunks}
use Rattle.view.specs.Ties.{two_of}

-- the pairs from pair i on
pub pairs-next : {P : Type 0} (f : P → ℕ × ℕ) (pairs : List P) (i : ℕ) (p : P) → i < length pairs → p ≡ get_or pairs i p → drop i (map f pairs) ≡ f p ∷ drop (i + 1) (map f pairs)
pairs-next {P} f pairs i p h e = rw add-one (go pairs i h e)
  where
    go : (pairs : List P) (i : ℕ) → i < length pairs → p ≡ get_or pairs i p → drop i (map f pairs) ≡ f p ∷ drop (suc i) (map f pairs)
    go [] i h e = absurd (omega arith)
    go (q ∷ pairs) zero h e = rw e refl
    go (q ∷ pairs) (suc i) h e = go pairs i (omega arith) e

pub pairs-end : {P : Type 0} (f : P → ℕ × ℕ) (pairs : List P) (i : ℕ) → length pairs ≤ i → drop i (map f pairs) ≡ []
pairs-end f [] zero h = refl
pairs-end f [] (suc i) h = refl
pairs-end f (p ∷ pairs) zero h = absurd (omega arith)
pairs-end f (p ∷ pairs) (suc i) h = pairs-end f pairs i (omega arith)

-- numbers taken two at a time are the pairs that they give
pub numbers_paired : (numbers : List ℕ) → map two_of (first_chunks 2 (length numbers / 2) numbers) ≡ pairs_of numbers
unfolding pairs_of
numbers_paired numbers = by (length numbers / 2) numbers refl
  where
    by : (n : ℕ) (l : List ℕ) → length l / 2 ≡ n → map two_of (first_chunks 2 n l) ≡ pairs_of l
    by zero [] e = refl
    by zero (a ∷ []) e = refl
    by zero (a ∷ b ∷ rest) e = absurd (omega arith)
    by (suc n) [] e = absurd (omega arith)
    by (suc n) (a ∷ []) e = absurd (omega arith)
    by (suc n) (a ∷ b ∷ rest) e = ap (λ (l : List (ℕ × ℕ)). (a, b) ∷ l) (by n rest (omega arith))
