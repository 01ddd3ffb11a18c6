-- Laws of `table`: functions that agree, one entry more, its length, and an entry.
use mathlib.Core.Path.{◌≡◌, refl, ◌∙◌}
use mathlib.Core.List.{[], ◌∷◌, ◌++◌}
use Prim.Native.Nat.{ℕ, zero, suc, ◌+◌, ◌<◌}
use native.Mathlib.Nat.{not-suc-le-zero, le_refl}
use native.Mathlib.Numerals.{add-one}
use native.Mathlib.Omega.{arith}
use lib.ListN.{length, get_or, length-append, get_or-append}
use lib.Seq.{get_or_at}
use Rattle.std.proofs.lemmas.Int.{ints}
use Rattle.view.specs.Table.{table}

module _ {A : Type 0} where
  pub table-zero : (f : ℕ → A) → table 0 f ≡ []
  unfolding table
  table-zero f = refl

  -- functions that agree below n have one table
  pub table-ext : (f g : ℕ → A) (n : ℕ) → ((i : ℕ) → i < n → f i ≡ g i) → table n f ≡ table n g
  unfolding table
  table-ext f g zero h = refl
  table-ext f g (suc n) h = cc (table-ext f g n (λ i l. h i (omega arith)), h n (le_refl (suc n)))

  pub table-suc : (f : ℕ → A) (n : ℕ) → table (n + 1) f ≡ table n f ++ (f n ∷ [])
  unfolding table
  table-suc f n = rw add-one

  pub length-table : (f : ℕ → A) (n : ℕ) → length (table n f) ≡ n
  unfolding table
  length-table f zero = refl
  length-table f (suc n) = length-append (table n f) (f n ∷ []) ∙ rw (length-table f n) (omega arith)

  -- entry i is f i
  pub get_or-table : (f : ℕ → A) (n i : ℕ) (d : A) → i < n → get_or (table n f) i d ≡ f i
  unfolding table
  get_or-table f zero i d h = absurd (not-suc-le-zero h)
  get_or-table f (suc n) i d h =
      let below : i < n → get_or (table n f) i d ≡ f i = λ l. get_or-table f n i d l in
      grind (arith, ints, length-table f n, get_or_at (table n f) (f n) [] d n, get_or-append (table n f) (f n ∷ []) d i)
