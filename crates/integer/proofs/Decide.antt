-- Two ways to decide: by a test, and by trying every number below a bound.
use Rattle.std.proofs.Common.{◌≡◌, ◌⊎◌, Bool, T, false, not, true, ℕ, zero, suc, ◌<◌, arith, inl, inr}
use native.Mathlib.Decide.{ℕ_discrete}

-- A test that decides, with what it says if it holds and if it does not.
unfoldable pub by_test : {P : Type 0} → (t : Bool) → (T t → P) → (T (not t) → P → ⊥) → Dec P
by_test true f g = yes (f tt)
by_test false f g = no (λ p. g tt p)

-- A bounded search: the greatest number below n that has the property, or that none has it.
pub find : (P : ℕ → Type 0) → ((i : ℕ) → Dec (P i)) → (n : ℕ) → ((i : ℕ) × (i < n) × P i) ⊎ ((i : ℕ) → i < n → ¬ (P i))
find P d zero = inr (λ i h. absurd (omega arith))
find P d (suc n) = go (find P d n) (d n)
  where
    go : ((i : ℕ) × (i < n) × P i) ⊎ ((i : ℕ) → i < n → ¬ (P i)) → Dec (P n) → ((i : ℕ) × (i < suc n) × P i) ⊎ ((i : ℕ) → i < suc n → ¬ (P i))
    go (inl w) e = inl (w.0, omega arith, w.2)
    go (inr f) (yes p) = inl (n, omega arith, p)
    go (inr f) (no p) = inr (λ i h. last i h (ℕ_discrete i n))
      where
        last : (i : ℕ) → i < suc n → Dec (i ≡ n) → ¬ (P i)
        last i h (yes e) = rw e p
        last i h (no e) = f i (omega arith)
