-- More arguments than values: two share one. By induction on the number of values: if no earlier argument shares the value of the last,
-- its value is taken out by moving the greatest value into its place.
use mathlib.Core.Path.{◌≡◌}
use mathlib.Core.Logic.{◌≢◌, ◌⊎◌, inl, inr}
use Prim.Native.Nat.{ℕ, zero, suc, ◌<◌}
use native.Mathlib.Decide.{ℕ_discrete}
use Rattle.integer.proofs.Decide.{find}
use native.Mathlib.Omega.{arith}
use Rattle.std.proofs.lemmas.Int.{ints}

-- two arguments below n that share a value
pub record Clash (f : ℕ → ℕ) (n : ℕ) : Type 0 where
  pub i : ℕ
  pub j : ℕ
  pub lt : i < j
  pub below : j < n
  pub same : f i ≡ f j

-- the value m moved to v
moved : (v m x : ℕ) → Dec (x ≡ m) → ℕ
moved v m x (yes p) = v
moved v m x (no p) = x

-- values below m + 1 other than v come below m
moved-lt : (v m x : ℕ) (d : Dec (x ≡ m)) → v < suc m → x < suc m → x ≢ v → moved v m x d < m
unfolding moved
moved-lt v m x d hv hx ne = grind (arith, ints)

-- and stay different
moved-inj : (v m x y : ℕ) (d : Dec (x ≡ m)) (e : Dec (y ≡ m)) → x ≢ v → y ≢ v → moved v m x d ≡ moved v m y e → x ≡ y
unfolding moved
moved-inj v m x y d e hx hy h = grind (arith, ints)

-- n arguments with values below m
pub pigeonhole : (m n : ℕ) (f : ℕ → ℕ) → ((i : ℕ) → i < n → f i < m) → m < n → Clash f n
pigeonhole zero n f b h = absurd (let z : f 0 < 0 = b 0 h in omega arith)
pigeonhole (suc m) zero f b h = absurd (omega arith)
pigeonhole (suc m) (suc n) f b h = go (λ q. pigeonhole m n g q (omega arith)) (find (λ i. f i ≡ f n) (λ i. ℕ_discrete (f i) (f n)) n)
  where
    g : ℕ → ℕ
    g i = moved (f n) m (f i) (ℕ_discrete (f i) m)

    go : (((i : ℕ) → i < n → g i < m) → Clash g n) → ((i : ℕ) × (i < n) × (f i ≡ f n)) ⊎ ((i : ℕ) → i < n → f i ≢ f n) → Clash f (suc n)
    go rec (inl w) = record { i = w.0; j = n; lt = w.1; below = omega arith; same = w.2 }
    go rec (inr ne) =
        let c = rec (λ i l. moved-lt (f n) m (f i) (ℕ_discrete (f i) m) (b n (omega arith)) (b i (omega arith)) (ne i l)) in
        record {
          i = c.i;
          j = c.j;
          lt = c.lt;
          below = omega arith;
          same = moved-inj (f n) m (f c.i) (f c.j) (ℕ_discrete (f c.i) m) (ℕ_discrete (f c.j) m) (ne c.i (omega arith)) (ne c.j c.below) c.same;
        }
