-- A walk over the vectors above the zero vector: the distance of each is a distance, and what is put into the table so.
use Rattle.std.proofs.Common.{◌≡◌, ◌≢◌, ◌⊎◌, ◌∙◌, refl, sym, ap, inl, inr, ℕ, ◌<◌, ◌≤◌, List, true, arith}
use Rattle.std.proofs.Math.Decide.{ℕ_discrete}
use Rattle.std.specs.FinSet.{FinSet, contains, insert, contains-empty}
use Rattle.std.specs.Ordering.{nat_cmp}
use Rattle.specification.specs.Search.{ActiveAxis, box, half}
use Rattle.differences.specs.Differences.{IsDistance, distance_at}
use Rattle.differences.proofs.BoxLaws.{box-some}
use Rattle.differences.proofs.ZeroVector.{half-doubled}
use Rattle.enumeration.proofs.TableLaws.{put-has, put-keeps, put-only}

-- the first part shows `grind` the call to match
pub visited : (axes : List ActiveAxis) (k : ℕ) → half axes < k → k < box axes
    → (distance_at axes k ≡ distance_at axes k) × IsDistance axes (distance_at axes k)
visited axes k l h = (refl, record { number = k; above = l; below = h; is = refl })

pub ruleset visits = (visited, contains-empty, box-some, half-doubled)

-- the distance n of vector j is put
module _ (axes : List ActiveAxis) (s t : FinSet nat_cmp) (n j : ℕ) (put : t ≡ insert s n) (d : n ≡ distance_at axes j) where
  pub each-more : n ≢ 0 → (k : ℕ) → (k < j → (distance_at axes k ≢ 0) × (contains s (distance_at axes k) ≡ true)) → k ≤ j
      → (distance_at axes k ≢ 0) × (contains t (distance_at axes k) ≡ true)
  each-more z k i h = go (ℕ_discrete k j)
    where
      go : Dec (k ≡ j) → (distance_at axes k ≢ 0) × (contains t (distance_at axes k) ≡ true)
      go (yes e) =
          let f : distance_at axes k ≡ n = ap (distance_at axes) e ∙ sym d in
          (λ o. z (sym f ∙ o), ap (contains t) f ∙ put-has s t n put)
      go (no e) = let p = i (omega arith) in (p.0, put-keeps s t n put _ p.1)

  pub only-more : half axes < j → j < box axes → (q : ℕ) → (contains s q ≡ true → IsDistance axes q) → contains t q ≡ true
      → IsDistance axes q
  only-more l h q i c = go (put-only s t n put q c)
    where
      go : (q ≡ n) ⊎ (contains s q ≡ true) → IsDistance axes q
      go (inl e) = record { number = j; above = l; below = h; is = sym (e ∙ d) }
      go (inr o) = i o
