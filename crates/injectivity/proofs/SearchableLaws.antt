-- Axes that can be searched, of which some in front are taken: these can be searched too, and their total and span are within the whole.
use Rattle.std.proofs.Common.{ℕ, zero, suc, ◌≤◌, ◌<◌, List, [], ◌∷◌, length, take, arith}
use native.Mathlib.Nat.{mul-le-mul_left}
use Rattle.specification.specs.Axis.{product}
use Rattle.specification.specs.Search.{ActiveAxis, lengths, total, span_sum}
use Rattle.specification.specs.BlockClaims.{entry_at}
use Rattle.specification.proofs.Digits.{PositiveExtents, product-positive}
use Rattle.sorting.specs.Numbered.{IsFree, IsNumbered}
use Rattle.search.specs.Block.{Side, Sides}

pub side-at : (l : List ActiveAxis) → Sides l → (i : ℕ) → i < length l → Side (entry_at l i).extent (entry_at l i).stride
side-at [] s i h = absurd (omega arith)
side-at (a ∷ l) s zero h = s.0
side-at (a ∷ l) s (suc i) h = side-at l s.1 i (omega arith)

lengths-positive : (l : List ActiveAxis) → Sides l → PositiveExtents (lengths l)
lengths-positive [] s = PositiveExtents.none
lengths-positive (a ∷ rest) s = let h : 0 < a.extent = omega (arith, s.0.long) in PositiveExtents.more h (lengths-positive rest s.1)

pub total-positive : (l : List ActiveAxis) → Sides l → 0 < total l
total-positive l s = product-positive (lengths-positive l s)

-- ---- those in front

module _ (n : ℕ) where
  free-take : (k : ℕ) (l : List ActiveAxis) → IsFree n l → IsFree n (take k l)
  free-take zero l f = tt
  free-take (suc k) [] f = tt
  free-take (suc k) (a ∷ l) f = (f.0, free-take k l f.1)

pub numbered-take : (k : ℕ) (l : List ActiveAxis) → IsNumbered l → IsNumbered (take k l)
numbered-take zero l d = tt
numbered-take (suc k) [] d = tt
numbered-take (suc k) (a ∷ l) d = (free-take a.axis k l d.0, numbered-take k l d.1)

pub sides-take : (k : ℕ) (l : List ActiveAxis) → Sides l → Sides (take k l)
sides-take zero l s = tt
sides-take (suc k) [] s = tt
sides-take (suc k) (a ∷ l) s = (s.0, sides-take k l s.1)

pub span-take : (k : ℕ) (l : List ActiveAxis) → span_sum (take k l) ≤ span_sum l
unfolding span_sum
span-take zero l = omega arith
span-take (suc k) [] = omega arith
span-take (suc k) (a ∷ l) = omega (arith, span-take k l)

pub total-take : (k : ℕ) (l : List ActiveAxis) → Sides l → total (take k l) ≤ total l
unfolding product
total-take zero l s = total-positive l s
total-take (suc k) [] s = omega arith
total-take (suc k) (a ∷ l) s = mul-le-mul_left a.extent (total-take k l s.1)
