-- The two parts that the axes of a block are split into, and what the walks over their differences leave and ask.
use Rattle.std.specs.Prelude.{List, ◌⊎◌, ◌≡◌, ◌↔◌, ℕ, ◌+◌, ◌*◌, ◌≤◌, length, take, IsTrue}
use Rattle.std.specs.FinSet.{FinSet, contains}
use Rattle.std.specs.Ordering.{nat_cmp}
use Rattle.specification.specs.Search.{ActiveAxis, box}
use Rattle.differences.specs.Differences.{IsDistance}

-- the first part: the axes before `place`, with so many difference vectors, all of which have room in so many words
pub record SplitFor (axes : List ActiveAxis) (words place vectors : ℕ) : Type 0 where
  pub within : place ≤ length axes
  pub vectors_are : vectors ≡ box (take place axes)
  pub room : 2 * vectors ≤ words + 1

-- the numbers are the distances
abbrev pub AreDistances : List ActiveAxis → FinSet nat_cmp → Type 0
AreDistances axes numbers = (n : ℕ) → IsTrue (contains numbers n) ↔ IsDistance axes n

-- some distance is 0, or one of the numbers
abbrev pub MeetsNumbers : List ActiveAxis → FinSet nat_cmp → Type 0
MeetsNumbers axes numbers = IsDistance axes 0 ⊎ ((n : ℕ) × IsDistance axes n × IsTrue (contains numbers n))
