-- The distances of active axes: how far apart the sums of two index vectors can be that differ.
use Rattle.std.specs.Prelude.{List, ℕ, nat_abs, ◌^◌, ◌<◌, ◌≤◌, ◌≡◌, length}
use Rattle.specification.specs.Search.{ActiveAxis, total, span_sum, box, half, difference_at, difference_sum}

-- where a walk over the difference vectors of axes stands: at the vector of this number
pub record DifferencesAt : Type 0 where
  pub axes : List ActiveAxis
  pub number : ℕ

-- the distance of difference vector number k: its sum without its sign
abbrev pub distance_at : List ActiveAxis → ℕ → ℕ
distance_at axes k = nat_abs (difference_sum axes (difference_at axes k))

-- n is the distance of a vector above the zero vector; each below is opposite to one above, and has its distance
pub record IsDistance (axes : List ActiveAxis) (n : ℕ) : Type 0 where
  pub number : ℕ
  pub above : half axes < number
  pub below : number < box axes
  pub is : distance_at axes number ≡ n

-- two parts of axes: 0 is a distance of one, or one number is a distance of both
pub data Meets (first second : List ActiveAxis) : Type 0 where
  in_first : IsDistance first 0 → Meets first second
  in_second : IsDistance second 0 → Meets first second
  in_both : (n : ℕ) → IsDistance first n → IsDistance second n → Meets first second

-- at most 16 axes, none of extent 0, whose sums of index × stride fit a word
pub record IsWalkable (axes : List ActiveAxis) : Type 0 where
  pub few : length axes ≤ 16
  pub some : 0 < total axes
  pub fits : span_sum axes < 2 ^ 64
