-- Of a vector and its opposite, which stands as far from the other end, one is above the zero vector: so of each other vector the
-- distance is one.
use Rattle.std.proofs.Common.{◌≡◌, ◌≢◌, ap, ℕ, ◌+◌, ◌*◌, ◌-◌, ◌/◌, ◌%◌, ◌<◌, ◌≤◌, List, [], ◌∷◌, arith, mod-lt}
use Rattle.std.proofs.Math.Decide.{dec_lt, dec_le}
use Rattle.std.proofs.Math.Nat.{mod-add-div}
use Rattle.std.proofs.lemmas.Nat.{same_from_place}
use Rattle.specification.specs.Axis.{product, index_at}
use Rattle.specification.specs.Search.{ActiveAxis, total, reach, span_sum, box, half}
use Rattle.differences.specs.Differences.{IsDistance, distance_at}
use Rattle.differences.proofs.BoxLaws.{head-some}
use Rattle.differences.proofs.ZeroVector.{half-doubled}
use Rattle.differences.proofs.DistanceLaws.{digit_sum, distance-is}

-- two numbers of a low digit and a rest that together are the highest such number
fills : (w b r r' q q' : ℕ) → r < w → r' < w → r + w * q + (r' + w * q') + 1 ≡ w * b → (r + r' + 1 ≡ w) × (q + q' + 1 ≡ b)
fills w b r r' q q' l l' e = go (dec_lt (r + r' + 1) w)
  where
    go : Dec (r + r' + 1 < w) → (r + r' + 1 ≡ w) × (q + q' + 1 ≡ b)
    go (yes h) = let s = same_from_place (q + q') (r + r' + 1) b 0 w h (omega arith) (omega arith) in absurd (omega (arith, s.1))
    go (no h) =
        let s = same_from_place (q + q' + 1) (r + r' + 1 - w) b 0 w (omega arith) (omega arith) (omega arith) in
        (omega (arith, s.1), s.0)

-- the digits of opposite vectors sum to twice the span
opposite-sum : (axes : List ActiveAxis) (j k : ℕ) → j + k + 1 ≡ box axes → digit_sum axes j + digit_sum axes k ≡ 2 * span_sum axes
unfolding index_at reach span_sum product
opposite-sum [] j k e = omega arith
opposite-sum (a ∷ rest) j k e =
    let w : ℕ = 2 * a.extent - 1 in
    let s : 0 < w = (head-some w (box rest) (omega (arith, e))).0 in
    let p : j % w + w * (j / w) + (k % w + w * (k / w)) + 1 ≡ w * box rest = omega (arith, mod-add-div j w, mod-add-div k w, e) in
    let f = fills w (box rest) (j % w) (k % w) (j / w) (k / w) (mod-lt j s) (mod-lt k s) p in
    let d : j % w + k % w ≡ 2 * (a.extent - 1) = omega (arith, f.0) in
    omega (arith, opposite-sum rest (j / w) (k / w) f.1, ap (λ (n : ℕ). n * a.stride) d)

-- that of the zero vector is the span
pub half-sum : (axes : List ActiveAxis) → 0 < total axes → digit_sum axes (half axes) ≡ span_sum axes
half-sum axes h = omega (arith, opposite-sum axes (half axes) (half axes) (omega (arith, half-doubled axes h)))

module _ {axes : List ActiveAxis} (h : 0 < total axes) where
  pub distance-from : {n : ℕ} (k : ℕ) → k < box axes → k ≢ half axes → distance_at axes k ≡ n → IsDistance axes n
  distance-from {n} k l o e = go (dec_lt (half axes) k)
    where
      go : Dec (half axes < k) → IsDistance axes n
      go (yes m) = record { number = k; above = m; below = l; is = e }
      go (no m) =
          let j : ℕ = box axes - 1 - k in
          let b = opposite-sum axes j k (omega arith) in
          record {
            number = j;
            above = omega (arith, half-doubled axes h, o);
            below = omega arith;
            is = omega (arith, e, b, distance-is axes j, distance-is axes k);
          }

-- a vector other than the zero vector whose digits sum to the span, but for so much less or more
pub record Apart (axes : List ActiveAxis) (less more : ℕ) : Type 0 where
  pub number : ℕ
  pub below : number < box axes
  pub other : number ≢ half axes
  pub is : digit_sum axes number + less ≡ span_sum axes + more

module _ {axes : List ActiveAxis} (h : 0 < total axes) where
  -- the opposite one
  pub turned : {less more : ℕ} → Apart axes less more → Apart axes more less
  turned a =
      let j : ℕ = box axes - 1 - a.number in
      record {
        number = j;
        below = omega (arith, a.below);
        other = omega (arith, a.below, a.other, half-doubled axes h);
        is = omega (arith, a.is, opposite-sum axes j a.number (omega (arith, a.below)));
      }

  pub distance-apart : {n : ℕ} → IsDistance axes n → Apart axes 0 n
  distance-apart {n} d = go (dec_le (span_sum axes) (digit_sum axes d.number))
    where
      other : d.number ≢ half axes
      other = omega (arith, d.above)

      go : Dec (span_sum axes ≤ digit_sum axes d.number) → Apart axes 0 n
      go (yes l) = record { number = d.number; below = d.below; other = other; is = omega (arith, d.is, distance-is axes d.number) }
      go (no l) = turned (record { number = d.number; below = d.below; other = other; is = omega (arith, d.is, distance-is axes d.number) })
