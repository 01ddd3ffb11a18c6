-- Axes in two parts: two positions have one sum exactly if 0 is a distance, and that exactly if 0 is one of a part or one number is one
-- of both.
use Rattle.std.proofs.Common.{◌≡◌, ◌≢◌, ◌↔◌, ◌∙◌, length, take, drop, take-append-drop, length-append, ap, ap₂, subst, ℕ, ◌+◌, ◌-◌, ◌*◌, ◌/◌, ◌%◌, ◌<◌, List, [], ◌∷◌, ◌++◌, arith, refl, mod-lt}
use Rattle.std.proofs.Math.Decide.{ℕ_discrete}
use Rattle.std.proofs.Math.Nat.{mod-add-div, add-mul-mod_self_left, add-mul-div_left}
use Rattle.std.proofs.lemmas.Nat.{same_from_place, mul-add-lt}
use Rattle.specification.specs.Axis.{product, index_at}
use Rattle.specification.specs.Search.{ActiveAxis, reach, widths, total, span_sum, box, half, SameSum}
use Rattle.specification.specs.Decided.{same_sum?}
use Rattle.specification.proofs.Digits.{place, quotient-below, index_at-within, place-index_at, index_at-place, place-lt, place-inj}
use Rattle.specification.proofs.Differences.{EqualSums, pair-zero, zero-pair}
use Rattle.specification.proofs.DifferenceWalk.{middle, no_difference-within, widths-positive}
use Rattle.specification.proofs.SearchLaws.{half_is, same-pair, no_same}
use Rattle.differences.specs.Differences.{IsDistance, Meets, in_first, in_second, in_both, IsWalkable, distance_at}
use Rattle.differences.proofs.BoxLaws.{head-some, positive-extents, some-total, box-append, box-some}
pub use Rattle.differences.proofs.BoxLaws.{total-append, span-append}
use Rattle.differences.proofs.ZeroVector.{half-doubled}
use Rattle.differences.proofs.DistanceLaws.{digit_sum, distance-is}
use Rattle.differences.proofs.Apart.{half-sum, distance-from, turned, distance-apart}

-- ---- positions of one sum

pair-same : (l : List ActiveAxis) → EqualSums l → SameSum l
pair-same l p = go (same_sum? l)
  where
    go : Dec (SameSum l) → SameSum l
    go (yes s) = s
    go (no n) = absurd (p.other (no_same l n p.x p.y p.bx p.by p.same))

-- two positions have one sum exactly if 0 is a distance
pub clash-distance : (l : List ActiveAxis) → 0 < total l → SameSum l → IsDistance l 0
unfolding middle
clash-distance l h s =
    let p = positive-extents l h in
    let z = pair-zero l (same-pair l p s) in
    distance-from h (place (widths l) z.d) (place-lt z.box)
    (λ e. z.some (place-inj z.box (no_difference-within l p) (e ∙ half_is l p)))
    (omega (arith, distance-is l (place (widths l) z.d), ap (reach l) (index_at-place z.box), z.sum))

pub distance-clash : (l : List ActiveAxis) → IsDistance l 0 → SameSum l
unfolding middle
distance-clash l d =
    let p = positive-extents l (some-total l (omega (arith, d.below))) in
    let b = index_at-within (widths-positive l p) d.number d.below in
    let k = place-index_at (widths-positive l p) d.number d.below in
    pair-same l (zero-pair l (record {
      d = index_at (widths l) d.number;
      box = b;
      some = λ e. omega (arith, d.above, half_is l p, k, ap (place (widths l)) e);
      sum = omega (arith, distance-is l d.number, d.is);
    }))

-- ---- two parts

-- the vectors of the first part run fastest
digits-append : (u v : List ActiveAxis) (i k : ℕ) → i < box u → digit_sum (u ++ v) (i + box u * k) ≡ digit_sum u i + digit_sum v k
unfolding index_at reach product
digits-append [] v i k h = let e : i + 1 * k ≡ k = omega arith in rw e (omega arith)
digits-append (a ∷ u) v i k h =
    let w : ℕ = 2 * a.extent - 1 in
    let s : 0 < w = (head-some w (box u) (omega (arith, h))).0 in
    let e : i + w * box u * k ≡ i + w * (box u * k) = omega arith in
    let rest = digits-append u v (i / w) k (quotient-below i w (box u) s h) in
    rw (e, add-mul-mod_self_left i w (box u * k), add-mul-div_left i (box u * k) s) (omega (arith, rest))

module _ (u v : List ActiveAxis) (h : 0 < total (u ++ v)) where
  some : (0 < total u) × (0 < total v)
  some = head-some (total u) (total v) (omega (arith, total-append u v))

  half-append : half (u ++ v) ≡ half u + box u * half v
  half-append =
      let a = half-doubled u some.0 in
      let b = half-doubled v some.1 in
      omega (arith, half-doubled (u ++ v) h, box-append u v, ap₂ (λ (m n : ℕ). m * n) a b, ap (λ (n : ℕ). n * half v) a)

  -- a vector of each part, not both zero, whose digits sum to the span together
  together : (i k : ℕ) → i < box u → k < box v → (i ≡ half u → k ≢ half v) → digit_sum u i + digit_sum v k ≡ span_sum u + span_sum v
      → IsDistance (u ++ v) 0
  together i k li lk o e =
      distance-from h (i + box u * k) (omega (arith, mul-add-lt k (box u) i (box v) lk li, box-append u v))
      (λ c. let l : half u < box u = omega (arith, half-doubled u some.0) in
      let s = same_from_place k i (half v) (half u) (box u) li l (omega (arith, c, half-append)) in o s.1 s.0)
      (omega (arith, distance-is (u ++ v) (i + box u * k), digits-append u v i k li, span-append u v, e))

  -- 0 is a distance exactly if the distances of two parts meet
  pub meets-whole : Meets u v → IsDistance (u ++ v) 0
  meets-whole (in_first d) =
      let a = distance-apart some.0 d in
      let l : half v < box v = omega (arith, half-doubled v some.1) in
      together a.number (half v) a.below l (λ e. absurd (a.other e)) (omega (arith, a.is, half-sum v some.1))
  meets-whole (in_second d) =
      let a = distance-apart some.1 d in
      together (half u) a.number (omega (arith, half-doubled u some.0)) a.below (λ e. a.other) (omega (arith, a.is, half-sum u some.0))
  meets-whole (in_both n d f) =
      let a = distance-apart some.0 d in
      let b = turned some.1 (distance-apart some.1 f) in
      together a.number b.number a.below b.below (λ e. absurd (a.other e)) (omega (arith, a.is, b.is))

  pub whole_meets : IsDistance (u ++ v) 0 → Meets u v
  whole_meets d = go (ℕ_discrete i (half u)) (ℕ_discrete k (half v))
    where
      i : ℕ
      i = d.number % box u

      k : ℕ
      k = d.number / box u

      is : i + box u * k ≡ d.number
      is = mod-add-div d.number (box u)

      li : i < box u
      li = mod-lt d.number (omega (arith, half-doubled u some.0))

      lk : k < box v
      lk = quotient-below d.number (box u) (box v) (omega (arith, half-doubled u some.0)) (omega (arith, d.below, box-append u v))

      sums : digit_sum u i + digit_sum v k ≡ span_sum u + span_sum v
      sums = omega (arith, digits-append u v i k li, ap (digit_sum (u ++ v)) is, span-append u v, distance-is (u ++ v) d.number, d.is)

      go : Dec (i ≡ half u) → Dec (k ≡ half v) → Meets u v
      go (yes a) (yes b) = absurd (omega (arith, d.above, half-append, is, a, ap (λ (n : ℕ). box u * n) b))
      go (yes a) (no b) =
          in_second (distance-from some.1 k lk b (omega (arith, distance-is v k, sums, ap (digit_sum u) a, half-sum u some.0)))
      go (no a) (yes b) =
          in_first (distance-from some.0 i li a (omega (arith, distance-is u i, sums, ap (digit_sum v) b, half-sum v some.1)))
      go (no a) (no b) =
          let e : distance_at u i ≡ distance_at v k = omega (arith, distance-is u i, distance-is v k, sums) in
          in_both (distance_at v k) (distance-from some.0 i li a e) (distance-from some.1 k lk b refl)

  pub meets-same : Meets u v ↔ SameSum (u ++ v)
  meets-same = (λ m. distance-clash (u ++ v) (meets-whole m), λ s. whole_meets (clash-distance (u ++ v) h s))

-- axes that can be walked over, cut anywhere (the first part shows `grind` the call to match)
pub cut_at : (block : List ActiveAxis) (c : ℕ) → IsWalkable block
    → (take c block ≡ take c block) × IsWalkable (take c block) × IsWalkable (drop c block) × (0 < box (take c block))
    × (Meets (take c block) (drop c block) ↔ SameSum block)
cut_at block c w =
    let u = take c block in
    let v = drop c block in
    let e = take-append-drop c block in
    let s = some u v (rw e w.some) in
    let few = length-append u v in
    let fits = span-append u v in (
      refl,
      record { few = omega (arith, w.few, few, ap length e); some = s.0; fits = omega (arith, w.fits, fits, ap span_sum e) },
      record { few = omega (arith, w.few, few, ap length e); some = s.1; fits = omega (arith, w.fits, fits, ap span_sum e) },
      box-some u s.0,
      subst (λ b. Meets u v ↔ SameSum b) e (meets-same u v (rw e w.some)),
    )
