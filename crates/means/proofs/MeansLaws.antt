-- A mean lies between the least and the greatest of its readings; what is read for it, and what stands in the output.
use Rattle.std.specs.Prelude.{List, ◌++◌, ◌≡◌, ℕ, zero, suc, ◌<◌, ◌≤◌, ℤ, pos, ◌+ℤ◌, ◌≤ℤ◌, length, drop, slice_get, slice_index_or, Some}
use mathlib.Core.Path.{refl, ap, ◌∙◌}
use native.Mathlib.Omega.{arith}
use lib.IntN.{+ℤ_assoc}
use lib.ListN.{length-append, length-drop, get_or-append}
use lib.Seq.{drop_at}
use Rattle.std.proofs.lemmas.Option.{slice_get-get_or}
use Rattle.std.proofs.lemmas.List.FromFn.{length-map-range_with_len, get_or-map-range_with_len}
use Rattle.std.proofs.lemmas.Int.{ints}
use Rattle.integer.specs.Multiple.{◌·◌}
use Rattle.integer.specs.Parts.{positive_part}
use Rattle.integer.proofs.MultipleLaws.{multiples}
use Rattle.specification.specs.Outcome.{done, refused}
use Rattle.specification.specs.Layout.{LayoutModel}
use Rattle.specification.specs.Readings.{cell_at, reading_at}
use Rattle.specification.proofs.ReadingLaws.{cell_at-below}
use Rattle.means.specs.Means.{extent_along, reading_along, sum_of, mean_at, first_means, means_after}
use Rattle.means.specs.MeansClaims.{IsBetween, IsHeld, IsPositionAlong}
use Rattle.means.proofs.RoundedOnly.{rounded-least, rounded-most}

-- a sum of n numbers lies between n times the least and n times the greatest
sum-between : (f : ℕ → ℤ) (low high : ℤ) (n : ℕ) → ((i : ℕ) → i < n → IsBetween low high (f i)) → ((n · low) ≤ℤ sum_of f n) × (sum_of f n ≤ℤ (n · high))
unfolding sum_of
sum-between f low high zero b = (omega (arith, multiples), omega (arith, multiples))
sum-between f low high (suc n) b =
    let w = sum-between f low high n (λ i h. b i (omega arith)) in
    let r = b n (omega arith) in
    (omega (arith, multiples, w.0, r.0), omega (arith, multiples, w.1, r.1))

-- summed from the front it is the same
pub sum-from-front : (f : ℕ → ℤ) (n : ℕ) → sum_of f (suc n) ≡ f 0 +ℤ sum_of (λ i. f (suc i)) n
unfolding sum_of
sum-from-front f zero = omega (arith, ints)
sum-from-front f (suc n) = ap (λ (z : ℤ). z +ℤ f (suc n)) (sum-from-front f n) ∙ +ℤ_assoc (f 0) (sum_of (λ i. f (suc i)) n) (f (suc n))

pub mean-between : (l : LayoutModel) (axis k : ℕ) (readings : List ℤ) (low high : ℤ) → 0 < extent_along l axis
    → ((i : ℕ) → i < extent_along l axis → IsBetween low high (reading_along l axis readings k i)) → IsBetween low high (mean_at l axis readings k)
unfolding mean_at
mean-between l axis k readings low high h b =
    let f = reading_along l axis readings k in
    let n = extent_along l axis in
    let w = sum-between f low high n b in
    (rounded-least (sum_of f n) low n h w.0, rounded-most (sum_of f n) high n h w.1)

-- a reading of a mean is that of its position, which the buffer has
pub read-at : (l : LayoutModel) (axis : ℕ) (readings : List ℤ) {k i position : ℕ} → IsHeld l axis (length readings) → IsPositionAlong l axis k i position
    → (cell_at l position < length readings) × (reading_along l axis readings k i ≡ reading_at l readings position)
read-at l axis readings w p = (
  cell_at-below l w.has_axis.accepted (length readings) w.held _ p.is_position,
  ap (λ (z : ℤ). slice_index_or readings (positive_part z) (pos 0)) p.offset_is,
)

-- ---- the output

module _ (l : LayoutModel) (axis count : ℕ) (readings out : List ℤ) where
  abbrev means : List ℤ
  means = first_means l axis readings count

  as-many : length means ≡ count
  as-many = length-map-range_with_len (mean_at l axis readings) 0 count

  pub slice_get-means_after : (k : ℕ) → k < count → slice_get (means_after (done count) l axis readings out) k ≡ Some (mean_at l axis readings k)
  unfolding means_after
  slice_get-means_after k h =
      slice_get-get_or (means ++ drop count out) k (pos 0) (omega (arith, length-append means (drop count out), as-many))
      ∙ ap Some (get_or-append means (drop count out) (pos 0) k (omega (arith, as-many)) ∙ get_or-map-range_with_len (mean_at l axis readings) 0 count k k (pos 0) h (omega arith))

  pub drop-means_after : drop count (means_after (done count) l axis readings out) ≡ drop count out
  unfolding means_after
  drop-means_after = drop_at means (drop count out) count as-many

  pub length-means_after : count ≤ length out → length (means_after (done count) l axis readings out) ≡ length out
  unfolding means_after
  length-means_after h = omega (arith, length-append means (drop count out), as-many, length-drop count out)

pub refused_leaves : (l : LayoutModel) (axis number : ℕ) (values : List ℕ) (readings out : List ℤ) → means_after (refused number values) l axis readings out ≡ out
unfolding means_after
refused_leaves l axis number values readings out = refl
