-- The index vectors of the remaining axes, and those of all axes: an index is put in, or taken out.
use Rattle.std.specs.Prelude.{Bool, true, false, List, [], ◌∷◌, ◌≡◌, ℕ, zero, suc, ◌+◌, ◌<◌, ◌≤◌, ℤ, ◌+ℤ◌, length, take, drop, insert, remove}
use mathlib.Core.Path.{refl, sym, ap, ◌∙◌}
use native.Mathlib.Omega.{arith}
use lib.IntN.{+ℤ_assoc, +ℤ_comm}
use lib.ListN.{length-append, length-drop}
use lib.Seq.{length-take-le}
use Rattle.integer.specs.Multiple.{◌·◌}
use Rattle.specification.specs.Axis.{Axis, extents, positions, index_at, offset_sum, is_empty}
use Rattle.specification.specs.Layout.{LayoutModel, rank}
use Rattle.specification.specs.Views.{axis_at}
use Rattle.specification.proofs.Digits.{place-index_at}
use Rattle.specification.proofs.NormalAxes.{AllPositive, positive-extents}
use Rattle.specification.proofs.NormalLaws.{empty-none, full-pos}
use Rattle.specification.proofs.Positions.{IndexVector, ◌and◌, place, indices-within, indices-place, place-lt}
use Rattle.means.specs.Means.{remaining, mean_count, extent_along, offset_along}
use Rattle.means.specs.MeansClaims.{IsPositionAlong}

-- axes that have a position
pub full-positions : (axes : List Axis) {k : ℕ} → k < positions axes → AllPositive axes
full-positions axes {k} h = go (is_empty axes) refl
  where
    go : (t : Bool) → is_empty axes ≡ t → AllPositive axes
    go true e = absurd (omega (arith, h, empty-none axes e))
    go false e = full-pos axes e

-- one axis fewer
pub length-remove : {A : Type 0} (list : List A) (axis : ℕ) → axis < length list → length (remove list axis) + 1 ≡ length list
length-remove list axis h = omega (arith, length-append (take axis list) (drop (suc axis) list), length-take-le axis list (omega arith), length-drop (suc axis) list)

length-index_at : (axes : List Axis) (k : ℕ) → length (index_at (extents axes) k) ≡ length axes
unfolding index_at
length-index_at [] k = refl
length-index_at (a ∷ rest) k = ap suc (length-index_at rest _)

-- an index put in at an axis adds that many strides of it
inserted-adds : (axes : List Axis) (axis i : ℕ) (x : List ℕ) → axis < length axes → axis ≤ length x
    → offset_sum (remove axes axis) x +ℤ i · (axis_at axes axis).stride ≡ offset_sum axes (insert x axis i)
unfolding offset_sum
inserted-adds [] axis i x h f = absurd (omega arith)
inserted-adds (a ∷ rest) zero i x h f = +ℤ_comm (offset_sum rest x) (i · a.stride)
inserted-adds (a ∷ rest) (suc n) i [] h f = absurd (omega arith)
inserted-adds (a ∷ rest) (suc n) i (j ∷ x) h f =
    +ℤ_assoc (j · a.stride) (offset_sum (remove rest n) x) (i · (axis_at rest n).stride)
    ∙ ap (λ (z : ℤ). j · a.stride +ℤ z) (inserted-adds rest n i x (omega arith) (omega arith))

-- with an index below its extent put in, an index vector of the other axes is one of all
inserted : (axes : List Axis) (axis i : ℕ) (x : List ℕ) → axis < length axes → i < (axis_at axes axis).extent → IndexVector (extents (remove axes axis)) x → IndexVector (extents axes) (insert x axis i)
inserted [] axis i x h k b = absurd (omega arith)
inserted (a ∷ rest) zero i x h k b = ◌and◌ k b
inserted (a ∷ rest) (suc n) i x h k (◌and◌ {i = j} {is = y} g b) = ◌and◌ g (inserted rest n i y (omega arith) k b)

-- with its index taken out, an index vector of all axes is one of the others; that index is below its extent
record TakenOut (axes : List Axis) (axis : ℕ) (x : List ℕ) : Type 0 where
  index : ℕ
  below : index < (axis_at axes axis).extent
  others : List ℕ
  vector : IndexVector (extents (remove axes axis)) others
  put_in : insert others axis index ≡ x

taken-out : (axes : List Axis) (axis : ℕ) (x : List ℕ) → axis < length axes → IndexVector (extents axes) x → TakenOut axes axis x
taken-out [] axis x h b = absurd (omega arith)
taken-out (a ∷ rest) zero x h (◌and◌ {i = j} {is = y} g b) = record { index = j; below = g; others = y; vector = b; put_in = refl }
taken-out (a ∷ rest) (suc n) x h (◌and◌ {i = j} {is = y} g b) =
    let t = taken-out rest n y (omega arith) b in
    record { index = t.index; below = t.below; others = j ∷ t.others; vector = ◌and◌ g t.vector; put_in = ap (λ (z : List ℕ). j ∷ z) t.put_in }

-- what is put in, and into what, are told by the list that it makes
inserted-inj : (axis i j : ℕ) (x y : List ℕ) → axis ≤ length x → length x ≡ length y → insert x axis i ≡ insert y axis j → (x ≡ y) × (i ≡ j)
inserted-inj zero i j x y h l e = grind (arith, e)
inserted-inj (suc n) i j [] y h l e = absurd (omega arith)
inserted-inj (suc n) i j (a ∷ x) [] h l e = absurd (omega (arith, l))
inserted-inj (suc n) i j (a ∷ x) (b ∷ y) h l e =
    let heads : (a ≡ b) × (insert x n i ≡ insert y n j) = grind (arith, e) in
    let w = inserted-inj n i j x y (omega (arith, h)) (omega (arith, l)) heads.1 in
    (grind (arith, heads.0, w.0), w.1)

-- ---- of a layout

module _ (l : LayoutModel) (axis : ℕ) (h : axis < rank l) where
  abbrev others : List Axis
  others = remove l.axes axis

  pub offset-along : (k i : ℕ) → offset_along l axis k i ≡ l.offset +ℤ offset_sum l.axes (insert (index_at (extents others) k) axis i)
  unfolding remaining
  offset-along k i =
      +ℤ_assoc l.offset (offset_sum others (index_at (extents others) k)) (i · (axis_at l.axes axis).stride)
      ∙ ap (λ (z : ℤ). l.offset +ℤ z) (inserted-adds l.axes axis i (index_at (extents others) k) h
      (omega (arith, length-remove l.axes axis h, length-index_at others k)))

  -- the position with this index vector
  positioned : (k i position : ℕ) → position < positions l.axes → index_at (extents l.axes) position ≡ insert (index_at (extents others) k) axis i → IsPositionAlong l axis k i position
  unfolding remaining
  positioned k i position p e = record { is_position = p; index_is = e; offset_is = offset-along k i ∙ ap (λ (x : List ℕ). l.offset +ℤ offset_sum l.axes x) (sym e) }

  pub position-along : (k i : ℕ) → k < mean_count l axis → i < extent_along l axis → (position : ℕ) × IsPositionAlong l axis k i position
  unfolding remaining
  position-along k i g b =
      let vector = inserted l.axes axis i (index_at (extents others) k) h b (indices-within (full-positions others g) k g) in
      (place (extents l.axes) (insert (index_at (extents others) k) axis i), positioned k i _ (place-lt l.axes vector) (indices-place l.axes vector))

  pub along-position : (position : ℕ) → position < positions l.axes
      → (k : ℕ) × (i : ℕ) × (k < mean_count l axis) × (i < extent_along l axis) × IsPositionAlong l axis k i position
  unfolding remaining
  along-position position g =
      let t = taken-out l.axes axis (index_at (extents l.axes) position) h (indices-within (full-positions l.axes g) position g) in (
        place (extents others) t.others,
        t.index,
        place-lt others t.vector,
        t.below,
        positioned _ t.index position g
            (sym t.put_in ∙ ap (λ (x : List ℕ). insert x axis t.index) (sym (indices-place others t.vector))),
      )

  pub once-along : {k i k' i' position : ℕ} → k < mean_count l axis → k' < mean_count l axis → IsPositionAlong l axis k i position → IsPositionAlong l axis k' i' position → (k ≡ k') × (i ≡ i')
  unfolding remaining
  once-along {k} {i} {k'} {i'} g g' p q =
      let x = index_at (extents others) k in
      let y = index_at (extents others) k' in
      let long : length x ≡ length others = length-index_at others k in
      let w = inserted-inj axis i i' x y (omega (arith, h, long, length-remove l.axes axis h)) (long ∙ sym (length-index_at others k')) (sym p.index_is ∙ q.index_is) in
      (sym (at-place k g) ∙ ap (λ (z : List ℕ). place (extents others) z) w.0 ∙ at-place k' g', w.1)
    where
      at-place : (k : ℕ) → k < positions others → place (extents others) (index_at (extents others) k) ≡ k
      at-place k g = place-index_at (positive-extents (full-positions others g)) k g
