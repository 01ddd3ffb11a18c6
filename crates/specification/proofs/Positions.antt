-- Positions and index vectors of axes: the facts of Digits, said of the extents of axes; and offsets tell positions apart exactly if they tell index vectors apart.
use mathlib.Core.Path.{◌≡◌, sym, ap, ◌∙◌}
use mathlib.Core.List.{List}
use Prim.Native.Nat.{ℕ, ◌<◌}
use Rattle.specification.specs.Axis.{Axis, index_at, extents, offset_sum, positions, sum_at}
use Rattle.specification.proofs.NormalAxes.{AllPositive, positive-extents}
use Rattle.specification.proofs.Digits.{index_at-within, place-index_at, index_at-place, place-lt as place-below}
pub use Rattle.specification.proofs.Digits.{IndexVector, empty, ◌and◌}
unfoldable pub use Rattle.specification.proofs.Digits.{place}

-- the index vector at position k
abbrev pub indices : List Axis → ℕ → List ℕ
indices l k = index_at (extents l) k

-- the indices of a position are an index vector
pub indices-within : {l : List Axis} → AllPositive l → (k : ℕ) → k < positions l → IndexVector (extents l) (indices l k)
indices-within p k h = index_at-within (positive-extents p) k h

-- the position of an index vector has its indices
pub indices-place : (l : List Axis) {x : List ℕ} → IndexVector (extents l) x → indices l (place (extents l) x) ≡ x
indices-place l b = index_at-place b

-- and is a position
pub place-lt : (l : List Axis) {x : List ℕ} → IndexVector (extents l) x → place (extents l) x < positions l
place-lt l b = place-below b

-- the sum at the position of an index vector is that of the vector
pub sum-at-place : (l : List Axis) {x : List ℕ} → IndexVector (extents l) x → sum_at l (place (extents l) x) ≡ offset_sum l x
sum-at-place l b = ap (λ (z : List ℕ). offset_sum l z) (indices-place l b)

-- ---- distinct positions, distinct vectors

-- positions of one sum are equal
abbrev pub Distinct : List Axis → Type 0
Distinct l = (i j : ℕ) → i < positions l → j < positions l → sum_at l i ≡ sum_at l j → i ≡ j

-- index vectors of one sum are equal
abbrev pub Apart : List Axis → Type 0
Apart l = (x y : List ℕ) → IndexVector (extents l) x → IndexVector (extents l) y → offset_sum l x ≡ offset_sum l y → x ≡ y

-- vectors told apart are positions told apart
pub apart_distinct : {l : List Axis} → AllPositive l → Apart l → Distinct l
apart_distinct {l} p f i j hi hj e =
    sym (place-index_at (positive-extents p) i hi)
    ∙ ap (λ (z : List ℕ). place (extents l) z) (f (indices l i) (indices l j) (indices-within p i hi) (indices-within p j hj) e)
    ∙ place-index_at (positive-extents p) j hj
