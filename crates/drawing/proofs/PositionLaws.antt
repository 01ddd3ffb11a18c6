-- Positions: the index vector digit by digit, and the offset of a position of an accepted layout.
use Rattle.std.proofs.Common.{◌≡◌, ℕ, zero, suc, ◌+◌, ◌*◌, ◌/◌, ◌%◌, ◌<◌, ◌≤◌, List, [], ◌∷◌, ◌++◌, length, drop, get_or, refl, sym, ap, ◌∙◌, arith, append_assoc, drop-cons, add-one, Bool, true, false, Result, Ok, Err, IsOk}
use Rattle.std.proofs.Math.Nat.{div-le_of_le-mul}
use Rattle.std.proofs.lemmas.List.{append-nil}
use lib.ListN.{drop_of_length-le}
use native.Mathlib.Nat.{zero-mul, mul_comm, mod-add-div}
use Rattle.std.proofs.lemmas.Int.{ints}
use Rattle.specification.specs.Axis.{Axis, extents, product, positions, index_at, is_empty}
use Rattle.specification.specs.Outcome.{done, pass}
use Rattle.specification.specs.Layout.{LayoutModel, rank, offset_at, handed, IsAccepted}
use Rattle.specification.specs.Views.{axis_at}
use Rattle.specification.specs.Beside.{indexed_offset}
use Rattle.specification.specs.BesideClaims.{GoodIndex}
use Rattle.view.specs.Indexed.{indexed_of}
use Rattle.view.specs.Model.{model_of}
use Rattle.view.specs.declared.layout.Layout.{Layout}
use Rattle.view.specs.declared.layout.ReadingOffset.{ReadingOffset}
use Rattle.view.specs.declared.layout.Refusal.{Refusal}
use Rattle.view.proofs.CountLaws.{length-extents}
use Rattle.view.proofs.ListedLaws.{rank_model_of}
use Rattle.specification.proofs.OutcomeLaws.{clash, done_inj}
use Rattle.specification.proofs.Digits.{PositiveExtents, none, more, IndexVector, empty, ◌and◌, quotient-below, index_at-within}
use Rattle.specification.proofs.OffsetLaws.{offset_claims}
use Rattle.specification.proofs.ReachClaimed.{reach_claims}

-- what is left of a product is no extent of 0
product-left : (n rest k : ℕ) → k < n * rest → 0 < n
product-left zero rest k h = absurd (omega (arith, h, zero-mul rest))
product-left (suc n) rest k h = omega arith

-- a turn: the next digit goes behind those that are there
module _ (es : List ℕ) (i rest n : ℕ) (h : i < length es) (here : n ≡ get_or es i 0) (below : rest < product (drop i es)) where
  from_here : drop i es ≡ n ∷ drop (i + 1) es
  from_here = rw (add-one, here) (drop-cons es i 0 h)

  pub extent_above : 0 < n
  unfolding product
  extent_above = product-left n (product (drop (i + 1) es)) rest (rw from_here at below)

  pub rest_below : rest / n < product (drop (i + 1) es)
  unfolding product
  rest_below = quotient-below rest n (product (drop (i + 1) es)) extent_above (rw from_here at below)

  pub digit_next : (front : List ℕ) → front ++ index_at (drop i es) rest ≡ (front ++ (rest % n) ∷ []) ++ index_at (drop (i + 1) es) (rest / n)
  unfolding index_at
  digit_next front = rw from_here (sym (append_assoc front ((rest % n) ∷ []) (index_at (drop (i + 1) es) (rest / n))))

-- at the end there is no digit left
pub ends : (es : List ℕ) (i rest : ℕ) (front : List ℕ) → length es ≤ i → front ≡ front ++ index_at (drop i es) rest
unfolding index_at
ends es i rest front h = rw (drop_of_length-le es h) (sym (append-nil front))

-- ---- the offset

pub extent-at : (axes : List Axis) (i : ℕ) → get_or (extents axes) i 0 ≡ (axis_at axes i).extent
extent-at [] i = refl
extent-at (a ∷ rest) zero = refl
extent-at (a ∷ rest) (suc i) = extent-at rest i

positive : (es : List ℕ) → 0 < product es → PositiveExtents es
unfolding product
positive [] h = none
positive (n ∷ es) h = more (product-left n (product es) 0 h) (positive es (product-left (product es) n 0 (rw (mul_comm n (product es)) at h)))

below : {es x : List ℕ} → IndexVector es x → (i : ℕ) → i < length es → get_or x i 0 < get_or es i 0
below empty i h = absurd (omega arith)
below (◌and◌ l b) zero h = l
below (◌and◌ l b) (suc i) h = below b i (omega arith)

long : {es x : List ℕ} → IndexVector es x → length x ≡ length es
long empty = refl
long (◌and◌ l b) = ap suc (long b)

at-least : (k e : ℕ) → 0 < e → k ≤ e * k
at-least k zero h = absurd (omega arith)
at-least k (suc e) h = grind (arith, ints)

-- a digit is no larger than the number
small : {es : List ℕ} → PositiveExtents es → (k i : ℕ) → get_or (index_at es k) i 0 ≤ k
unfolding index_at
small none k i = omega arith
small (more {e} {es} p ps) k zero = omega (arith, mod-add-div k e)
small (more {e} {es} p ps) k (suc i) = omega (arith, small ps (k / e) i, div-le_of_le-mul e (at-least k e p))

-- a position of an accepted layout, among at most 200, stands at its offset
module _ (l : LayoutModel) (k : ℕ) (passed : handed l 0 ≡ pass) (there : k < positions l.axes) (few : positions l.axes ≤ 200) where
  accepted : IsAccepted l
  accepted = ((reach_claims.handed_passes l 0).0 passed).0

  all-positive : PositiveExtents (extents l.axes)
  all-positive = positive (extents l.axes) (omega arith)

  index : IndexVector (extents l.axes) (index_at (extents l.axes) k)
  index = index_at-within all-positive k there

  full : is_empty l.axes ≡ false
  full = go (is_empty l.axes) refl
    where
      go : (t : Bool) → is_empty l.axes ≡ t → t ≡ false
      go false e = refl
      go true e = absurd (omega (arith, (reach_claims.empty_is l).0 e))

  as-many : length (index_at (extents l.axes) k) ≡ rank l
  as-many = long index ∙ length-extents l.axes

  index-below : (i : ℕ) → i < rank l → get_or (index_at (extents l.axes) k) i 0 < (axis_at l.axes i).extent
  index-below i h = rw (← extent-at l.axes i) (below index i (omega (arith, length-extents l.axes)))

  good : (i : ℕ) → i < rank l → GoodIndex l (index_at (extents l.axes) k) i
  good i h = record {
    below = index-below i h;
    in_range = offset_claims.in_full_layout l (index_at (extents l.axes) k) i accepted full as-many h (λ j le. index-below j (omega arith)) (omega (arith, small all-positive k i));
  }

  pub offset_there : indexed_offset l (index_at (extents l.axes) k) ≡ done (offset_at l k)
  offset_there = offset_claims.offset_is l (index_at (extents l.axes) k) accepted as-many good

-- all axes of an accepted layout have a place
pub few_axes : (l : Layout) → handed (model_of l) 0 ≡ pass → l.rank ≤ 16
few_axes l passed = omega (arith, ((reach_claims.handed_passes (model_of l) 0).0 passed).0.few, rank_model_of l)

-- so it is what the call answers
module _ (l : Layout) (k : ℕ) (passed : handed (model_of l) 0 ≡ pass) (count : ℕ) (counted : positions (model_of l).axes ≡ count) (few : count ≤ 200) (there : k < positions (model_of l).axes) where
  module _ {axes : List Axis} (same : axes ≡ (model_of l).axes) {list : List ℕ} (is : list ≡ index_at (extents axes) k)
      (r : Result ReadingOffset Refusal) (e : indexed_of r ≡ indexed_offset (model_of l) list) where
    answered : indexed_of r ≡ done (offset_at (model_of l) k)
    answered = e ∙ ap (indexed_offset (model_of l)) (is ∙ ap (λ a. index_at (extents a) k) same) ∙ offset_there (model_of l) k passed there (omega arith)

    pub not_refused : IsOk r
    not_refused = go r answered
      where
        go : (r : Result ReadingOffset Refusal) → indexed_of r ≡ done (offset_at (model_of l) k) → IsOk r
        go (Ok offset) a = refl
        go (Err why) a = absurd (clash (sym a))

    pub its_offset : (offset : ReadingOffset) → r ≡ Ok offset → offset.0 ≡ offset_at (model_of l) k
    its_offset offset is_ok = done_inj (sym (ap indexed_of is_ok) ∙ answered)
