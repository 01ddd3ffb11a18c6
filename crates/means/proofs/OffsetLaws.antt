-- The places of a mean's readings are their offsets; so the rows that the code writes are the means.
use Rattle.std.proofs.Common.{◌≡◌, refl, sym, ap, ◌∙◌, ℕ, zero, suc, ◌+◌, ◌*◌, ◌/◌, ◌%◌, ◌^◌, ◌<◌, ◌≤◌, List, ◌∷◌, map, All, ℤ, pos, ◌+ℤ◌, ◌≤ℤ◌, ◌<ℤ◌, remove, slice_index_or, mod-eq_of_lt, zero-add, arith}
use Rattle.std.specs.List.{range_with_len}
use Rattle.std.proofs.Math.Nat.{add-mul-mod_self_left, add-mul-div_left, div-eq_of_lt, mod-add-div, mod-lt, lt_of_mul-lt-mul_left}
use Rattle.std.proofs.lemmas.Int.{ints}
use Rattle.std.proofs.lemmas.List.Elements.{All-cons, All-append, All-take, All-drop}
use Rattle.integer.specs.Multiple.{◌·◌}
use Rattle.integer.specs.Parts.{positive_part}
use Rattle.integer.specs.Range.{most_signed}
use Rattle.specification.specs.Axis.{Axis, positions, product, sum_at, index_at, offset_sum}
use Rattle.specification.specs.Layout.{LayoutModel}
use Rattle.specification.specs.Views.{axis_at}
use Rattle.specification.proofs.ReadingLaws.{cell_at-below}
use Rattle.positions.specs.Positions.{word_of, place_at, StrideFits, IsPlacedIn, IsWalkable}
use Rattle.positions.proofs.RunLaws.{place-run}
use Rattle.positions.proofs.PlaceLaws.{place_is, start-offset}
use Rattle.means.specs.Rounded.{rounded}
use Rattle.means.specs.Means.{remaining, mean_count, extent_along, offset_along, sum_of, mean_at, first_means}
use Rattle.means.specs.MeansClaims.{IsHeld, IsPositionAlong}
use Rattle.means.specs.Rows.{mean_from}
use Rattle.means.proofs.AlongLaws.{position-along, length-remove}
use Rattle.means.proofs.RowLaws.{joined}

-- index i along an axis put in front of the others
front-sum : (a : Axis) (rest : List Axis) (k i : ℕ) → i < a.extent → sum_at (a ∷ rest) (i + a.extent * k) ≡ i · a.stride +ℤ sum_at rest k
unfolding offset_sum index_at
front-sum a rest k i h =
    let w : 0 < a.extent = omega arith in
    rw (add-mul-mod_self_left i a.extent k, mod-eq_of_lt h, add-mul-div_left i k w, div-eq_of_lt h, zero-add k) refl

sum-same : (f g : ℕ → ℤ) (n : ℕ) → ((i : ℕ) → i < n → f i ≡ g i) → sum_of f n ≡ sum_of g n
unfolding sum_of
sum-same f g zero e = refl
sum-same f g (suc n) e = rw (e n (omega arith), sum-same f g n (λ i h. e i (omega arith))) refl

module _ (l : LayoutModel) (axis size start : ℕ) (w : IsHeld l axis size) (s : start ≡ word_of l.offset) (fit : All StrideFits l.axes) where
  abbrev along : Axis
  along = axis_at l.axes axis

  abbrev rest : List Axis
  rest = remove l.axes axis

  fits : All StrideFits (along ∷ rest)
  fits = All-cons StrideFits along rest (fit axis _ w.has_axis.in_rank) (All-append StrideFits _ _ (All-take StrideFits axis l.axes fit) (All-drop StrideFits (suc axis) l.axes fit))

  -- where reading i of mean k stands
  record Found (k i : ℕ) : Type 0 where
    position : ℕ
    there : IsPositionAlong l axis k i position
    place : place_at start (along ∷ rest) (i + along.extent * k) ≡ positive_part (offset_along l axis k i)

  found : (k i : ℕ) → k < mean_count l axis → i < extent_along l axis → Found k i
  unfolding remaining
  found k i h b =
      let p = position-along l axis w.has_axis.in_rank k i h b in
      let inside = w.has_axis.accepted.offsets p.0 p.1.is_position in
      let o : pos start ≡ l.offset = ap pos s ∙ start-offset l w.has_axis.accepted (omega (arith, p.1.is_position)) in
      let e : pos start +ℤ sum_at (along ∷ rest) (i + along.extent * k) ≡ offset_along l axis k i = rw (o, front-sum along rest k i b) (omega (arith, ints)) in
      record {
        position = p.0;
        there = p.1;
        place = place_is start (along ∷ rest) (i + along.extent * k) fits (rw (e, p.1.offset_is) inside.from_zero) (rw (e, p.1.offset_is) (below inside.to_most)) ∙ ap positive_part e;
      }
    where
      below : {z : ℤ} → z ≤ℤ pos most_signed → z <ℤ pos (2 ^ 64)
      below h = omega (arith, ints, h)

  -- all of them are in the buffer
  pub placed : IsPlacedIn start (along ∷ rest) size
  unfolding remaining product
  placed m h =
      let some : 0 < along.extent = grind (arith, ints, h) in
      let i : m % along.extent < along.extent = mod-lt m some in
      let k : m / along.extent < positions rest = go m h some in
      let f = found (m / along.extent) (m % along.extent) k i in
      rw (← mod-add-div m along.extent) (rw (f.place, f.there.offset_is) (cell_at-below l w.has_axis.accepted size w.held f.position f.there.is_position))
    where
      go : (m : ℕ) → m < along.extent * positions rest → 0 < along.extent → m / along.extent < positions rest
      go m h some = lt_of_mul-lt-mul_left along.extent (omega (arith, h, mod-add-div m along.extent))

  mean-same : (readings : List ℤ) (k : ℕ) → k < mean_count l axis → mean_from readings along (place_at start rest k) ≡ mean_at l axis readings k
  unfolding mean_at
  mean-same readings k h = ap (λ (sum : ℤ). rounded sum along.extent) (sum-same _ _ along.extent
      (λ i b. ap (λ (place : ℕ). slice_index_or readings place (pos 0)) (sym (place-run start along rest k i b) ∙ (found k i h b).place)))

  pub means-same : (readings : List ℤ) (count : ℕ) → count ≤ mean_count l axis → map (λ k. mean_from readings along (place_at start rest k)) (range_with_len 0 count) ≡ first_means l axis readings count
  means-same readings count h =
      let f = λ (k : ℕ). mean_from readings along (place_at start rest k) in
      let all = joined f (mean_at l axis readings) 0 count (λ i b. sym (mean-same readings i (omega (arith, b, h))) ∙ ap f (omega arith)) in
      sym (all ∙ ap (λ (n : ℕ). map f (range_with_len 0 n)) (omega arith))

  pub walkable : 0 < mean_count l axis → IsWalkable rest
  unfolding remaining
  walkable h = record { few = omega (arith, length-remove l.axes axis w.has_axis.in_rank, w.has_axis.accepted.few); some = h }
