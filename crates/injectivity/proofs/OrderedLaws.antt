-- Axes that stand separated as they are, or from the last on: what is told of them axis by axis, and that sorted they have no block.
use Rattle.std.specs.List.{list_any, push}
use Rattle.std.specs.Prelude.{Some, None}
use Rattle.std.proofs.Common.{◌≡◌, ℕ, zero, suc, ◌+◌, ◌*◌, ◌-◌, ◌^◌, ◌≤◌, ◌<◌, Bool, true, false, List, [], ◌∷◌, ◌++◌, reverse, length, drop, get_or, append-nil, refl, sym, ap, ◌∙◌, subst, arith}
use mathlib.Core.List.{reverse-cons}
use native.Mathlib.Nat.{mul-le-mul_left, mul-le-mul_right}
use Rattle.std.proofs.lemmas.Bool.Decides.{nat_tests}
use Rattle.std.proofs.lemmas.Int.{ints}
use Rattle.std.proofs.lemmas.List.{reverse-append}
use Rattle.integer.specs.Range.{most_signed}
use Rattle.specification.specs.Axis.{Axis, product, positions, is_empty}
use Rattle.specification.specs.Normal.{overfull}
use Rattle.specification.specs.Outcome.{Outcome, done}
use Rattle.specification.specs.Views.{axis_at}
use Rattle.specification.specs.Search.{ActiveAxis, total, span_sum}
use Rattle.specification.specs.Tests.{sort_by}
use Rattle.specification.specs.Verdict.{active_from, up_to_last, smaller, block_of, still, Judged, Distinct, answered, plan_of, judge}
use Rattle.specification.proofs.AxisOrder.{Perm, nil, skip, swap, trans, perm-sym}
use Rattle.specification.proofs.NormalLaws.{full-pos}
use Rattle.specification.proofs.Sorting.{Each, perm-refl, perm-each}
use Rattle.search.specs.Block.{Sides}
use Rattle.search.proofs.Apart.{sides-perm, span-perm}
use Rattle.sorting.specs.Numbered.{IsNumbered}
use Rattle.sorting.proofs.SortedAxes.{Order, perm-numbered, sort-same, sorted-stays}
use Rattle.injectivity.specs.Inputs.{IsLeftToBlock, unfit}
use Rattle.injectivity.specs.Ordered.{goes_on, span_after, separated_in_order}
use Rattle.injectivity.proofs.ActiveLaws.{active_axis, passed_over, gathered_one, all_gathered}
use Rattle.injectivity.proofs.InputsLaws.{all_in_range}
use Rattle.injectivity.proofs.JudgeLaws.{no_block}
use Rattle.injectivity.proofs.LeftLaws.{active-total, active-span, below_span}
use Rattle.injectivity.proofs.PlanLaws.{plan_empty, plan_few, plan_block, settled}
use Rattle.injectivity.proofs.ReadyLaws.{total-perm, active_numbered}

-- ---- one axis more, by its extent and absolute stride

module _ (before : ℕ) (a : ActiveAxis) (rest : List ActiveAxis) where
  ends : goes_on before a.extent a.stride ≡ false → separated_in_order before (a ∷ rest) ≡ false
  unfolding separated_in_order
  ends h = rw h

  continues : goes_on before a.extent a.stride ≡ true
      → separated_in_order before (a ∷ rest) ≡ separated_in_order (before + (a.extent - 1) * a.stride) rest
  unfolding separated_in_order
  continues h = rw h

pub none_left : (before : ℕ) → separated_in_order before [] ≡ true
unfolding separated_in_order
none_left before = refl

-- one span
pub span_fits : (extent stride : ℕ) → extent < 2 ^ 31 → stride < 2 ^ 32 → (extent - 1) * stride < 2 ^ 63 - 2 ^ 32
span_fits extent stride h k = let m : extent - 1 ≤ 2 ^ 31 - 2 = omega arith in omega (arith, mul-le-mul_right stride m)

-- ---- from the first axis on

module _ (axes : List Axis) (i : ℕ) (h : i < length axes) (before : ℕ) where
  pub column_stops : span_after before (axis_at axes i) ≡ None → separated_in_order before (active_from i (drop i axes)) ≡ false
  column_stops e =
      let here = axis_at axes i in
      let g = gathered_one axes i h in
      let f = ends before (active_axis i here) (active_from (i + 1) (drop (i + 1) axes)) in
      grind (arith, nat_tests)

  pub column_goes_on : (next : ℕ) → span_after before (axis_at axes i) ≡ Some next
      → separated_in_order before (active_from i (drop i axes)) ≡ separated_in_order next (active_from (i + 1) (drop (i + 1) axes))
  column_goes_on next e =
      let here = axis_at axes i in
      let p = passed_over axes i h in
      let g = gathered_one axes i h in
      let f = continues before (active_axis i here) (active_from (i + 1) (drop (i + 1) axes)) in
      grind (arith, nat_tests)

pub ruleset by_column = (column_stops, column_goes_on, none_left, all_gathered)

-- ---- from the last axis on

active-append : (k : ℕ) (l m : List Axis) → active_from k (l ++ m) ≡ active_from k l ++ active_from (k + length l) m
unfolding active_from
active-append k [] m = let e : k ≡ k + 0 = omega arith in ap (λ (j : ℕ). active_from j m) e
active-append k (a ∷ l) m = let e = active-append (suc k) l m in grind (arith, ints)

-- the axes in front, and the last
module _ (axes front : List Axis) (last : Axis) (parted : axes ≡ push front last) where
  last-of : active_from 0 axes ≡ active_from 0 front ++ active_from (length front) (last ∷ [])
  last-of =
      let places : 0 + length front ≡ length front = omega arith in
      ap (active_from 0) parted
      ∙ active-append 0 front (last ∷ [])
      ∙ ap (λ (k : ℕ). active_from 0 front ++ active_from k (last ∷ [])) places

  left_out : last.extent ≤ 1 → active_from 0 axes ≡ active_from 0 front
  unfolding active_from
  left_out k = let e = last-of in grind (arith, nat_tests, append-nil)

  put-last : 1 < last.extent → active_from 0 axes ≡ active_from 0 front ++ (active_axis (length front) last ∷ [])
  unfolding active_from
  put-last k = let e = last-of in grind (arith, nat_tests)

  turned_one : 1 < last.extent → reverse (active_from 0 axes) ≡ active_axis (length front) last ∷ reverse (active_from 0 front)
  turned_one k = ap reverse (put-last k) ∙ reverse-append (active_from 0 front) (active_axis (length front) last ∷ [])

  module _ (before : ℕ) where
    pub row_stops : span_after before last ≡ None → separated_in_order before (reverse (active_from 0 axes)) ≡ false
    row_stops e =
        let g = turned_one in
        let f = ends before (active_axis (length front) last) (reverse (active_from 0 front)) in
        grind (arith, nat_tests)

    pub row_goes_on : (next : ℕ) → span_after before last ≡ Some next
        → separated_in_order before (reverse (active_from 0 axes)) ≡ separated_in_order next (reverse (active_from 0 front))
    row_goes_on next e =
        let p = left_out in
        let g = turned_one in
        let f = continues before (active_axis (length front) last) (reverse (active_from 0 front)) in
        grind (arith, nat_tests)

-- none is left
pub none_turned : (before : ℕ) (axes : List Axis) → length axes ≡ 0 → separated_in_order before (reverse (active_from 0 axes)) ≡ true
unfolding separated_in_order active_from
none_turned before [] h = refl
none_turned before (a ∷ axes) h = absurd (omega arith)

pub ruleset by_row = (row_stops, row_goes_on, none_turned)

-- ---- separated axes are sorted, and have no block

smaller-order : Order smaller
smaller-order = grind (arith, ints)

no-last : (before : ℕ) (l : List ActiveAxis) → separated_in_order before l ≡ true → up_to_last before l ≡ []
unfolding separated_in_order up_to_last
no-last before [] s = refl
no-last before (a ∷ rest) s = let e = no-last (before + (a.extent - 1) * a.stride) rest in grind (arith, nat_tests)

in-place : (before : ℕ) (l : List ActiveAxis) → Sides l → separated_in_order before l ≡ true → (k : ℕ) (d : ActiveAxis) → suc k < length l
    → smaller (get_or l (suc k) d) (get_or l k d) ≡ false
unfolding separated_in_order
in-place before [] s e k d h = absurd (omega arith)
in-place before (a ∷ []) s e k d h = absurd (omega arith)
in-place before (a ∷ b ∷ l) s e zero d h = let m = below_span a.extent a.stride s.0.long in grind (arith, nat_tests)
in-place before (a ∷ b ∷ l) s e (suc k) d h = in-place (before + (a.extent - 1) * a.stride) (b ∷ l) s.1 (grind (arith, nat_tests)) k d (omega arith)

to-end : (a : ActiveAxis) (l : List ActiveAxis) → Perm (a ∷ l) (l ++ (a ∷ []))
to-end a [] = perm-refl (a ∷ [])
to-end a (b ∷ l) = trans swap (skip (to-end a l))

turned : (l : List ActiveAxis) → Perm l (reverse l)
turned [] = nil
turned (a ∷ l) = subst (Perm (a ∷ l)) (sym (reverse-cons a l)) (trans (skip (turned l)) (to-end a (reverse l)))

-- ---- and nothing is refused

Long : ActiveAxis → Type 0
Long a = 1 < a.extent

active-long : (k : ℕ) (axes : List Axis) → Each Long (active_from k axes)
unfolding active_from Long
active-long k [] = tt
active-long k (a ∷ r) = let e = active-long (suc k) r in grind (arith, nat_tests)

in-sides : (before : ℕ) (l : List ActiveAxis) → Each Long l → separated_in_order before l ≡ true → Sides l
unfolding separated_in_order Long
in-sides before [] w s = tt
in-sides before (a ∷ r) w s = let rest = in-sides (before + (a.extent - 1) * a.stride) r in grind (arith, nat_tests)

span-within : (before : ℕ) (l : List ActiveAxis) → before ≤ most_signed → separated_in_order before l ≡ true → before + span_sum l ≤ most_signed
unfolding separated_in_order span_sum
span-within before [] h s = omega arith
span-within before (a ∷ r) h s =
    let k : before < a.stride = grind (arith, nat_tests) in
    let low : a.stride < 2 ^ 32 = grind (arith, nat_tests) in
    let few : a.extent < 2 ^ 31 = grind (arith, nat_tests) in
    let c : separated_in_order (before + (a.extent - 1) * a.stride) r ≡ true = grind (arith, nat_tests) in
    let m = span_fits a.extent a.stride few low in
    omega (arith, span-within (before + (a.extent - 1) * a.stride) r (omega arith) c)

-- there are no more positions than sums
widens : (e s b : ℕ) → 0 < e → b < s → e * (b + 1) ≤ b + (e - 1) * s + 1
widens zero s b h k = absurd (omega arith)
widens (suc d) s b h k =
    let one : suc d - 1 ≡ d = omega arith in
    rw one (omega (arith, mul-le-mul_left d k))

total-within : (before : ℕ) (l : List ActiveAxis) → Each Long l → separated_in_order before l ≡ true → total l * (before + 1) ≤ before + span_sum l + 1
unfolding separated_in_order span_sum product Long
total-within before [] w s = omega arith
total-within before (a ∷ r) w s =
    let k : before < a.stride = grind (arith, nat_tests) in
    let c : separated_in_order (before + (a.extent - 1) * a.stride) r ≡ true = grind (arith, nat_tests) in
    let ih = total-within (before + (a.extent - 1) * a.stride) r w.1 c in
    let z : 0 < a.extent = omega (arith, w.0) in
    omega (arith, ih, mul-le-mul_left (total r) (widens a.extent a.stride before z k))

not-still : (k : ℕ) (axes : List Axis) → Sides (active_from k axes) → list_any still axes ≡ false
unfolding active_from
not-still k [] s = refl
not-still k (a ∷ r) s = let e = not-still (suc k) r in grind (arith, ints, nat_tests)

not-unfit : (k : ℕ) (axes : List Axis) → Sides (active_from k axes) → list_any unfit axes ≡ false
unfolding active_from
not-unfit k [] s = refl
not-unfit k (a ∷ r) s = let e = not-unfit (suc k) r in grind (arith, ints, nat_tests)

module _ (axes : List Axis) {m : List ActiveAxis} (p : Perm (active_from 0 axes) m) (s : separated_in_order 0 m ≡ true) where
  long : Each Long m
  long = perm-each Long p (active-long 0 axes)

  sides : Sides m
  sides = in-sides 0 m long s

  active_sides : Sides (active_from 0 axes)
  active_sides = sides-perm (perm-sym p) sides

  not-over : is_empty axes ≡ false → overfull axes ≡ false
  unfolding overfull
  not-over e =
      let t : total m ≡ positions axes = sym (total-perm p) ∙ active-total 0 (full-pos axes e) in
      let w = total-within 0 m long s in
      let f = span-within 0 m (omega arith) s in
      grind (arith, nat_tests)

  left : is_empty axes ≡ false → 1 < positions axes → IsLeftToBlock axes
  left e h =
      let f = span-within 0 m (omega arith) s in
      let q = span-perm p in
      let u = active-span 0 axes in
      record {
        many = h;
        not_eight = not-over e;
        no_still_axis = not-still 0 axes active_sides;
        not_three = all_in_range axes (not-unfit 0 axes active_sides) (omega arith) (omega arith);
      }

  without-block : block_of axes ≡ []
  unfolding block_of
  without-block =
      let n : IsNumbered (active_from 0 axes) = active_numbered axes in
      let e : sort_by smaller (active_from 0 axes) ≡ m =
      sort-same smaller-order p n ∙ sorted-stays smaller-order m (perm-numbered p n) (in-place 0 m sides s) in
      ap (up_to_last 0) e ∙ no-last 0 m s

  blocked : is_empty axes ≡ false → 1 < positions axes → plan_of axes ≡ done (answered Distinct 0)
  blocked e h = plan_block axes (left e h) ∙ rw (without-block, no_block) refl

  distinct : plan_of axes ≡ done (answered Distinct 0)
  distinct = go (is_empty axes) refl
    where
      go : (t : Bool) → is_empty axes ≡ t → plan_of axes ≡ done (answered Distinct 0)
      go true e = plan_empty axes e
      go false e =
          let few : positions axes ≤ 1 → plan_of axes ≡ done (answered Distinct 0) = plan_few axes (not-over e) in
          let many : 1 < positions axes → plan_of axes ≡ done (answered Distinct 0) = blocked e in
          grind (arith, nat_tests)

-- the answer, with no difference vector looked at and no word freed
abbrev distinct_at_sight : Outcome Judged
distinct_at_sight = done (record { answer = Distinct; count = 0; freed = 0 })

module _ (axes : List Axis) (words : ℕ) where
  pub column_distinct : separated_in_order 0 (active_from 0 axes) ≡ true → judge axes words ≡ distinct_at_sight
  column_distinct s = settled axes words (distinct axes (perm-refl (active_from 0 axes)) s)

  pub row_distinct : separated_in_order 0 (reverse (active_from 0 axes)) ≡ true → judge axes words ≡ distinct_at_sight
  row_distinct s = settled axes words (distinct axes (turned (active_from 0 axes)) s)

-- what is judged of axes in such an order
pub ruleset in_order = (column_distinct, row_distinct)
