-- Check-in and the views yield only accepted layouts.
use Rattle.std.specs.List.{list_any, range_with_len}
use Rattle.std.specs.Prelude.{if◌then◌else◌}
use mathlib.Core.Path.{◌≡◌, refl, sym, ap, subst, ◌∙◌}
use mathlib.Core.Bool.{Bool, true, false, not, ◌||◌}
use mathlib.Core.List.{List, [], ◌∷◌, map}
use Prim.Native.Nat.{ℕ, suc, ◌+◌, ◌*◌, ◌-◌, ◌<◌, ◌≤◌}
use native.Mathlib.Omega.{arith}
use lib.Dec.{T, eqb, ltb}
use lib.IntN.{ℤ, pos, ◌+ℤ◌, ◌-ℤ◌}
use lib.ListN.{length, length-map}
use borrow.Author.Tests.{ltb-false, eqb-true, ne_eqb}
use Rattle.integer.specs.Parts.{positive_part, negative_part}
use Rattle.integer.proofs.MultipleLaws.{positive_part-·, negative_part-·}
use Rattle.specification.specs.Axis.{Axis, axes_of_lists, is_empty, span, upward, downward}
use Rattle.specification.specs.Outcome.{Check, done, pass}
use Rattle.specification.specs.Layout.{LayoutModel, rank, IsAccepted, lowest, highest, is_too_long, handed}
use Rattle.specification.specs.CheckIn.{bounds, check_in}
use Rattle.specification.specs.Views.{unless_refused, with_axes, axis_at, permute, pair_fault, class_of, kept, fused, diagonal_axes, sum_faults, diagonal_view, target_fault, spread, broadcast}
use Rattle.specification.specs.Calls.{Call, permuting, diagonal, broadcasting, after_call, end_of}
use Rattle.specification.proofs.ReachLaws.{accepted-within, within-accepted, tested-no, bounds-reach}
use Rattle.specification.proofs.NormalLaws.{empty-none}
use Rattle.specification.proofs.OrderSums.{left, left-shift, whole_sum}
use Rattle.specification.proofs.OutcomeLaws.{passed, passed-check, done_inj}
use Rattle.specification.proofs.Sums.{sum_of}
use Rattle.specification.proofs.TestLaws.{true-not-false, length-those}
use Rattle.std.proofs.lemmas.Int.{ints}
use Rattle.std.proofs.lemmas.List.FromFn.{length-range_with_len}
-- two laws of tests that files of other crates cite from here
pub use borrow.Author.Tests.{not-false}
pub use Rattle.specification.proofs.TestLaws.{or-true}

-- ---- other axes with the same spans

same-reach : (l : LayoutModel) (axes : List Axis) → IsAccepted l → length axes ≤ 16 → upward axes ≡ upward l.axes → downward axes ≡ downward l.axes
    → (is_empty l.axes ≡ true → is_empty axes ≡ true) → IsAccepted (with_axes l axes)
same-reach l axes a n u d z = go (is_empty axes) (is_empty l.axes) refl refl
  where
    go : (t v : Bool) → is_empty axes ≡ t → is_empty l.axes ≡ v → IsAccepted (with_axes l axes)
    go true v e f = record { few = n; offsets = λ k h. absurd (omega (arith, empty-none axes e)) }
    go false true e f = absurd (true-not-false (z f) e)
    go false false e f =
        let w = accepted-within l f a in
        let p : lowest (with_axes l axes) ≡ lowest l = ap (λ (k : ℕ). l.offset -ℤ pos k) d in
        let q : highest (with_axes l axes) ≡ highest l = ap (λ (k : ℕ). l.offset +ℤ pos k) u in
        within-accepted (with_axes l axes) e n (record {
          w_low = omega (arith, w.w_low, ap positive_part p, ap negative_part p);
          w_most = omega (arith, w.w_most, ap positive_part q, ap negative_part q);
          w_in = omega (arith, w.w_in, ap positive_part q, ap negative_part q);
        })

sum_axes : (Axis → ℕ) → List Axis → ℕ
sum_axes g [] = 0
sum_axes g (a ∷ r) = g a + sum_axes g r

sum-axes : (g : Axis → ℕ) (axes : List Axis) → left (λ i. g (axis_at axes i)) [] 0 (length axes) ≡ sum_axes g axes
unfolding left sum_axes
sum-axes g [] = refl
sum-axes g (a ∷ r) = ap (λ (z : ℕ). g a + z) (left-shift (λ i. g (axis_at (a ∷ r) i)) 0 (length r) ∙ sum-axes g r)

sum-order : (g : Axis → ℕ) (axes : List Axis) (order : List ℕ) → sum_axes g (map (axis_at axes) order) ≡ sum_of (λ i. g (axis_at axes i)) order
unfolding sum_axes sum_of
sum-order g axes [] = refl
sum-order g axes (i ∷ r) = ap (λ (z : ℕ). g (axis_at axes i) + z) (sum-order g axes r)

up-sum : (l : List Axis) → upward l ≡ sum_axes (λ a. positive_part (span a)) l
unfolding upward sum_axes
up-sum l = grind (arith, ints)

down-sum : (l : List Axis) → downward l ≡ sum_axes (λ a. negative_part (span a)) l
unfolding downward sum_axes
down-sum l = grind (arith, ints)

abbrev is_zero : Axis → ℕ
is_zero a = if eqb a.extent 0 then 1 else 0

zero-sum : (l : List Axis) → is_empty l ≡ true → 0 < sum_axes is_zero l
unfolding is_empty sum_axes
zero-sum [] e = absurd (true-not-false e refl)
zero-sum (a ∷ r) e = go (eqb a.extent 0) e (zero-sum r)
  where
    go : (t : Bool) → (t || is_empty r) ≡ true → (is_empty r ≡ true → 0 < sum_axes is_zero r) → 0 < (if t then 1 else 0) + sum_axes is_zero r
    go true e ih = omega arith
    go false e ih = omega (arith, ih e)

sum-zero : (l : List Axis) → is_empty l ≡ false → sum_axes is_zero l ≡ 0
unfolding is_empty sum_axes
sum-zero [] e = refl
sum-zero (a ∷ r) e = go (eqb a.extent 0) e (sum-zero r)
  where
    go : (t : Bool) → (t || is_empty r) ≡ false → (is_empty r ≡ false → sum_axes is_zero r ≡ 0) → (if t then 1 else 0) + sum_axes is_zero r ≡ 0
    go true e ih = absurd (subst T e tt)
    go false e ih = omega (arith, ih e)

empty-by-sum : (l m : List Axis) → sum_axes is_zero m ≡ sum_axes is_zero l → is_empty l ≡ true → is_empty m ≡ true
empty-by-sum l m q e = go (is_empty m) refl
  where
    go : (t : Bool) → is_empty m ≡ t → t ≡ true
    go true f = refl
    go false f = absurd (omega (arith, zero-sum l e, sum-zero m f))

-- ---- the three views

-- what holds of the old layout, and of the new one if the check passes, holds of the layout after it
pub old-or-new : (P : LayoutModel → Type 0) (l n : LayoutModel) (c : Check) → P l → (c ≡ pass → P n) → P (unless_refused l c n).layout
unfolding unless_refused
old-or-new P l n c a f = grind (arith, ints)

permute-keeps : (l : LayoutModel) (order : List ℕ) → IsAccepted l → IsAccepted (permute l order).layout
unfolding permute
permute-keeps l order a = old-or-new IsAccepted l _ _ a (λ e.
    let p = passed-check (handed l (length order)) e in
    let q = passed (not (eqb (length order) (rank l))) 4 (length order ∷ rank l ∷ []) p.1 in
    let n : length order ≡ rank l = eqb-true (length order) (rank l) (not-false (eqb (length order) (rank l)) q.0) in
    let s : (g : Axis → ℕ) → sum_axes g (map (axis_at l.axes) order) ≡ sum_axes g l.axes = λ g. sum-order g l.axes order ∙ whole_sum (λ i. g (axis_at l.axes i)) order (rank l) n q.1 ∙ sum-axes g l.axes in
    same-reach l (map (axis_at l.axes) order) a (omega (arith, length-map order (axis_at l.axes), a.few))
    (up-sum (map (axis_at l.axes) order) ∙ s (λ a. positive_part (span a)) ∙ sym (up-sum l.axes))
    (down-sum (map (axis_at l.axes) order) ∙ s (λ a. negative_part (span a)) ∙ sym (down-sum l.axes))
    (empty-by-sum l.axes (map (axis_at l.axes) order) (s is_zero)))

length-kept : (pairs : List (ℕ × ℕ)) (n : ℕ) → length (kept pairs n) ≤ n
unfolding kept
length-kept pairs n = omega (arith, length-those (λ a. not (list_any (λ b. ltb b a) (class_of pairs n a))) (range_with_len 0 n), length-range_with_len 0 n)

diagonal-keeps : (l : LayoutModel) (pairs : List (ℕ × ℕ)) → IsAccepted l → IsAccepted (diagonal_view l pairs).layout
unfolding diagonal_view diagonal_axes
diagonal-keeps l pairs a = old-or-new IsAccepted l _ _ a (λ e.
    let p = passed-check (handed l 0) e in
    let q = passed-check (pair_fault (rank l) pairs) p.1 in
    let s = passed-check (sum_faults l pairs (kept pairs (rank l))) q.1 in
    tested-no (with_axes l (map (fused l pairs) (kept pairs (rank l)))) (omega (arith, length-map (kept pairs (rank l)) (fused l pairs), length-kept pairs (rank l), a.few)) (bounds-reach (with_axes l (map (fused l pairs) (kept pairs (rank l)))) s.1))

-- an axis of extent 1, and one of stride 0, span nothing
record Spread (axes new : List Axis) : Type 0 where
  s_len : length new ≤ length axes
  s_up : upward new ≡ upward axes
  s_down : downward new ≡ downward axes
  s_empty : is_empty axes ≡ true → is_empty new ≡ true

spreads : (i : ℕ) (axes : List Axis) (targets : List ℕ) → length targets ≡ length axes → target_fault i axes targets ≡ pass → Spread axes (spread axes targets)
unfolding target_fault spread upward downward is_empty
spreads i [] targets n e = record { s_len = omega arith; s_up = refl; s_down = refl; s_empty = λ q. q }
spreads i (a ∷ r) [] n e = absurd (omega arith)
spreads i (a ∷ r) (t ∷ ts) n e =
    let p = passed (not (eqb a.extent t || eqb a.extent 1)) 6 (i ∷ []) e in
    let ih = spreads (suc i) r ts (omega arith) p.1 in
    go (eqb a.extent t) (eqb a.extent 1) (not-false (eqb a.extent t || eqb a.extent 1) p.0) (eqb-true a.extent 1) ih
  where
    go : (x y : Bool) → (x || y) ≡ true → (y ≡ true → a.extent ≡ 1) → Spread r (spread r ts) → Spread (a ∷ r) ((if x then a else record { extent = t; stride = pos 0 }) ∷ spread r ts)
    go true y q one s = record {
      s_len = omega (arith, s.s_len);
      s_up = ap (λ (z : ℕ). positive_part (span a) + z) s.s_up;
      s_down = ap (λ (z : ℕ). negative_part (span a) + z) s.s_down;
      s_empty = either' (eqb a.extent 0) s.s_empty;
    }
      where
        either' : (t : Bool) → (is_empty r ≡ true → is_empty (spread r ts) ≡ true) → (t || is_empty r) ≡ true → (t || is_empty (spread r ts)) ≡ true
        either' true f e = refl
        either' false f e = f e
    go false false q one s = absurd (true-not-false q refl)
    go false true q one s =
        let o : a.extent ≡ 1 = one refl in
        record {
          s_len = omega (arith, s.s_len);
          s_up = omega (arith, s.s_up, positive_part-· (t - 1) (pos 0), positive_part-· (a.extent - 1) a.stride, ap (λ (z : ℕ). (z - 1) * positive_part a.stride) o);
          s_down = omega (arith, s.s_down, negative_part-· (t - 1) (pos 0), negative_part-· (a.extent - 1) a.stride, ap (λ (z : ℕ). (z - 1) * negative_part a.stride) o);
          s_empty = λ e. last (eqb t 0) (s.s_empty (rest (eqb a.extent 0) (ne_eqb a.extent 0 (λ z. omega arith)) e));
        }
      where
        rest : (t : Bool) → t ≡ false → (t || is_empty r) ≡ true → is_empty r ≡ true
        rest true f e = absurd (subst T f tt)
        rest false f e = e

        last : (t : Bool) → is_empty (spread r ts) ≡ true → (t || is_empty (spread r ts)) ≡ true
        last true e = refl
        last false e = e

broadcast-keeps : (l : LayoutModel) (targets : List ℕ) → IsAccepted l → IsAccepted (broadcast l targets).layout
unfolding broadcast
broadcast-keeps l targets a = old-or-new IsAccepted l _ _ a (λ e.
    let p = passed-check (handed l (length targets)) e in
    let q = passed (not (eqb (length targets) (rank l))) 4 (rank l ∷ length targets ∷ []) p.1 in
    let n : length targets ≡ rank l = eqb-true (length targets) (rank l) (not-false (eqb (length targets) (rank l)) q.0) in
    let s = spreads 0 l.axes targets n q.1 in
    same-reach l (spread l.axes targets) a (omega (arith, s.s_len, a.few)) s.s_up s.s_down s.s_empty)

pub views-keep : (l : LayoutModel) (c : Call) → IsAccepted l → IsAccepted (after_call l c).layout
unfolding after_call
views-keep l (permuting order) a = permute-keeps l order a
views-keep l (diagonal pairs) a = diagonal-keeps l pairs a
views-keep l (broadcasting targets) a = broadcast-keeps l targets a

pub ends-keep : (l : LayoutModel) (calls : List Call) → IsAccepted l → IsAccepted (end_of l calls)
unfolding end_of
ends-keep l [] a = a
ends-keep l (c ∷ calls) a = ends-keep (after_call l c).layout calls (views-keep l c a)

-- ---- check-in

length-axes_of_lists : (es : List ℕ) (ss : List ℤ) → length (axes_of_lists es ss) ≤ length es
unfolding axes_of_lists
length-axes_of_lists [] ss = omega arith
length-axes_of_lists (e ∷ es) [] = omega arith
length-axes_of_lists (e ∷ es) (s ∷ ss) = omega (arith, length-axes_of_lists es ss)

pub checked_in : (buffer : ℕ) (offset : ℤ) (extents : List ℕ) (strides : List ℤ) (l : LayoutModel) → check_in buffer offset extents strides ≡ done l → IsAccepted l
unfolding check_in
checked_in buffer offset extents strides l e =
    let p = passed (is_too_long extents || is_too_long strides) 1 [] e in
    let q = passed (not (eqb (length extents) (length strides))) 2 [] p.1 in
    let s = passed-check (bounds (record { buffer = buffer; offset = offset; axes = axes_of_lists extents strides })) q.1 in
    subst IsAccepted (done_inj s.1) (tested-no (record { buffer = buffer; offset = offset; axes = axes_of_lists extents strides })
    (omega (arith, length-axes_of_lists extents strides, few (ltb 16 (length extents)) (ltb 16 (length strides)) (ltb-false 16 (length extents)) p.0)) (bounds-reach _ s.0))
  where
    few : (x y : Bool) → (x ≡ false → length extents ≤ 16) → (x || y) ≡ false → length extents ≤ 16
    few true y f e = absurd (subst T e tt)
    few false y f e = f refl
