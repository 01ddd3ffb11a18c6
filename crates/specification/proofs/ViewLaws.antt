-- What permute and broadcast do to the offset of an index vector.
use Rattle.std.specs.Prelude.{if◌then◌else◌}
use mathlib.Core.Path.{◌≡◌, refl, ap, ap₂, ◌∙◌}
use mathlib.Core.Bool.{Bool, true, false, not}
use mathlib.Core.List.{List, [], ◌∷◌, map}
use Prim.Native.Nat.{ℕ, ◌+◌, ◌*◌}
use native.Mathlib.Omega.{arith}
use lib.Dec.{eqb}
use lib.IntN.{ℤ, pos, ◌+ℤ◌}
use lib.ListN.{length, get_or}
use borrow.Author.Tests.{eqb-true, not-false}
use Rattle.integer.specs.Multiple.{◌·◌}
use Rattle.integer.specs.Parts.{positive_part, negative_part}
use Rattle.integer.proofs.MultipleLaws.{multiples}
use Rattle.specification.specs.Axis.{Axis, offset_sum}
use Rattle.specification.specs.Outcome.{Check, pass, refuse_if, ◌>>◌}
use Rattle.specification.specs.Layout.{LayoutModel, rank, handed}
use Rattle.specification.specs.Views.{unless_refused, with_axes, axis_at, order_fault, permute, target_fault, spread, broadcast}
use Rattle.specification.specs.ViewClaims.{held_back}
use Rattle.specification.proofs.OrderSums.{left, left-shift, whole_sum}
use Rattle.specification.proofs.OutcomeLaws.{passed, passed-check}
use Rattle.specification.proofs.Sums.{sum_of}
use Rattle.std.proofs.lemmas.Int.{ints}

-- a view that is not refused
pub record Settled (l n : LayoutModel) (c : Check) : Type 0 where
  pub passes : c ≡ pass
  pub becomes : (unless_refused l c n).layout ≡ n

pub settled : (l n : LayoutModel) (c : Check) → (unless_refused l c n).answer ≡ pass → Settled l n c
unfolding unless_refused
settled l n c e = grind (arith, ints)

-- the sum of index × one part of the stride
unfoldable pub weigh : (ℤ → ℕ) → List Axis → List ℕ → ℕ
weigh g [] x = 0
weigh g (a ∷ r) [] = 0
weigh g (a ∷ r) (i ∷ x) = i * g a.stride + weigh g r x

pub parts : (l : List Axis) (x : List ℕ) → positive_part (offset_sum l x) + weigh negative_part l x ≡ weigh positive_part l x + negative_part (offset_sum l x)
unfolding offset_sum weigh
parts [] x = refl
parts (a ∷ r) [] = refl
parts (a ∷ r) (i ∷ x) = omega (arith, multiples, parts r x)

same_parts : (l m : List Axis) (x y : List ℕ) → weigh positive_part l x ≡ weigh positive_part m y → weigh negative_part l x ≡ weigh negative_part m y → offset_sum l x ≡ offset_sum m y
same_parts l m x y p n = omega (arith, ints, parts l x, parts m y)

pub by-axis : (g : ℤ → ℕ) (l : List Axis) (x : List ℕ) → length x ≡ length l → left (λ i. get_or x i 0 * g (axis_at l i).stride) [] 0 (length l) ≡ weigh g l x
unfolding left weigh
by-axis g [] x e = refl
by-axis g (a ∷ r) [] e = absurd (omega arith)
by-axis g (a ∷ r) (i ∷ x) e = ap (λ (z : ℕ). i * g a.stride + z) (left-shift (λ k. get_or (i ∷ x) k 0 * g (axis_at (a ∷ r) k).stride) 0 (length r) ∙ by-axis g r x (omega arith))

by_order : (g : ℤ → ℕ) (l : List Axis) (x order : List ℕ) → weigh g (map (axis_at l) order) (map (λ a. get_or x a 0) order) ≡ sum_of (λ i. get_or x i 0 * g (axis_at l i).stride) order
unfolding weigh sum_of
by_order g l x [] = refl
by_order g l x (a ∷ r) = ap (λ (z : ℕ). get_or x a 0 * g (axis_at l a).stride + z) (by_order g l x r)

pub permuted : (l : LayoutModel) (order index : List ℕ) → (permute l order).answer ≡ pass → length index ≡ rank l
    → offset_sum (permute l order).layout.axes (map (λ a. get_or index a 0) order) ≡ offset_sum l.axes index
unfolding permute
permuted l order index e n =
    let c : Check = handed l (length order) >> refuse_if (not (eqb (length order) (rank l))) 4 (length order ∷ rank l ∷ []) >> order_fault (rank l) [] order in
    let s = settled l (with_axes l (map (axis_at l.axes) order)) c e in
    let p = passed-check (handed l (length order)) s.passes in
    let q = passed (not (eqb (length order) (rank l))) 4 (length order ∷ rank l ∷ []) p.1 in
    let k : length order ≡ rank l = eqb-true (length order) (rank l) (not-false (eqb (length order) (rank l)) q.0) in
    ap (λ (m : LayoutModel). offset_sum m.axes (map (λ a. get_or index a 0) order)) s.becomes
    ∙ same_parts (map (axis_at l.axes) order) l.axes (map (λ a. get_or index a 0) order) index (whole positive_part k q.1) (whole negative_part k q.1)
  where
    whole : (g : ℤ → ℕ) → length order ≡ rank l → order_fault (rank l) [] order ≡ pass → weigh g (map (axis_at l.axes) order) (map (λ a. get_or index a 0) order) ≡ weigh g l.axes index
    whole g k f = by_order g l.axes index order ∙ whole_sum (λ i. get_or index i 0 * g (axis_at l.axes i).stride) order (rank l) k f ∙ by-axis g l.axes index n

spread-sum : (l : List Axis) (targets index : List ℕ) → length targets ≡ length l → length index ≡ length l → offset_sum (spread l targets) index ≡ offset_sum l (held_back l targets index)
unfolding spread held_back offset_sum
spread-sum [] targets index h k = refl
spread-sum (a ∷ r) [] index h k = absurd (omega arith)
spread-sum (a ∷ r) (t ∷ ts) [] h k = absurd (omega arith)
spread-sum (a ∷ r) (t ∷ ts) (i ∷ x) h k = go (eqb a.extent t) (spread-sum r ts x (omega arith) (omega arith))
  where
    still : (s : ℤ) → i · pos 0 ≡ 0 · s
    still s = omega (arith, multiples)

    new : Bool → Axis
    new u = if u then a else record { extent = t; stride = pos 0 }

    go : (u : Bool) → offset_sum (spread r ts) x ≡ offset_sum r (held_back r ts x)
        → i · (new u).stride +ℤ offset_sum (spread r ts) x ≡ (if u then i else 0) · a.stride +ℤ offset_sum r (held_back r ts x)
    go true e = ap (λ (z : ℤ). i · a.stride +ℤ z) e
    go false e = ap₂ (λ (y z : ℤ). y +ℤ z) (still a.stride) e

pub stretched : (l : LayoutModel) (targets index : List ℕ) → (broadcast l targets).answer ≡ pass → length index ≡ rank l
    → offset_sum (broadcast l targets).layout.axes index ≡ offset_sum l.axes (held_back l.axes targets index)
unfolding broadcast
stretched l targets index e n =
    let c : Check = handed l (length targets) >> refuse_if (not (eqb (length targets) (rank l))) 4 (rank l ∷ length targets ∷ []) >> target_fault 0 l.axes targets in
    let s = settled l (with_axes l (spread l.axes targets)) c e in
    let p = passed-check (handed l (length targets)) s.passes in
    let q = passed (not (eqb (length targets) (rank l))) 4 (rank l ∷ length targets ∷ []) p.1 in
    let k : length targets ≡ rank l = eqb-true (length targets) (rank l) (not-false (eqb (length targets) (rank l)) q.0) in
    ap (λ (m : LayoutModel). offset_sum m.axes index) s.becomes ∙ spread-sum l.axes targets index k n
