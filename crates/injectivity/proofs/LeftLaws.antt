-- The active axes of a layout that is left to the block: their total, their span, and that a block asks no more of each.
use Rattle.std.specs.List.{list_any}
use Rattle.std.proofs.Common.{◌≡◌, ℕ, suc, ◌+◌, ◌*◌, ◌-◌, ◌^◌, ◌≤◌, ◌<◌, false, List, [], ◌∷◌, refl, ap, arith}
use native.Mathlib.Nat.{le-mul_of_pos_right, mul_comm}
use lib.IntN.{nat_abs}
use Rattle.std.proofs.lemmas.Bool.Decides.{nat_tests}
use Rattle.std.proofs.lemmas.Int.{ints}
use Rattle.integer.specs.Parts.{positive_part, negative_part}
use Rattle.integer.proofs.MultipleLaws.{positive_part-·, negative_part-·}
use Rattle.integer.proofs.PartLaws.{nat_abs-parts}
use Rattle.specification.specs.Axis.{Axis, product, positions, span, upward, downward}
use Rattle.specification.specs.Search.{total, span_sum}
use Rattle.specification.specs.Verdict.{active_from, still}
use Rattle.specification.proofs.NormalAxes.{AllPositive}
use Rattle.search.specs.Block.{Side, Sides}
use Rattle.injectivity.specs.Inputs.{unfit}

pub active-total : (k : ℕ) {axes : List Axis} → AllPositive axes → total (active_from k axes) ≡ positions axes
unfolding active_from product
active-total k AllPositive.none = refl
active-total k (AllPositive.more {a} {r} h t) = let e = active-total (suc k) t in grind (arith, ints)

-- the span of an axis, without its sign
span-parts : (a : Axis) → (a.extent - 1) * nat_abs a.stride ≡ positive_part (span a) + negative_part (span a)
span-parts a =
    let n = a.extent - 1 in
    omega (arith, positive_part-· n a.stride, negative_part-· n a.stride, ap (λ (k : ℕ). n * k) (nat_abs-parts a.stride))

pub active-span : (k : ℕ) (axes : List Axis) → span_sum (active_from k axes) ≡ upward axes + downward axes
unfolding active_from span_sum upward downward
active-span k [] = refl
active-span k (a ∷ r) = let e = active-span (suc k) r in let p = span-parts a in grind (arith, ints)

-- ---- each of them

-- a stride is at most the span of an active axis
pub below_span : (n m : ℕ) → 1 < n → m ≤ (n - 1) * m
below_span n m h = let g : 0 < n - 1 = omega arith in omega (arith, le-mul_of_pos_right m g, mul_comm (n - 1) m)

side_of : (a : Axis) → 1 < a.extent → still a ≡ false → unfit a ≡ false → positive_part (span a) < 2 ^ 63 → negative_part (span a) ≤ 2 ^ 63
    → Side a.extent (nat_abs a.stride)
side_of a h s f u d =
    let n = a.extent - 1 in
    let up : positive_part a.stride ≤ positive_part (span a) = omega (arith, positive_part-· n a.stride, below_span a.extent (positive_part a.stride) h) in
    let down : negative_part a.stride ≤ negative_part (span a) = omega (arith, negative_part-· n a.stride, below_span a.extent (negative_part a.stride) h) in
    grind (arith, ints, nat_tests)

pub active-sides : (k : ℕ) (axes : List Axis) → list_any still axes ≡ false → list_any unfit axes ≡ false
    → upward axes < 2 ^ 63 → downward axes ≤ 2 ^ 63 → Sides (active_from k axes)
unfolding active_from upward downward
active-sides k [] s f u d = tt
active-sides k (a ∷ r) s f u d = let rest = active-sides (suc k) r in grind (arith, ints, side_of a)
