-- A layout of one position: every extent is 1, so there is no block and nothing is out of range.
use Rattle.std.specs.List.{list_any}
use Rattle.std.specs.Prelude.{if◌then◌else◌}
use mathlib.Core.Path.{◌≡◌, refl, ap, ◌∙◌}
use mathlib.Core.Bool.{Bool, false, not, ◌&&◌}
use mathlib.Core.List.{List, [], ◌∷◌}
use Prim.Native.Nat.{ℕ, suc, ◌*◌, ◌-◌, ◌<◌, ◌≤◌}
use native.Mathlib.Nat.{le-mul_of_pos_right}
use native.Mathlib.Omega.{arith}
use lib.Dec.{ltb}
use lib.IntN.{ℤ, negsuc, nat_abs}
use Rattle.std.specs.Ordering.{int_eq}
use Rattle.integer.specs.Parts.{positive_part, negative_part}
use Rattle.integer.specs.Range.{fits, most_signed}
use Rattle.integer.proofs.MultipleLaws.{positive_part-·, negative_part-·, ·-zero}
use Rattle.specification.specs.Tests.{sort_by}
use Rattle.specification.specs.Axis.{Axis, positions, product, is_empty, active, span, upward, downward}
use Rattle.specification.specs.CheckIn.{is_too_wide}
use Rattle.specification.specs.Search.{ActiveAxis}
use Rattle.specification.specs.Verdict.{active_from, up_to_last, smaller, block_of, is_out_of_range}
use Rattle.specification.proofs.NormalAxes.{AllPositive}
use Rattle.specification.proofs.NormalLaws.{full-pos, positions-pos}

-- every extent is 1
abbrev AllOne : List Axis → Type 0
AllOne [] = Unit {0}
AllOne (a ∷ rest) = (a.extent ≡ 1) × AllOne rest

all_one : {axes : List Axis} → AllPositive axes → positions axes ≡ 1 → AllOne axes
unfolding product
all_one AllPositive.none e = tt
all_one (AllPositive.more {a} {r} h t) e =
    let p : 0 < positions r = positions-pos t in
    let le : a.extent ≤ a.extent * positions r = le-mul_of_pos_right a.extent p in
    let one : a.extent ≡ 1 = omega arith in
    (one, all_one t (omega (arith, ap (λ (z : ℕ). z * positions r) one)))

-- ---- no block

none-active : (k : ℕ) (axes : List Axis) → AllOne axes → active_from k axes ≡ []
unfolding active_from
none-active k [] h = refl
none-active k (a ∷ r) h =
    let this : ActiveAxis = record { axis = k; extent = a.extent; stride = nat_abs a.stride } in
    ap (λ (n : ℕ). if ltb 1 n then this ∷ active_from (suc k) r else active_from (suc k) r) h.0 ∙ none-active (suc k) r h.1

pub one_block : (axes : List Axis) → is_empty axes ≡ false → positions axes ≡ 1 → block_of axes ≡ []
unfolding block_of sort_by up_to_last
one_block axes f e = ap (λ (l : List ActiveAxis). up_to_last 0 (sort_by smaller l)) (none-active 0 axes (all_one (full-pos axes f) e))

-- ---- nothing out of range

none-of-ones : (test : Axis → Bool) → ((s : ℤ) → test (record { extent = 1; stride = s }) ≡ false) → (axes : List Axis) → AllOne axes → list_any test axes ≡ false
none-of-ones test f [] h = refl
none-of-ones test f (a ∷ r) h =
    let e : test a ≡ false = ap (λ (n : ℕ). test (record { extent = n; stride = a.stride })) h.0 ∙ f a.stride in
    rw (e, none-of-ones test f r h.1)

up-of-ones : (axes : List Axis) → AllOne axes → upward axes ≡ 0
unfolding upward
up-of-ones [] h = refl
up-of-ones (a ∷ r) h = omega (arith, up-of-ones r h.1, positive_part-· (a.extent - 1) a.stride, ap (λ (n : ℕ). (n - 1) * positive_part a.stride) h.0)

down-of-ones : (axes : List Axis) → AllOne axes → downward axes ≡ 0
unfolding downward
down-of-ones [] h = refl
down-of-ones (a ∷ r) h = omega (arith, down-of-ones r h.1, negative_part-· (a.extent - 1) a.stride, ap (λ (n : ℕ). (n - 1) * negative_part a.stride) h.0)

pub one-in-range : (axes : List Axis) → is_empty axes ≡ false → positions axes ≡ 1 → is_out_of_range axes ≡ false
unfolding is_out_of_range
one-in-range axes f e =
    let h : AllOne axes = all_one (full-pos axes f) e in
    rw (
      none-of-ones is_too_wide (λ s. refl) axes h,
      none-of-ones (λ a. not (fits (span a))) (λ s. ap (λ (z : ℤ). not (fits z)) (·-zero s)) axes h,
      none-of-ones (λ a. active a && int_eq a.stride (negsuc most_signed)) (λ s. refl) axes h,
      up-of-ones axes h,
      down-of-ones axes h,
    )
