-- What is out of range, as the code asks for it.
use Rattle.std.specs.List.{list_any}
use Rattle.std.specs.Prelude.{is_none}
use Rattle.std.proofs.Common.{◌≡◌, ◌^◌, ◌≤◌, ◌<◌, Bool, false, not, ◌&&◌, ◌||◌, List, [], ◌∷◌, refl, arith}
use lib.IntN.{negsuc}
use Rattle.std.proofs.lemmas.Bool.Decides.{nat_tests}
use Rattle.std.proofs.lemmas.Int.{ints}
use Rattle.std.specs.Ordering.{int_eq}
use Rattle.integer.specs.Range.{fits, most_signed}
use Rattle.integer.proofs.PartLaws.{parts-fit, fits-of-sfits}
use Rattle.specification.specs.Axis.{Axis, active, span, upward, downward}
use Rattle.specification.specs.CheckIn.{is_too_wide}
use Rattle.specification.specs.Verdict.{is_out_of_range}
use Rattle.view.specs.Reach.{spans_up_to}
use Rattle.injectivity.specs.Inputs.{unfit}

-- what tests of an axis by machine numbers come to
pub ruleset axis_tests = (ints, nat_tests)

least : Axis → Bool
least a = active a && int_eq a.stride (negsuc most_signed)

list_any-unfit : (axes : List Axis) → list_any unfit axes ≡ (list_any is_too_wide axes || list_any least axes)
unfolding least
list_any-unfit [] = refl
list_any-unfit (a ∷ rest) = let e = list_any-unfit rest in grind (arith, ints)

-- one span is no more than the sums
spans_fit : (axes : List Axis) → upward axes < 2 ^ 63 → downward axes ≤ 2 ^ 63 → list_any (λ a. not (fits (span a))) axes ≡ false
unfolding upward downward
spans_fit [] u d = refl
spans_fit (a ∷ rest) u d = rw (fits-of-sfits (span a) (parts-fit (omega arith) (omega arith)), spans_fit rest (omega arith) (omega arith))

-- as the code asks: the axes by themselves, then the two sums of spans
pub out_is : (axes : List Axis) → is_out_of_range axes ≡ (list_any unfit axes || is_none (spans_up_to most_signed (2 ^ 63) axes))
unfolding is_out_of_range least
out_is axes = let u = list_any-unfit axes in let f = spans_fit axes in grind (arith, ints, nat_tests)

-- in range is what these three say
pub all_in_range : (axes : List Axis) → list_any unfit axes ≡ false → upward axes < 2 ^ 63 → downward axes ≤ 2 ^ 63 → is_out_of_range axes ≡ false
unfolding is_out_of_range least
all_in_range axes f u d = let e = list_any-unfit axes in let s = spans_fit axes u d in grind (arith, ints, nat_tests)

-- what is in range
pub in_range : (axes : List Axis) → is_out_of_range axes ≡ false → (list_any unfit axes ≡ false) × (upward axes < 2 ^ 63) × (downward axes ≤ 2 ^ 63)
unfolding is_out_of_range least
in_range axes o = let u = list_any-unfit axes in grind (arith, ints, nat_tests)
