-- What is planned for a block, by its total and span and by how many axes it has.
use Rattle.std.specs.Prelude.{if◌then◌else◌}
use Rattle.std.proofs.Common.{◌≡◌, ◌-◌, ◌≤◌, ◌<◌, List, [], length, refl, arith}
use Rattle.std.proofs.lemmas.Int.{ints}
use Rattle.specification.specs.Tests.{sort_by}
use Rattle.specification.specs.Axis.{product}
use Rattle.specification.specs.Search.{ActiveAxis, total, span_sum, two_distinct}
use Rattle.specification.specs.Verdict.{Distinct, Repeated, answered, longer, by_two, by_many, by_size, by_block_size}
use Rattle.specification.specs.BlockClaims.{entry_at}

pub no_block : by_block_size [] ≡ answered Distinct 0
unfolding by_block_size
no_block = refl

-- more positions than sums
pub crowded : (l : List ActiveAxis) → ¬ (total l - 1 ≤ span_sum l) → by_block_size l ≡ answered Repeated 0
unfolding by_block_size product
crowded l n = grind (arith, ints)

sized : (l : List ActiveAxis) → total l - 1 ≤ span_sum l → by_block_size l ≡ by_size l
unfolding by_block_size by_size
sized l k = grind (arith, ints)

pub many : (l : List ActiveAxis) → total l - 1 ≤ span_sum l → 2 < length l → by_block_size l ≡ by_many l (sort_by longer l)
unfolding by_size
many l k h = grind (arith, ints, sized l k)

pub two : (l : List ActiveAxis) → total l - 1 ≤ span_sum l → 2 ≤ length l → length l < 3
    → by_block_size l ≡ (if two_distinct (entry_at l 0) (entry_at l 1) then answered Distinct 0 else answered Repeated 0)
unfolding by_size by_two
two l k m e = grind (arith, ints, sized l k)

-- what is planned for a block
pub ruleset plans = (crowded, many, two)
