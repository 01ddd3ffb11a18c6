-- The sorted axes passed one by one: their total and span, and the block known so far.
use Rattle.std.proofs.Common.{◌≡◌, ℕ, ◌+◌, ◌*◌, ◌-◌, ◌^◌, ◌≤◌, ◌<◌, List, [], ◌∷◌, ◌++◌, length, take, drop, append_assoc, refl, arith}
use lib.ListN.{drop_of_length-le}
use Rattle.std.proofs.lemmas.Int.{ints}
use Rattle.std.proofs.lemmas.List.{take_more, drop_more, length-take-le}
use Rattle.specification.specs.Axis.{product}
use Rattle.specification.specs.Search.{ActiveAxis, total, span_sum}
use Rattle.specification.specs.BlockClaims.{entry_at}
use Rattle.specification.specs.Verdict.{up_to_last}
use Rattle.differences.proofs.Meeting.{total-append, span-append}
use Rattle.search.specs.Block.{Sides}
use Rattle.injectivity.proofs.SearchableLaws.{side-at, total-positive, numbered-take, sides-take, span-take, total-take}

-- the block: what is left says where it ends, or else it is the one found so far
unfoldable pub ending : List ActiveAxis → List ActiveAxis → List ActiveAxis → List ActiveAxis
ending [] passed found = found
ending (b ∷ more) passed found = passed ++ (b ∷ more)

abbrev none : ActiveAxis
none = record { axis = 0; extent = 0; stride = 0 }

-- none are passed
pub none_ends : (l : List ActiveAxis) → ending (up_to_last 0 l) [] [] ≡ up_to_last 0 l
unfolding ending
none_ends l = grind (arith, ints)

pub none_total : total [] ≡ 1
unfolding product
none_total = refl

pub none_span : span_sum [] ≡ 0
unfolding span_sum
none_span = refl

module _ (l : List ActiveAxis) (i : ℕ) (h : i < length l) where
  abbrev here : ActiveAxis
  here = entry_at l i

  pub total_more : total (take (i + 1) l) ≡ total (take i l) * here.extent
  unfolding product
  total_more = rw (take_more l i none h, total-append (take i l) (here ∷ [])) (omega arith)

  pub span_more : span_sum (take (i + 1) l) ≡ span_sum (take i l) + (here.extent - 1) * here.stride
  unfolding span_sum
  span_more = rw (take_more l i none h, span-append (take i l) (here ∷ [])) (omega arith)

  module _ (before : ℕ) (found : List ActiveAxis) where
    pub near : here.stride ≤ before → ending (up_to_last before (drop i l)) (take i l) found
        ≡ ending (up_to_last (before + (here.extent - 1) * here.stride) (drop (i + 1) l)) (take (i + 1) l) (take (i + 1) l)
    unfolding up_to_last ending
    near k = rw (drop_more l i none h, take_more l i none h) (grind (arith, ints, append_assoc))

    pub far : before < here.stride → ending (up_to_last before (drop i l)) (take i l) found
        ≡ ending (up_to_last (before + (here.extent - 1) * here.stride) (drop (i + 1) l)) (take (i + 1) l) found
    unfolding up_to_last ending
    far k = rw (drop_more l i none h, take_more l i none h) (grind (arith, ints, append_assoc))

  -- a word holds what is covered next, as it holds the whole
  pub some_extent : Sides l → 1 ≤ here.extent
  some_extent s = omega (arith, (side-at l s i h).long)

  pub total_within : Sides l → total (take i l) * here.extent ≤ total l
  total_within s = omega (arith, total_more, total-take (i + 1) l s)

  pub span_within : span_sum (take i l) + (here.extent - 1) * here.stride ≤ span_sum l
  span_within = omega (arith, span_more, span-take (i + 1) l)

  -- the first axis has no span before it, and it moves
  pub not_first : Sides l → here.stride ≤ span_sum (take i l) → 0 < i
  unfolding span_sum
  not_first s k = let m = (side-at l s i h).moves in grind (arith, ints)

-- all are passed
pub all_passed : (l passed found : List ActiveAxis) (before i : ℕ) → length l ≤ i → ending (up_to_last before (drop i l)) passed found ≡ found
unfolding up_to_last ending
all_passed l passed found before i h = rw (drop_of_length-le l h)

-- the block: the first of the sorted axes
pub front_positive : (k : ℕ) (l : List ActiveAxis) → Sides l → 0 < total (take k l)
front_positive k l s = total-positive (take k l) (sides-take k l s)

-- what holds as axes are passed, and of those in front
pub ruleset passing = (none_ends, none_total, none_span, total_more, span_more, near, far, not_first, all_passed)

pub ruleset in_front = (some_extent, total_within, span_within, front_positive, numbered-take, sides-take, span-take, length-take-le)
