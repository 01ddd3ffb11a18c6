-- What is left of a layout to its block is what the block and its judging ask for.
use Rattle.std.proofs.Common.{◌≡◌, ℕ, ◌*◌, ◌^◌, ◌≤◌, ◌<◌, List, [], ◌∷◌, length, refl, sym, ap, ◌∙◌, arith}
use Rattle.std.proofs.lemmas.Int.{ints}
use Rattle.specification.specs.Axis.{Axis, product, positions}
use Rattle.specification.specs.Normal.{overfull}
use Rattle.specification.specs.Search.{ActiveAxis, total}
use Rattle.specification.specs.Verdict.{active_from, smaller}
use Rattle.specification.specs.BlockClaims.{sorted_active}
use Rattle.specification.proofs.AxisNumbers.{active-ascend}
use Rattle.specification.proofs.AxisOrder.{Perm, nil, skip, swap, trans}
use Rattle.specification.proofs.NormalLaws.{full-pos}
use Rattle.specification.proofs.Sorting.{Each, EachTwo, perm-length, sort-perm}
use Rattle.sorting.specs.Numbered.{IsFree, IsNumbered}
use Rattle.sorting.proofs.SortedAxes.{perm-numbered}
use Rattle.search.specs.Block.{IsSearchable}
use Rattle.search.proofs.Apart.{span-perm, sides-perm}
use Rattle.injectivity.specs.Inputs.{IsLeftToBlock}
use Rattle.injectivity.proofs.ActiveLaws.{active-length}
use Rattle.injectivity.proofs.InputsLaws.{in_range}
use Rattle.injectivity.proofs.LeftLaws.{active-total, active-span, active-sides}
use Rattle.injectivity.proofs.JudgeLaws.{no_block}
use Rattle.injectivity.proofs.PlanLaws.{by_block, not-empty}

pub total-perm : {l m : List ActiveAxis} → Perm l m → total l ≡ total m
unfolding product
total-perm nil = refl
total-perm (skip {a} p) = ap (λ (k : ℕ). a.extent * k) (total-perm p)
total-perm (swap {a} {b} {l}) = omega arith
total-perm (trans p q) = total-perm p ∙ total-perm q

-- ---- numbers that differ

free-below : (n : ℕ) (l : List ActiveAxis) → Each (λ b. n < b.axis) l → IsFree n l
free-below n [] e = tt
free-below n (a ∷ rest) e = ((λ q. omega (arith, e.0)), free-below n rest e.1)

ascending-numbered : (l : List ActiveAxis) → EachTwo (λ a b. a.axis < b.axis) l → IsNumbered l
ascending-numbered [] e = tt
ascending-numbered (a ∷ rest) e = (free-below a.axis rest e.0, ascending-numbered rest e.1)

pub active_numbered : (axes : List Axis) → IsNumbered (active_from 0 axes)
active_numbered axes = ascending-numbered (active_from 0 axes) (active-ascend 0 axes)

-- ---- the sorted axes of a layout that is left to the block

module _ (axes : List Axis) (t : IsLeftToBlock axes) where
  abbrev perm : Perm (active_from 0 axes) (sorted_active axes)
  perm = sort-perm smaller (active_from 0 axes)

  pub sorted_searchable : length axes ≤ 16 → IsSearchable (sorted_active axes)
  sorted_searchable few = let r = in_range axes t.not_three in record {
    few = omega (arith, perm-length perm, active-length 0 axes);
    numbered = perm-numbered perm (active_numbered axes);
    sides = sides-perm perm (active-sides 0 axes t.no_still_axis r.0 r.1 r.2);
    fits = omega (arith, span-perm perm, active-span 0 axes, r.1, r.2);
  }

  pub sorted_total : total (sorted_active axes) < 2 ^ 64
  unfolding overfull
  sorted_total =
      let e : total (sorted_active axes) ≡ positions axes = sym (total-perm perm) ∙ active-total 0 (full-pos axes (not-empty axes t.many)) in
      let o = t.not_eight in
      grind (arith, ints, not-empty axes t.many)

-- what the active axes and the sorted ones are, and what is judged of them
pub ruleset sorted_axes = (active_numbered, sorted_searchable, sorted_total, by_block, no_block)
