-- The numbers of active axes all differ, so each of the three orders leaves no tie: by absolute stride, by extent for the two set apart, by axis for the others.
use Rattle.std.specs.Prelude.{if◌then◌else◌}
use mathlib.Core.Path.{sym, subst}
use mathlib.Core.Bool.{Bool, true, false}
use mathlib.Core.Logic.{◌≢◌}
use mathlib.Core.List.{List, [], ◌∷◌}
use Prim.Native.Nat.{ℕ, suc, ◌<◌, ◌≤◌}
use native.Mathlib.Omega.{arith}
use lib.Dec.{ltb}
use lib.IntN.{nat_abs}
use lib.ListN.{drop}
use Rattle.specification.specs.Tests.{sort_by}
use Rattle.specification.specs.Axis.{Axis}
use Rattle.specification.specs.Search.{ActiveAxis}
use Rattle.specification.specs.Verdict.{active_from, smaller, block_of, longer, lower, others_of}
use Rattle.specification.specs.BlockClaims.{sorted_active, IsSmaller}
use Rattle.specification.specs.CountClaims.{IsSetApart, IsLarger}
use Rattle.specification.proofs.Sorting.{Each, EachTwo, Tells, each-implies, each-two-implies, each-two-drop, perm-each, perm-each-two, sort-perm, sort_sorted}
use Rattle.specification.proofs.BlockLaws.{last-each-two}
use Rattle.std.proofs.lemmas.Int.{ints}

-- two axes have different numbers
abbrev Differ : ActiveAxis → ActiveAxis → Type 0
Differ a b = a.axis ≢ b.axis

-- ---- the numbers of the block

numbers-from : (k : ℕ) (axes : List Axis) → Each (λ a. k ≤ a.axis) (active_from k axes)
unfolding active_from
numbers-from k [] = tt
numbers-from k (a ∷ r) = go (ltb 1 a.extent) (each-implies (λ b h. omega arith) (active_from (suc k) r) (numbers-from (suc k) r))
  where
    go : (t : Bool) → Each (λ b. k ≤ b.axis) (active_from (suc k) r)
        → Each (λ b. k ≤ b.axis) (if t then record { axis = k; extent = a.extent; stride = nat_abs a.stride } ∷ active_from (suc k) r else active_from (suc k) r)
    go true e = (omega arith, e)
    go false e = e

pub active-ascend : (k : ℕ) (axes : List Axis) → EachTwo (λ a b. a.axis < b.axis) (active_from k axes)
unfolding active_from
active-ascend k [] = tt
active-ascend k (a ∷ r) = go (ltb 1 a.extent) (each-implies (λ b h. omega arith) (active_from (suc k) r) (numbers-from (suc k) r)) (active-ascend (suc k) r)
  where
    go : (t : Bool) → Each (λ b. k < b.axis) (active_from (suc k) r) → EachTwo (λ a b. a.axis < b.axis) (active_from (suc k) r)
        → EachTwo (λ a b. a.axis < b.axis) (if t then record { axis = k; extent = a.extent; stride = nat_abs a.stride } ∷ active_from (suc k) r else active_from (suc k) r)
    go true e d = (e, d)
    go false e d = d

active-differ : (k : ℕ) (axes : List Axis) → EachTwo Differ (active_from k axes)
active-differ k axes = each-two-implies (λ a b h. omega arith) (active_from k axes) (active-ascend k axes)

sort-differ : (before : ActiveAxis → ActiveAxis → Bool) (l : List ActiveAxis) → EachTwo Differ l → EachTwo Differ (sort_by before l)
sort-differ before l d = perm-each-two Differ (λ a b n e. n (sym e)) (sort-perm before l) d

block-differ : (axes : List Axis) → EachTwo Differ (block_of axes)
unfolding block_of
block-differ axes = last-each-two Differ _ (sort_by smaller (active_from 0 axes)) (sort-differ smaller (active_from 0 axes) (active-differ 0 axes))

-- ---- sorted by absolute stride

smaller-chain : (a b c : ActiveAxis) → IsSmaller a b → IsSmaller b c → IsSmaller a c
smaller-chain a b c h k = grind (arith, ints)

smaller-tells : (a b : ActiveAxis) → Differ a b → Tells smaller IsSmaller a b
smaller-tells a b d = grind (arith, ints)

pub in_order : (axes : List Axis) → EachTwo IsSmaller (sorted_active axes)
in_order axes = sort_sorted smaller IsSmaller smaller-chain (active_from 0 axes) (each-two-implies smaller-tells (active_from 0 axes) (active-differ 0 axes))

-- ---- the two set apart

larger-chain : (a b c : ActiveAxis) → IsLarger a b → IsLarger b c → IsLarger a c
larger-chain a b c h k = grind (arith, ints)

longer-tells : (a b : ActiveAxis) → Differ a b → Tells longer IsLarger a b
longer-tells a b d = grind (arith, ints)

by-extent : (block : List ActiveAxis) → EachTwo Differ block → EachTwo IsLarger (sort_by longer block)
by-extent block d = sort_sorted longer IsLarger larger-chain block (each-two-implies longer-tells block d)

-- ---- the others

by-axis : (l : List ActiveAxis) → EachTwo Differ l → EachTwo (λ a b. a.axis < b.axis) (sort_by lower l)
by-axis l d = sort_sorted lower (λ a b. a.axis < b.axis) (λ a b c h k. omega arith) l
    (each-two-implies (λ a b n. grind (arith, ints)) l d)

pub others-ascend : (axes : List Axis) → EachTwo (λ a b. a.axis < b.axis) (others_of (block_of axes))
unfolding others_of
others-ascend axes = by-axis (drop 2 (sort_by longer (block_of axes))) (each-two-drop Differ 2 (sort_by longer (block_of axes)) (sort-differ longer (block_of axes) (block-differ axes)))

-- the larger of the two, then the other, then all the rest
pub two-before-others : (axes : List Axis) (a b : ActiveAxis) → IsSetApart axes a b → IsLarger a b × Each (IsLarger b) (others_of (block_of axes))
unfolding others_of
two-before-others axes a b t =
    let e : EachTwo IsLarger (a ∷ b ∷ t.more) = subst (EachTwo IsLarger) t.first_two (by-extent (block_of axes) (block-differ axes)) in
    (e.0.0, subst (λ (s : List ActiveAxis). Each (IsLarger b) (sort_by lower (drop 2 s))) (sym t.first_two) (perm-each (IsLarger b) (sort-perm lower t.more) e.1.0))
