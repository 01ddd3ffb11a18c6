-- Each answer of the verdict is true of the positions; if both budgets are passed it is Undecided.
use Rattle.std.specs.Prelude.{if◌then◌else◌}
use mathlib.Core.Path.{◌≡◌, refl, sym, ap, subst, ◌∙◌}
use mathlib.Core.Bool.{true, false}
use mathlib.Core.List.{List, [], ◌∷◌}
use Prim.Native.Nat.{ℕ, ◌<◌}
use native.Mathlib.Omega.{arith}
use lib.ListN.{drop}
use Rattle.specification.specs.Tests.{is_yes, sort_by}
use Rattle.specification.specs.Axis.{Axis, positions, SharesOffset, is_empty}
use Rattle.specification.specs.Outcome.{done}
use Rattle.specification.specs.Search.{ActiveAxis, span_sum, total, half, SameSum}
use Rattle.specification.specs.Decided.{same_sum?}
use Rattle.specification.specs.Verdict.{Verdict, Distinct, Repeated, Undecided, Judged, Plan, answered, enumerated, active_from, block_of, longer, lower, others_of, searched, judge, BothBudgetsPassed}
use Rattle.specification.specs.VerdictClaims.{Says}
use Rattle.specification.proofs.NormalAxes.{AllPositive}
use Rattle.specification.proofs.Positions.{IndexVector, empty}
use Rattle.specification.proofs.AbsoluteStrides.{absolute, SumsApart}
use Rattle.specification.proofs.SeparatedAxis.{separated}
use Rattle.specification.proofs.Differences.{EqualSums, crowded as crowded-pair}
use Rattle.specification.proofs.AxisOrder.{Perm, skip, trans, perm-sym, apart-of-perm, carry, carry-perm}
use Rattle.specification.proofs.Collisions.{no-pair, pair-carry, pair-shared, apart-positions}
use Rattle.specification.proofs.Sorting.{sort-perm}
use Rattle.specification.proofs.BlockLaws.{Live, Lives, lives-pos, perm-lives, active-carry, still-yes, still-no, block-lives, block_apart, block-pair}
use Rattle.specification.proofs.TwoAxes.{no-pair-of-two, pair-of-two}
use Rattle.specification.proofs.SearchLaws.{TruePlan, move, search-end, says-search, same-pair, no_same}
use Rattle.specification.proofs.NormalLaws.{full-pos, empty-none}
use Rattle.specification.proofs.PlanCases.{SmallCase, no_block, one_axis, crowded, two_apart, two_meet, SearchCase, searching, enumerating, past_both, BlockCase, small, large, ToBlock, PlanCase, when_empty, when_one, when_still, by_block, plan-of-large, judged_as, judged-by}
use Rattle.std.proofs.lemmas.Int.{ints}

-- ---- a block

-- with no axes there is one index vector
only_one : {x y : List ℕ} → IndexVector [] x → IndexVector [] y → x ≡ y
only_one empty empty = refl

none_apart : SumsApart []
none_apart x y bx by e = only_one bx by

one_apart : (a : ActiveAxis) → Live a → SumsApart (a ∷ [])
unfolding span_sum
one_apart a v = separated a [] v.moves none_apart

says-small : (U : Type 0) {block : List ActiveAxis} {v : Verdict} → SmallCase block v → Lives block → TruePlan U block (answered v 0)
says-small U no_block l = none_apart
says-small U (one_axis {a}) l = one_apart a l.0
says-small U (crowded {block} h) l = crowded-pair block (lives-pos block l) (omega (arith, h))
says-small U (two_apart {a} {b} e) l = no-pair (a ∷ b ∷ []) (no-pair-of-two a b l.0.moves l.1.0.moves e)
says-small U (two_meet {a} {b} e) l = pair-of-two a b l.0.moves l.1.0.moves e

-- the block is the two set apart and the others, in another order
pub apart-perm : (block : List ActiveAxis) (a b : ActiveAxis) (more : List ActiveAxis) → sort_by longer block ≡ a ∷ b ∷ more → Perm block (a ∷ b ∷ others_of block)
unfolding others_of
apart-perm block a b more e = subst (λ (s : List ActiveAxis). Perm block (a ∷ b ∷ sort_by lower (drop 2 s))) (sym e)
    (trans (subst (Perm block) e (sort-perm longer block)) (skip (skip (sort-perm lower more))))

says-large : (U : Type 0) {block : List ActiveAxis} {p : Plan} → SearchCase block p → Lives block → (4194304 < half (others_of block) → 16777216 < total block → U) → TruePlan U block p
says-large U {block} (searching {a} {b} {more} h e) l u =
    let q : Perm block (a ∷ b ∷ others_of block) = apart-perm block a b more e in
    let w : Lives (a ∷ b ∷ others_of block) = perm-lives q l in
    move U (apart-of-perm q) (pair-carry (carry-perm (perm-sym q))) (searched a b (others_of block))
    (says-search a b (others_of block) w.0 w.1.0 w.1.1 U (search-end a b (others_of block)))
says-large U {block} (enumerating h k) l u = (λ r. r, λ p. p, lives-pos block l)
says-large U (past_both h k) l u = u h k

says-block : {axes : List Axis} {p : Plan} → ToBlock axes → BlockCase (block_of axes) p → Lives (block_of axes) → TruePlan (BothBudgetsPassed axes) (block_of axes) p
says-block {axes} t (small c) l = says-small (BothBudgetsPassed axes) c l
says-block {axes} t (large n h c) l = says-large (BothBudgetsPassed axes) c l (λ s e. record {
  no_zero_extent = t.no_zero_extent;
  no_still_axis = t.no_still_axis;
  three_or_more = n;
  not_crowded = h;
  past_search = s;
  past_enumeration = e;
})

-- ---- the positions

apart-unshared : (l : List Axis) → AllPositive l → SumsApart (absolute 0 l) → ¬ (SharesOffset l)
apart-unshared l h f s = s.different (apart-positions l h f s.one s.other s.one_is s.other_is s.same)

empty-unshared : (l : List Axis) → is_empty l ≡ true → ¬ (SharesOffset l)
empty-unshared l e s = omega (arith, empty-none l e, s.one_is)

one-unshared : (l : List Axis) → positions l ≡ 1 → ¬ (SharesOffset l)
one-unshared l e s = s.different (omega (arith, s.one_is, s.other_is))

module _ (axes : List Axis) (e : is_empty axes ≡ false) where
  unshared : SumsApart (active_from 0 axes) → ¬ (SharesOffset axes)
  unshared f = apart-unshared axes (full-pos axes e) (carry (active-carry 0 (full-pos axes e)).0 f)

  shared : EqualSums (active_from 0 axes) → SharesOffset axes
  shared p = pair-shared axes (pair-carry (active-carry 0 (full-pos axes e)).1 p)

  -- what holds of the active axes holds of the positions
  says-positions : (p : Plan) → TruePlan (BothBudgetsPassed axes) (active_from 0 axes) p → Says (judged_as p).answer axes
  says-positions (answered Distinct c) t = unshared t
  says-positions (answered Repeated c) t = shared t
  says-positions (answered Undecided c) t = t
  says-positions (enumerated block) t = go (same_sum? block)
    where
      go : (d : Dec (SameSum block)) → Says (if is_yes d then Repeated else Distinct) axes
      go (yes s) = shared (t.1 (same-pair block t.2 s))
      go (no n) = unshared (t.0 (no_same block n))

says-plan : (axes : List Axis) (p : Plan) → PlanCase axes (done p) → Says (judged_as p).answer axes
says-plan axes _ (when_empty e) = empty-unshared axes e
says-plan axes _ (when_one f o e) = one-unshared axes e
says-plan axes _ (when_still f o e) = shared axes f (still-yes 0 axes e)
says-plan axes p (by_block t c) =
    let l : Lives (active_from 0 axes) = still-no 0 axes t.no_still_axis in
    says-positions axes t.no_zero_extent p (move (BothBudgetsPassed axes) (block_apart axes) (block-pair axes l) p (says-block t c (block-lives axes l)))

-- ---- the claims

undecided-plan : {block : List ActiveAxis} {p : Plan} → SearchCase block p → 4194304 < half (others_of block) → 16777216 < total block → (judged_as p).answer ≡ Undecided
undecided-plan c s t = grind (arith, ints)

module _ (axes : List Axis) (words : ℕ) (j : Judged) where
  pub true_answer : judge axes words ≡ done j → Says j.answer axes
  true_answer e = let b = judged-by axes words j e in subst (λ (k : Judged). Says k.answer axes) b.comes_to (says-plan axes b.plan b.case_is)

  pub only_undecided : judge axes words ≡ done j → BothBudgetsPassed axes → j.answer ≡ Undecided
  only_undecided e w =
      let b = judged-by axes words j e in
      let c = plan-of-large b.case_is w.no_zero_extent w.no_still_axis w.three_or_more w.not_crowded in
      ap (λ (k : Judged). k.answer) (sym b.comes_to) ∙ undecided-plan c w.past_search w.past_enumeration
