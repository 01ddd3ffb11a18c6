-- Every way that a plan comes about, with what holds there: the inputs (`PlanCase`), the block (`BlockCase`), three axes or more (`SearchCase`).
-- What is claimed of the verdict is then proved case by case.
use Rattle.std.specs.List.{list_any}
use Rattle.std.specs.Prelude.{if◌then◌else◌}
use mathlib.Core.Path.{◌≡◌, refl, sym, ap, subst, ◌∙◌}
use mathlib.Core.Bool.{Bool, true, false, false≢true}
use mathlib.Core.List.{List, [], ◌∷◌}
use Prim.Native.Nat.{ℕ, ◌-◌, ◌<◌, ◌≤◌}
use native.Mathlib.Omega.{arith}
use lib.Dec.{eqb, ltb}
use lib.ListN.{length}
use borrow.Author.Tests.{ltb-true, ltb-false, leb-true, leb-false, eqb-true, le-ltb}
use Rattle.specification.specs.Tests.{is_yes, sort_by}
use Rattle.specification.specs.Axis.{Axis, positions, is_empty}
use Rattle.specification.specs.Outcome.{Outcome, done, refused, refuse_if, ◌>>◌}
use Rattle.specification.specs.Normal.{overfull}
use Rattle.specification.specs.Search.{ActiveAxis, span_sum, total, two_distinct, half, words_for}
use Rattle.specification.specs.Decided.{same_sum?}
use Rattle.specification.specs.Verdict.{Verdict, Distinct, Repeated, Undecided, Judged, Plan, answered, enumerated, block_of, by_two, longer, others_of, searched, plan_past_search, by_many, by_size, by_block_size, still, is_out_of_range, plan_of, carry_out, judge, words_of, words_needed}
use Rattle.specification.specs.VerdictClaims.{ComesToSearch}
use Rattle.specification.proofs.OutcomeLaws.{passed, refuse-no, bound, bind_done, done_inj}
use Rattle.specification.proofs.OnePosition.{one_block}
use Rattle.specification.proofs.Sorting.{perm-length, sort-perm}
use Rattle.std.proofs.lemmas.Int.{ints}

-- ---- three axes or more: search and enumeration

-- half within the budget, total within its own, or neither
pub data SearchCase (block : List ActiveAxis) : Plan → Type 0 where
  searching : {a b : ActiveAxis} {more : List ActiveAxis} → half (others_of block) ≤ 4194304 → sort_by longer block ≡ a ∷ b ∷ more → SearchCase block (searched a b (others_of block))
  enumerating : 4194304 < half (others_of block) → total block ≤ 16777216 → SearchCase block (enumerated block)
  past_both : 4194304 < half (others_of block) → 16777216 < total block → SearchCase block (answered Undecided 0)

many-case : (block : List ActiveAxis) → 3 ≤ length block → SearchCase block (by_many block (sort_by longer block))
unfolding by_many plan_past_search
many-case block h = go (sort_by longer block) refl (perm-length (sort-perm longer block))
  where
    pick : {a b : ActiveAxis} {more : List ActiveAxis} → sort_by longer block ≡ a ∷ b ∷ more → (t u : Bool)
        → (t ≡ true → half (others_of block) ≤ 4194304) → (t ≡ false → 4194304 < half (others_of block)) → (u ≡ true → total block ≤ 16777216) → (u ≡ false → 16777216 < total block)
        → SearchCase block (if t then searched a b (others_of block) else (if u then enumerated block else answered Undecided 0))
    pick e true u p n q m = searching (p refl) e
    pick e false true p n q m = enumerating (n refl) (q refl)
    pick e false false p n q m = past_both (n refl) (m refl)

    go : (s : List ActiveAxis) → sort_by longer block ≡ s → length block ≡ length s → SearchCase block (by_many block s)
    go [] e n = absurd (omega arith)
    go (a ∷ []) e n = absurd (omega arith)
    go (a ∷ b ∷ more) e n = pick e _ _ (leb-true _ _) (leb-false _ _) (leb-true _ _) (leb-false _ _)

-- ---- the block, and two axes

-- answered without a search
pub data SmallCase : List ActiveAxis → Verdict → Type 0 where
  no_block : SmallCase [] Distinct
  one_axis : {a : ActiveAxis} → SmallCase (a ∷ []) Distinct
  crowded : {block : List ActiveAxis} → span_sum block < total block - 1 → SmallCase block Repeated
  two_apart : {a b : ActiveAxis} → two_distinct a b ≡ true → SmallCase (a ∷ b ∷ []) Distinct
  two_meet : {a b : ActiveAxis} → two_distinct a b ≡ false → SmallCase (a ∷ b ∷ []) Repeated

-- small, or searched and enumerated
pub data BlockCase (block : List ActiveAxis) : Plan → Type 0 where
  small : {v : Verdict} → SmallCase block v → BlockCase block (answered v 0)
  large : {p : Plan} → 3 ≤ length block → total block - 1 ≤ span_sum block → SearchCase block p → BlockCase block p

size-case : (block : List ActiveAxis) → total block - 1 ≤ span_sum block → BlockCase block (by_size block)
unfolding by_size by_two
size-case [] h = small no_block
size-case (a ∷ []) h = small one_axis
size-case (a ∷ b ∷ []) h = go (two_distinct a b) refl
  where
    go : (t : Bool) → two_distinct a b ≡ t → BlockCase (a ∷ b ∷ []) (if t then answered Distinct 0 else answered Repeated 0)
    go true e = small (two_apart e)
    go false e = small (two_meet e)
size-case (a ∷ b ∷ c ∷ more) h = large (omega arith) h (many-case (a ∷ b ∷ c ∷ more) (omega arith))

block-case : (block : List ActiveAxis) → BlockCase block (by_block_size block)
unfolding by_block_size
block-case [] = small no_block
block-case (a ∷ more) = go (ltb (span_sum (a ∷ more)) (total (a ∷ more) - 1)) refl
  where
    go : (t : Bool) → ltb (span_sum (a ∷ more)) (total (a ∷ more) - 1) ≡ t → BlockCase (a ∷ more) (if t then answered Repeated 0 else by_size (a ∷ more))
    go true e = small (crowded (ltb-true (span_sum (a ∷ more)) (total (a ∷ more) - 1) e))
    go false e = size-case (a ∷ more) (ltb-false (span_sum (a ∷ more)) (total (a ∷ more) - 1) e)

-- ---- the inputs

-- what they let pass to the block
pub record ToBlock (axes : List Axis) : Type 0 where
  pub no_zero_extent : is_empty axes ≡ false
  pub not_eight : overfull axes ≡ false
  pub no_still_axis : list_any still axes ≡ false
  pub not_three : is_out_of_range axes ≡ false

-- in the rules' order: empty, 8, one position, an active stride 0, 3, the block
pub data PlanCase (axes : List Axis) : Outcome Plan → Type 0 where
  when_empty : is_empty axes ≡ true → PlanCase axes (done (answered Distinct 0))
  when_overfull : is_empty axes ≡ false → overfull axes ≡ true → PlanCase axes (refused 8 [])
  when_one : is_empty axes ≡ false → overfull axes ≡ false → positions axes ≡ 1 → PlanCase axes (done (answered Distinct 0))
  when_still : is_empty axes ≡ false → overfull axes ≡ false → list_any still axes ≡ true → PlanCase axes (done (answered Repeated 0))
  when_out : is_empty axes ≡ false → overfull axes ≡ false → list_any still axes ≡ false → is_out_of_range axes ≡ true → PlanCase axes (refused 3 [])
  by_block : {p : Plan} → ToBlock axes → BlockCase (block_of axes) p → PlanCase axes (done p)

pub plan-case : (axes : List Axis) → PlanCase axes (plan_of axes)
unfolding plan_of refuse_if ◌>>◌
plan-case axes = first (is_empty axes) refl
  where
    from-range : Bool → Outcome Plan
    from-range t = refuse_if t 3 [] >> done (by_block_size (block_of axes))

    from-still : Bool → Outcome Plan
    from-still t = if t then done (answered Repeated 0) else from-range (is_out_of_range axes)

    from_one : Bool → Outcome Plan
    from_one t = if t then done (answered Distinct 0) else from-still (list_any still axes)

    from-count : Bool → Outcome Plan
    from-count t = refuse_if t 8 [] >> from_one (eqb (positions axes) 1)

    fifth : (t : Bool) → is_out_of_range axes ≡ t → is_empty axes ≡ false → overfull axes ≡ false → list_any still axes ≡ false → PlanCase axes (from-range t)
    fifth true e p q r = when_out p q r e
    fifth false e p q r = by_block (record { no_zero_extent = p; not_eight = q; no_still_axis = r; not_three = e }) (block-case (block_of axes))

    fourth : (t : Bool) → list_any still axes ≡ t → is_empty axes ≡ false → overfull axes ≡ false → PlanCase axes (from-still t)
    fourth true e p q = when_still p q e
    fourth false e p q = fifth (is_out_of_range axes) refl p q e

    third : (t : Bool) → eqb (positions axes) 1 ≡ t → is_empty axes ≡ false → overfull axes ≡ false → PlanCase axes (from_one t)
    third true e p q = when_one p q (eqb-true (positions axes) 1 e)
    third false e p q = fourth (list_any still axes) refl p q

    second : (t : Bool) → overfull axes ≡ t → is_empty axes ≡ false → PlanCase axes (from-count t)
    second true e p = when_overfull p e
    second false e p = third (eqb (positions axes) 1) refl p e

    first : (t : Bool) → is_empty axes ≡ t → PlanCase axes (if t then done (answered Distinct 0) else from-count (overfull axes))
    first true e = when_empty e
    first false e = second (overfull axes) refl e

-- ---- a block that is searched

-- a test cannot both fail and hold
pub contrary : {A : Type 0} {t : Bool} → t ≡ false → t ≡ true → A
contrary p q = absurd (false≢true (sym p ∙ q))

-- a block of three axes or more that is not crowded is not small
not-small : {block : List ActiveAxis} {v : Verdict} → SmallCase block v → 3 ≤ length block → total block - 1 ≤ span_sum block → ⊥
not-small c n h = grind (arith, ints)

-- if the block is large, a plan is one of search and enumeration
pub plan-of-large : {axes : List Axis} {p : Plan} → PlanCase axes (done p) → is_empty axes ≡ false → list_any still axes ≡ false
    → 3 ≤ length (block_of axes) → total (block_of axes) - 1 ≤ span_sum (block_of axes) → SearchCase (block_of axes) p
plan-of-large (when_empty q) e s n h = contrary e q
plan-of-large {axes} (when_one f o q) e s n h = absurd (omega (arith, ap (λ (l : List ActiveAxis). length l) (one_block axes f q)))
plan-of-large (when_still f o q) e s n h = contrary s q
plan-of-large (by_block t (small c)) e s n h = absurd (not-small c n h)
plan-of-large (by_block t (large m k c)) e s n h = c

-- what holds of such a block, under the names of the claims
pub comes-to-search : {axes : List Axis} → ToBlock axes → 3 ≤ length (block_of axes) → total (block_of axes) - 1 ≤ span_sum (block_of axes) → ComesToSearch axes
comes-to-search t n h = grind (arith, ints)

-- and if nothing is refused there is such a plan
pub search-planned : (axes : List Axis) → ComesToSearch axes → (p : Plan) × (plan_of axes ≡ done p) × SearchCase (block_of axes) p
search-planned axes c = go (plan_of axes) refl (plan-case axes)
  where
    go : (o : Outcome Plan) → plan_of axes ≡ o → PlanCase axes o → (p : Plan) × (plan_of axes ≡ done p) × SearchCase (block_of axes) p
    go (done p) e k = (p, e, plan-of-large k c.no_zero_extent c.no_still_axis c.three_or_more c.not_crowded)
    go (refused n vs) e (when_overfull f o) = contrary c.not_eight o
    go (refused n vs) e (when_out f o s r) = contrary c.not_three r

-- ---- carried out

-- what a plan comes to if the words are enough
abbrev pub judged_as : Plan → Judged
judged_as (answered v c) = record { answer = v; count = c; freed = 0 }
judged_as (enumerated block) = record { answer = if is_yes (same_sum? block) then Repeated else Distinct; count = 0; freed = words_for (total block) (span_sum block) }

carried : (words : ℕ) (p : Plan) {j : Judged} → carry_out words p ≡ done j → judged_as p ≡ j
unfolding carry_out
carried words (answered v c) e = done_inj e
carried words (enumerated block) e = let need = words_for (total block) (span_sum block) in done_inj (passed (ltb words need) 9 (need ∷ []) e).1

carried-out : (words : ℕ) (p : Plan) → words_of (done p) ≤ words → carry_out words p ≡ done (judged_as p)
unfolding carry_out words_of
carried-out words (answered v c) h = refl
carried-out words (enumerated block) h = let need = words_for (total block) (span_sum block) in refuse-no 9 (need ∷ []) (done (judged_as (enumerated block))) (le-ltb words need h)

-- the plan behind an answer, and how it came about
pub record JudgedBy (axes : List Axis) (j : Judged) : Type 0 where
  pub plan : Plan
  pub planned : plan_of axes ≡ done plan
  pub case_is : PlanCase axes (done plan)
  pub comes_to : judged_as plan ≡ j

pub judged-by : (axes : List Axis) (words : ℕ) (j : Judged) → judge axes words ≡ done j → JudgedBy axes j
unfolding judge
judged-by axes words j e = let b = bound e in record {
  plan = b.what;
  planned = b.was;
  case_is = subst (PlanCase axes) b.was (plan-case axes);
  comes_to = carried words b.what b.after;
}

-- any words that are enough give one answer
pub judged-with : (axes : List Axis) (words words' : ℕ) (j : Judged) → judge axes words ≡ done j → words_needed axes ≤ words' → judge axes words' ≡ done j
unfolding judge
judged-with axes words words' j e h =
    let b = judged-by axes words j e in
    bind_done (carry_out words') b.planned ∙ carried-out words' b.plan (omega (arith, ap words_of b.planned)) ∙ ap done b.comes_to

pub same-judged : (axes : List Axis) (words words' : ℕ) (j k : Judged) → judge axes words ≡ done j → judge axes words' ≡ done k → j ≡ k
same-judged axes words words' j k e f =
    let b = judged-by axes words j e in
    let c = judged-by axes words' k f in
    sym b.comes_to ∙ ap judged_as (done_inj (sym b.planned ∙ c.planned)) ∙ c.comes_to
