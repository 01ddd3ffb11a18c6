-- If the search is due, answer and count are those of the first difference vector that completes; elsewhere the count is 0.
use mathlib.Core.Path.{◌≡◌, refl, sym, ap, subst, ◌∙◌}
use mathlib.Core.Logic.{◌↔◌}
use mathlib.Core.List.{List, ◌∷◌}
use Prim.Native.Nat.{ℕ, suc, ◌<◌, ◌≤◌}
use native.Mathlib.Omega.{arith}
use Rattle.specification.specs.Tests.{sort_by}
use Rattle.specification.specs.Axis.{Axis}
use Rattle.specification.specs.Outcome.{done}
use Rattle.specification.specs.Search.{ActiveAxis, half, CompletesAt}
use Rattle.specification.specs.Verdict.{Verdict, Distinct, Repeated, Judged, Plan, block_of, longer, others_of, searched, carry_out, judge}
use Rattle.specification.specs.CountClaims.{Searches, IsSetApart, IsLarger, TwoCollide, judged, CountClaims}
use Rattle.specification.proofs.OutcomeLaws.{bind_done, done_inj}
use Rattle.specification.proofs.Sorting.{each_at}
use Rattle.specification.proofs.BlockLaws.{Lives, perm-lives, still-no, block-lives}
use Rattle.specification.proofs.TwoAxes.{no-collision-of-two, collision-of-two}
use Rattle.specification.proofs.SearchLaws.{SearchEnd, collided, completed, exhausted, search-end}
use Rattle.specification.proofs.PlanCases.{SearchCase, searching, enumerating, past_both, small, large, PlanCase, when_empty, when_one, when_still, by_block, comes-to-search, search-planned, judged_as, judged-by}
use Rattle.specification.proofs.AxisNumbers.{two-before-others}
use Rattle.specification.proofs.VerdictTruth.{apart-perm}
use Rattle.std.proofs.lemmas.Int.{ints}

-- ---- if the search is due

searching-plan : {block : List ActiveAxis} {p : Plan} {a b : ActiveAxis} {more : List ActiveAxis} → SearchCase block p → half (others_of block) ≤ 4194304 → sort_by longer block ≡ a ∷ b ∷ more → p ≡ searched a b (others_of block)
searching-plan c s q = grind (arith, ints)

judge-searched : (axes : List Axis) (a b : ActiveAxis) (words : ℕ) → Searches axes → IsSetApart axes a b → judge axes words ≡ carry_out words (searched a b (others_of (block_of axes)))
unfolding judge
judge-searched axes a b words s t =
    let w = search-planned axes s.comes in
    bind_done (carry_out words) (w.1 ∙ ap done (searching-plan w.2 s.within t.first_two))

two-to-set-apart : (axes : List Axis) → Searches axes → (a : ActiveAxis) × (b : ActiveAxis) × IsSetApart axes a b
two-to-set-apart axes s = go (search-planned axes s.comes).2
  where
    go : {p : Plan} → SearchCase (block_of axes) p → (a : ActiveAxis) × (b : ActiveAxis) × IsSetApart axes a b
    go (searching {a} {b} {more} h e) = (a, b, record { more = more; first_two = e })
    go (enumerating h k) = absurd (omega (arith, s.within))
    go (past_both h k) = absurd (omega (arith, s.within))

set-apart-live : (axes : List Axis) (a b : ActiveAxis) → Searches axes → IsSetApart axes a b → Lives (a ∷ b ∷ others_of (block_of axes))
set-apart-live axes a b s t = perm-lives (apart-perm (block_of axes) a b t.more t.first_two) (block-lives axes (still-no 0 axes s.comes.no_still_axis))

-- ---- the three ends of the search

same_answer : {v w : Verdict} {c d : ℕ} → judged v c ≡ judged w d → v ≡ w
same_answer e = ap (λ (j : Judged). j.answer) (done_inj e)

same_count : {v w : Verdict} {c d : ℕ} → judged v c ≡ judged w d → c ≡ d
same_count e = ap (λ (j : Judged). j.count) (done_inj e)

not-repeated : Distinct ≡ Repeated → ⊥
not-repeated e = let z : ◌≡◌ {A = ℕ} 0 1 = cc in omega arith

-- the vector in place c + 1 completes, and none before it
abbrev FirstAt : ActiveAxis → ActiveAxis → List ActiveAxis → ℕ → Type 0
FirstAt a b others c = (c < half others) × CompletesAt a b others (suc c) × ((d : ℕ) → d < c → ¬ (CompletesAt a b others (suc d)))

one-first : (a b : ActiveAxis) (others : List ActiveAxis) (c d : ℕ) → FirstAt a b others c → FirstAt a b others d → c ≡ d
one-first a b others c d u v = grind (arith, ints)

module _ (words : ℕ) {a b : ActiveAxis} {others : List ActiveAxis} (ha : 0 < a.stride) (hb : 0 < b.stride) where
  end-alone : {p : Plan} → SearchEnd a b others p → (carry_out words p ≡ judged Repeated 0) ↔ TwoCollide a b
  unfolding carry_out
  end-alone (collided e) = (λ q. collision-of-two a b ha hb e, λ w. refl)
  end-alone (completed e h w f) = (λ q. absurd (omega (arith, same_count q)), λ c. absurd (no-collision-of-two a b ha hb e c))
  end-alone (exhausted e f) = (λ q. absurd (not-repeated (same_answer q)), λ c. absurd (no-collision-of-two a b ha hb e c))

  end-place : {p : Plan} → SearchEnd a b others p → ¬ (TwoCollide a b) → (c : ℕ) → (carry_out words p ≡ judged Repeated (suc c)) ↔ FirstAt a b others c
  unfolding carry_out
  end-place (collided e) n c = absurd (n (collision-of-two a b ha hb e))
  end-place (completed {c = d} e h w f) n c = (
    λ q. subst (FirstAt a b others) (omega (arith, same_count q)) (h, w, f),
    λ v. ap (λ (k : ℕ). judged Repeated (suc k)) (one-first a b others d c (h, w, f) v),
  )
  end-place (exhausted e f) n c = (λ q. absurd (not-repeated (same_answer q)), λ v. absurd (f c v.0 v.1))

  end-passed : {p : Plan} → SearchEnd a b others p → ¬ (TwoCollide a b) → (carry_out words p ≡ judged Distinct (half others)) ↔ ((d : ℕ) → d < half others → ¬ (CompletesAt a b others (suc d)))
  unfolding carry_out
  end-passed (collided e) n = absurd (n (collision-of-two a b ha hb e))
  end-passed (completed {c} e h w f) n = (λ q. absurd (not-repeated (sym (same_answer q))), λ v. absurd (v c h w))
  end-passed (exhausted e f) n = (λ q. f, λ v. refl)

-- ---- elsewhere

uncounted : (axes : List Axis) → ¬ (Searches axes) → {p : Plan} → PlanCase axes (done p) → (judged_as p).count ≡ 0
uncounted axes n (when_empty e) = refl
uncounted axes n (when_one f o e) = refl
uncounted axes n (when_still f o e) = refl
uncounted axes n (by_block t (small c)) = refl
uncounted axes n (by_block t (large m h (searching k e))) = absurd (n (record { comes = comes-to-search t m h; within = k }))
uncounted axes n (by_block t (large m h (enumerating k l))) = refl
uncounted axes n (by_block t (large m h (past_both k l))) = refl

count-elsewhere : (axes : List Axis) (words : ℕ) (j : Judged) → ¬ (Searches axes) → judge axes words ≡ done j → j.count ≡ 0
count-elsewhere axes words j n e = let b = judged-by axes words j e in ap (λ (k : Judged). k.count) (sym b.comes_to) ∙ uncounted axes n b.case_is

-- ---- the claims

pub count_claims : CountClaims
count_claims = record {
  alone = λ axes a b words s t. let l = set-apart-live axes a b s t in
      rw (judge-searched axes a b words s t) (end-alone words l.0.moves l.1.0.moves (search-end a b (others_of (block_of axes))));
  place = λ axes a b words c s t n. let l = set-apart-live axes a b s t in
      rw (judge-searched axes a b words s t) (end-place words l.0.moves l.1.0.moves (search-end a b (others_of (block_of axes))) n c);
  all_passed = λ axes a b words s t n. let l = set-apart-live axes a b s t in
      rw (judge-searched axes a b words s t) (end-passed words l.0.moves l.1.0.moves (search-end a b (others_of (block_of axes))) n);
  two_there = two-to-set-apart;
  two_largest = λ axes a b t. let w = two-before-others axes a b t in (w.0, λ i h. each_at (IsLarger b) (others_of (block_of axes)) w.1 i (record { axis = 0; extent = 0; stride = 0 }) h);
  elsewhere = count-elsewhere;
}
