-- The words that the verdict needs: the rules' number if a block is enumerated, none elsewhere; just these are free afterwards.
use mathlib.Core.Path.{◌≡◌, refl, sym, ap, ◌∙◌}
use mathlib.Core.List.{List}
use Prim.Native.Nat.{ℕ, ◌+◌, ◌/◌, ◌<◌, ◌≤◌}
use native.Mathlib.Omega.{arith}
use borrow.Author.Tests.{le-leb, lt-leb}
use Rattle.specification.specs.Axis.{Axis}
use Rattle.specification.specs.Outcome.{Outcome, done}
use Rattle.specification.specs.Search.{ActiveAxis, span_sum, total, half, words_for}
use Rattle.specification.specs.Verdict.{Judged, Plan, answered, enumerated, block_of, others_of, plan_of, judge, words_of, words_needed}
use Rattle.specification.specs.VerdictClaims.{Enumerates, WordsClaims}
use Rattle.specification.proofs.SearchLaws.{SearchEnd, collided, completed, exhausted, search-end}
use Rattle.specification.proofs.PlanCases.{SearchCase, searching, enumerating, past_both, small, large, PlanCase, when_empty, when_overfull, when_one, when_still, when_out, by_block, plan-case, comes-to-search, search-planned, judged_as, judged-by}
use Rattle.std.proofs.lemmas.Int.{ints}

-- ---- if a block is enumerated

enumerating-plan : {block : List ActiveAxis} {p : Plan} → SearchCase block p → 4194304 < half (others_of block) → total block ≤ 16777216 → p ≡ enumerated block
enumerating-plan c s t = grind (arith, ints)

words-enumerated : (axes : List Axis) → Enumerates axes → words_needed axes ≡ words_for (total (block_of axes)) (span_sum (block_of axes))
unfolding words_of
words-enumerated axes e = let w = search-planned axes e.comes in ap words_of (w.1 ∙ ap done (enumerating-plan w.2 e.past_search e.within))

words-of-bitmap : (n s : ℕ) → s / 64 ≤ n → words_for n s ≡ s / 64 + 1
unfolding words_for
words-of-bitmap n s h = rw le-leb

words-of-list : (n s : ℕ) → n < s / 64 → words_for n s ≡ n
unfolding words_for
words-of-list n s h = rw lt-leb

-- ---- elsewhere

search-words : {a b : ActiveAxis} {others : List ActiveAxis} {p : Plan} → SearchEnd a b others p → words_of (done p) ≡ 0
unfolding words_of
search-words (collided e) = refl
search-words (completed e h w f) = refl
search-words (exhausted e f) = refl

no_words : (axes : List Axis) → ¬ (Enumerates axes) → words_needed axes ≡ 0
unfolding words_of
no_words axes n = go (plan_of axes) (plan-case axes)
  where
    go : (o : Outcome Plan) → PlanCase axes o → words_of o ≡ 0
    go _ (when_empty e) = refl
    go _ (when_overfull f o) = refl
    go _ (when_one f o e) = refl
    go _ (when_still f o e) = refl
    go _ (when_out f o s e) = refl
    go _ (by_block t (small c)) = refl
    go _ (by_block t (large m h (searching {a} {b} k e))) = search-words (search-end a b (others_of (block_of axes)))
    go _ (by_block t (large m h (enumerating k l))) = absurd (n (record { comes = comes-to-search t m h; past_search = k; within = l }))
    go _ (by_block t (large m h (past_both k l))) = refl

pub words_claims : WordsClaims
words_claims = record {
  bitmap = λ axes e h. words-enumerated axes e ∙ words-of-bitmap (total (block_of axes)) (span_sum (block_of axes)) h;
  list = λ axes e h. words-enumerated axes e ∙ words-of-list (total (block_of axes)) (span_sum (block_of axes)) h;
  none = no_words;
}

-- ---- freed

freed-as : (p : Plan) → (judged_as p).freed ≡ words_of (done p)
unfolding words_of
freed-as (answered v c) = refl
freed-as (enumerated block) = refl

pub freed_are : (axes : List Axis) (words : ℕ) (j : Judged) → judge axes words ≡ done j → j.freed ≡ words_needed axes
freed_are axes words j e = let b = judged-by axes words j e in ap (λ (k : Judged). k.freed) (sym b.comes_to) ∙ freed-as b.plan ∙ ap words_of (sym b.planned)
