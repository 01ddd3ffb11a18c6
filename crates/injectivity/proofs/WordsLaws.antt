-- How many words of scratch a verdict needs at most: an enumeration has at most 2^24 positions.
use Rattle.std.proofs.Common.{ℕ, ◌/◌, ◌<◌, ◌≤◌, ◌⊎◌, inl, inr, List, arith}
use Rattle.std.proofs.lemmas.Bool.{lt-leb, le-leb, cases_lt}
use Rattle.specification.specs.Axis.{Axis}
use Rattle.specification.specs.Outcome.{Outcome, done}
use Rattle.specification.specs.Search.{ActiveAxis, span_sum, total, words_for}
use Rattle.specification.specs.Verdict.{Plan, block_of, others_of, plan_of, words_of, words_needed}
use Rattle.specification.proofs.PlanCases.{PlanCase, when_empty, when_overfull, when_one, when_still, when_out, by_block, plan-case, small, large, searching, enumerating, past_both}
use Rattle.specification.proofs.SearchLaws.{SearchEnd, collided, completed, exhausted, search-end}

words-within : (n s : ℕ) → n ≤ 16777216 → words_for n s ≤ 16777217
unfolding words_for
words-within n s h = go (cases_lt n (s / 64))
  where
    go : (n < s / 64) ⊎ (s / 64 ≤ n) → words_for n s ≤ 16777217
    go (inl l) = rw (lt-leb) (omega arith)
    go (inr l) = rw (le-leb) (omega arith)

search-within : {a b : ActiveAxis} {others : List ActiveAxis} {p : Plan} → SearchEnd a b others p → words_of (done p) ≤ 16777217
unfolding words_of
search-within (collided e) = omega arith
search-within (completed e h w f) = omega arith
search-within (exhausted e f) = omega arith

pub enough_words : (axes : List Axis) → words_needed axes ≤ 16777217
unfolding words_of
enough_words axes = go (plan_of axes) (plan-case axes)
  where
    go : (o : Outcome Plan) → PlanCase axes o → words_of o ≤ 16777217
    go _ (when_empty e) = omega arith
    go _ (when_overfull f o) = omega arith
    go _ (when_one f o e) = omega arith
    go _ (when_still f o e) = omega arith
    go _ (when_out f o s e) = omega arith
    go _ (by_block t (small c)) = omega arith
    go _ (by_block t (large m h (searching {a} {b} k e))) = search-within (search-end a b (others_of (block_of axes)))
    go _ (by_block t (large m h (enumerating k l))) = words-within (total (block_of axes)) (span_sum (block_of axes)) l
    go _ (by_block t (large m h (past_both k l))) = omega arith
