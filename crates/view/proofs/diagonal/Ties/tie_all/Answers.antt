-- A turn ties the pair that stands next, or its refusal is that of the whole.
use Rattle.std.proofs.lemmas.Result.{err_from_is_err_and}
use Rattle.std.proofs.Common.{◌≡◌, ◌∙◌, sym, ap, arith, ℕ, ◌+◌, ◌<◌, List, drop, length, get_or, [], ◌∷◌, map}
use Rattle.specification.specs.Outcome.{Check}
use Rattle.specification.specs.Views.{pair_fault}
use Rattle.view.specs.Ties.{joined, joined_all}
use Rattle.view.proofs.TieLaws.{fault-here, fault-next, fault-empty}
use Rattle.view.proofs.PairLaws.{pairs-next, pairs-end}
use Rattle.view.proofs.diagonal.Ties.tie_all.Goals as goal

-- the pair that stands next is the first of the rest
next : {P : Type 0} (of : P → ℕ × ℕ) (rank : ℕ) (pairs : List P) (i : ℕ) (p : P) → i < length pairs → p ≡ get_or pairs i p
    → pair_fault rank (map of pairs) ≡ pair_fault rank (drop i (map of pairs)) → pair_fault rank (map of pairs) ≡ pair_fault rank (of p ∷ drop (i + 1) (map of pairs))
next of rank pairs i p h is e = e ∙ ap (pair_fault rank) (pairs-next of pairs i p h is)

-- what the pair is refused, by its numbers
by-pair : (rank : ℕ) {p q : ℕ × ℕ} {c : Check} → c ≡ pair_fault rank (p ∷ []) → p ≡ q → c ≡ pair_fault rank (q ∷ [])
by-pair rank f e = f ∙ ap (λ (x : ℕ × ℕ). pair_fault rank (x ∷ [])) e

pub returns-in_err-tie-clause-answer : goal.returns-in_err-tie-clause-answer
returns-in_err-tie-clause-answer g c =
    let l = c.loop-pair in
    let of = g.P.Pair.numbers_of in
    let here = next of c.args.self.now.rank c.args.pairs.now l.pair-index c.pair-item.result (omega arith) c.pair-item.is l.invariant.faults in
    let p = err_from_is_err_and c.from_residual.result c.from_residual.ensures.1 in
    rw (p.1, p.2) (sym (here ∙ fault-here l.invariant.same_rank (of c.pair-item.result) _ (by-pair l.self.rank c.in_err-tie.ensures.answer c.numbers-a.ensures)))

pub loop-pair-preserved : goal.loop-pair-preserved
loop-pair-preserved g c =
    let l = c.loop-pair in
    let of = g.P.Pair.numbers_of in
    let pairs = c.args.pairs.now in
    let tied : c.tie.new.self.roots ≡ joined l.self.roots (of c.pair-item.result) = c.in_ok-tie.ensures.roots ∙ ap (joined l.self.roots) c.numbers-a.ensures in
    record {
      same_rank = c.tie.ensures.rank ∙ l.invariant.same_rank;
      faults = next of c.args.self.now.rank pairs l.pair-index c.pair-item.result (omega arith) c.pair-item.is l.invariant.faults ∙ fault-next l.invariant.same_rank (of c.pair-item.result) _ (by-pair l.self.rank c.in_ok-tie.ensures.answer c.numbers-a.ensures);
      roots = l.invariant.roots ∙ ap (joined_all l.self.roots) (pairs-next of pairs l.pair-index c.pair-item.result (omega arith) c.pair-item.is) ∙ ap (λ (roots : List ℕ). joined_all roots (drop (l.pair-index + 1) (map of pairs))) (sym tied);
    }

pub returns-clause-answer : goal.returns-clause-answer
returns-clause-answer g c =
    let l = c.loop-pair in
    let n : ℕ = c.args.self.now.rank in
    sym (l.invariant.faults ∙ ap (pair_fault n) (pairs-end g.P.Pair.numbers_of c.args.pairs.now l.pair-index (omega arith)) ∙ fault-empty n)
