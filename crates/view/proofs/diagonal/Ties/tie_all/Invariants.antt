-- From each pair on, what the pairs refuse is the whole, and so are the roots that they leave.
use Rattle.std.proofs.Common.{◌≡◌, drop, map}
use Rattle.specification.specs.Views.{pair_fault}
use Rattle.view.specs.Ties.{joined_all}
use Rattle.view.proofs.diagonal.Ties.tie_all.Given as goal

abbrev pub invariant-loop-pair : goal.invariant-loop-pair
invariant-loop-pair g l = record {
  same_rank : l.self.rank ≡ l.fn.self.rank;
  faults : pair_fault l.fn.self.rank (map g.P.Pair.numbers_of l.pairs) ≡ pair_fault l.fn.self.rank (drop l.pair-index (map g.P.Pair.numbers_of l.pairs));
  roots : joined_all l.fn.self.roots (map g.P.Pair.numbers_of l.pairs) ≡ joined_all l.self.roots (drop l.pair-index (map g.P.Pair.numbers_of l.pairs));
}
