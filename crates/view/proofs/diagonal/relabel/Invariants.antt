-- The first axes are relabelled, and the rest is to be.
use Rattle.std.proofs.Common.{◌≡◌, map, length}
use Rattle.view.specs.Ties.{renamed}
use Rattle.view.proofs.RootLaws.{relabelled_from}
use Rattle.view.proofs.diagonal.relabel.Given as goal

abbrev pub invariant-loop-root : goal.invariant-loop-root
invariant-loop-root l = record {
  long : length l.roots ≡ 16;
  relabelled : relabelled_from l.from l.initial.to l.root-index l.roots ≡ map (renamed l.from l.initial.to) l.fn.roots;
}
