-- The joined roots are low and their own.
use Rattle.std.proofs.Common.{◌≡◌, ◌<◌, max, subst, sym, rules}
use Rattle.view.specs.Ties.{joined, IsRooted}
use Rattle.view.proofs.RootedLaws.{joined_rooted}
use Rattle.view.proofs.diagonal.Ties.tie.Goals as goal

pub invariant_of-self-clause-rooted : goal.invariant_of-self-clause-rooted
invariant_of-self-clause-rooted c =
    let s = c.args.self.now in
    let within : max c.args.a c.args.b < s.rank = search rules in
    let is : c.relabel.new.roots ≡ joined s.roots (c.args.a, c.args.b) = search rules in
    subst (IsRooted s.rank) (sym is) (joined_rooted s.rank s.roots (search rules) s.few s.rooted c.args.a c.args.b within)
