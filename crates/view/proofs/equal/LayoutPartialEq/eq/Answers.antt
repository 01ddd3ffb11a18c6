-- What the tests come to decides whether the two mean the same.
use Rattle.std.proofs.Common.{rules, ◌≡◌}
use Rattle.view.specs.Equal.{are_equal}
use Rattle.view.proofs.EqualLaws.{equal_told}
use Rattle.view.proofs.equal.LayoutPartialEq.eq.Goals as goal

pub returns-then-self-other-2-clause-same : goal.returns-then-self-other-2-clause-same
returns-then-self-other-2-clause-same c =
    let told : c.eq-then-self-other-2.result ≡ are_equal c.args.self.now c.args.other.now = search rules in
    equal_told c.args.self.now c.args.other.now _ (search rules) (search rules) told

pub returns-else-self-other-2-clause-same : goal.returns-else-self-other-2-clause-same
returns-else-self-other-2-clause-same c =
    let told : c.if-eq.value ≡ are_equal c.args.self.now c.args.other.now = search rules in
    equal_told c.args.self.now c.args.other.now _ (search rules) (search rules) told
