-- An odd `left` puts the base into the sum, an even one leaves the sum as it is.
use Rattle.std.proofs.Common.{arith}
use Rattle.integer.proofs.ModularLaws.{doubling-end, doubling-even, doubling-odd}
use Rattle.integer.proofs.modular.by_doubling.Goals.{then-left-eq1, else-left-eq1}
use Rattle.integer.proofs.modular.by_doubling.Goals as goal

pub loop-left-preserved : goal.loop-left-preserved
loop-left-preserved c =
    let d = c.loop-left.invariant in
    let base = c.add_mod-base.ensures in
    elim c.if-left-eq1.branch [
      | then-left-eq1 w ↦
          let sum = w.add_mod-sum.ensures in
          rw w.sum-is (doubling-odd _ _ _ _ _ _ _ _ d w.if-left-eq1.true sum.0 sum.1 base.0 base.1)
      | else-left-eq1 w ↦ rw w.sum-is (doubling-even _ _ _ _ _ _ _ d (omega (arith, w.if-left-eq1.false)) base.0 base.1)
    ]

pub returns : goal.returns
returns c = doubling-end _ _ _ _ _ _ c.loop-left.invariant c.loop-left-test.false
