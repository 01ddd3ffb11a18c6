use Rattle.std.proofs.Common.{refl, to_z-of_z, arith, rules}
use Rattle.positions.proofs.RunLaws.{run_at-zero, run_at-add_one}
use Rattle.copying.proofs.CopiesLaws.{copies-add_one}
use Rattle.copying.specs.Copy.{copies}
use Rattle.copying.proofs.runs.copy_strided.Goals as goal

pub loop-i-init : goal.loop-i-init
unfolding copies
loop-i-init c = (run_at-zero _ _ (search rules), run_at-zero _ _ (search rules), refl)

pub loop-i-preserved : goal.loop-i-preserved
loop-i-preserved c = (
  rw (← run_at-add_one c.args.source.place c.args.source.step c.loop-i._i, c.loop-i.invariant.0) refl,
  rw (← run_at-add_one c.args.destination.place c.args.destination.step c.loop-i._i, c.loop-i.invariant.1) refl,
  grind (arith, to_z-of_z, copies-add_one, c.loop-i.invariant),
)
