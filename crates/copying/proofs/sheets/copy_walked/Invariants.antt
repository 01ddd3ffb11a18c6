-- The sheets that the walks have passed are copied.
use Rattle.std.proofs.Common.{◌-◌}
use Rattle.std.specs.Prelude.{if◌then◌else◌}
use Rattle.specification.specs.Axis.{positions}
use Rattle.copying.proofs.SweepLaws.{Swept}
use Rattle.copying.proofs.sheets.copy_walked.Given as goal

abbrev pub invariant-loop-more : goal.invariant-loop-more
invariant-loop-more l = Swept l.source l.destination l.from l.initial.to l.at l.into l.more l.to

abbrev pub decreases-loop-more : goal.decreases-loop-more
decreases-loop-more l = if l.more then positions l.source.others.now - l.at.number else 0
