-- The reach of the destination says whether it has a position.
use Rattle.std.proofs.Common.{sym, ap, ◌∙◌}
use Rattle.view.specs.Model.{model_of}
use Rattle.view.specs.Reach.{ends_of}
use Rattle.copying.proofs.CallLaws.{none_copied, some_position}
use Rattle.copying.proofs.copy.Goals as goal

pub copy_positions-requires-clause-some : goal.copy_positions-requires-clause-some
copy_positions-requires-clause-some c = some_position (model_of c.args.destination.now) (sym (ap ends_of c.in-Between.is) ∙ c.in_ok-reach.ensures.reach)

pub returns-in-Empty-clause-copied : goal.returns-in-Empty-clause-copied
returns-in-Empty-clause-copied c =
    none_copied (model_of c.args.destination.now) (model_of c.args.source.now) c.args.from.now c.args.to.now (sym (ap ends_of c.in-Empty.is) ∙ c.in_ok-reach.ensures.reach)
