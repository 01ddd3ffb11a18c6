-- The axes behind the chosen one are moved to where it stood.
use Rattle.std.proofs.Common.{◌∙◌, ap, List, ◌-◌, rules}
use Rattle.specification.specs.Axis.{Axis}
use Rattle.view.specs.Model.{model_from, first_axes}
use Rattle.means.specs.Means.{remaining}
use Rattle.means.proofs.RestLaws.{closed-up}
use Rattle.means.proofs.remaining.Goals as goal

pub returns-clause-model : goal.returns-clause-model
unfolding remaining
returns-clause-model c =
    let l = c.args.layout.now in
    ap (λ (axes : List Axis). model_from l.len l.offset.0 axes)
    (ap (λ (axes : List Axis). first_axes axes (l.rank - 1)) c.copy_within.ensures.after ∙ closed-up l.axes l.rank c.args.axis (search rules) c.requires.in_rank)
