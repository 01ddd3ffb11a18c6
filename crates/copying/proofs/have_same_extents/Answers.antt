-- Both iterators say which extents are left; the axes that they go over are all that there are.
use Rattle.std.specs.Prelude.{nat_eq}
use Rattle.std.proofs.Common.{◌≡◌, ◌≤◌, ap, ◌∙◌, take, take_all, arith}
use Rattle.specification.specs.Axis.{extents}
use Rattle.view.specs.declared.layout.Layout.{Layout}
use Rattle.view.specs.Model.{model_of}
use Rattle.view.specs.Parts.{extents_left}
use Rattle.view.proofs.AxesLaws.{length_first_axes}
use Rattle.copying.proofs.SameExtents.{eq-left}
use Rattle.copying.proofs.have_same_extents.Goals as goal

all : (l : Layout) → l.rank ≤ 16 → extents (take 16 (model_of l).axes) ≡ extents (model_of l).axes
all l h = ap extents (take_all 16 (model_of l).axes (omega (arith, h, length_first_axes l.axes l.rank)))

pub returns : goal.returns
returns c =
    let (it, xs, ys, o, p, u, v, becomes, y, y', z, l) = c.eq.ensures.ran in
    rw (← c.extents.ensures ∙ all c.args.source.now c.requires.few, ← c.extents-2.ensures ∙ all c.args.destination.now c.requires.few_too, ← becomes)
    (eq-left extents_left extents_left nat_eq c.eq.result c.extents.result u it v xs ys o p y y' z l)
