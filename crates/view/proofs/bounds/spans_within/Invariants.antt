-- What the spans so far have taken of each limit and the spans still left make the whole sum, so a sum that passes its limit on the way passes it in the end.
use Rattle.std.proofs.Common.{◌≡◌, ◌≤◌, ◌-◌, drop}
use Rattle.specification.specs.Axis.{extents}
use Rattle.view.specs.Reach.{widths_pass}
use Rattle.view.proofs.SpansLaws.{SpansLeft}
use Rattle.view.proofs.bounds.spans_within.Given as goal

abbrev pub invariant-loop-place : goal.invariant-loop-place
invariant-loop-place g l = record {
  entries : g.A.Entry.Extent.extents_of l.entry-items ≡ extents (g.A.Axes.axes_of l.fn.axes);
  up_most : l.up ≤ l.above;
  down_most : l.down ≤ l.below;
  narrow : widths_pass l.wide_passes (g.A.Axes.axes_of l.fn.axes) ≡ widths_pass l.wide_passes (drop l.place (g.A.Axes.axes_of l.fn.axes));
  left : SpansLeft (g.A.Axes.axes_of l.fn.axes) l.place (l.above - l.up) (l.below - l.down);
}
