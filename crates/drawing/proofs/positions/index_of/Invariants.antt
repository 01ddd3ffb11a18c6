use Rattle.std.proofs.Common.{◌≡◌, ◌<◌, ◌++◌, length, drop}
use Rattle.specification.specs.Axis.{extents, product, index_at}
use Rattle.drawing.proofs.positions.index_of.Given as goal

-- the digits so far, and a number that has the others
abbrev pub invariant-loop-axis : goal.invariant-loop-axis
invariant-loop-axis l = record {
  as_many : length l.index.items ≡ l.axis-index;
  left : l.rest < product (drop l.axis-index (extents l.axes));
  digits : l.index.items ++ index_at (drop l.axis-index (extents l.axes)) l.rest ≡ index_at (extents l.axes) l.position;
}
