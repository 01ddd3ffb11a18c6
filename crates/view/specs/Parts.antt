-- What is left of the extents and of the strides of axes that are gone over one after another.
use Rattle.std.specs.Prelude.{List, ℕ, ℤ}
use Rattle.specification.specs.Axis.{extents, strides}
use Rattle.view.specs.declared.parts.Extents.{Extents}
use Rattle.view.specs.declared.parts.Strides.{Strides}

abbrev pub extents_left : Extents → List ℕ
extents_left axes = extents axes.0.now

abbrev pub strides_left : Strides → List ℤ
strides_left axes = strides axes.0.now
