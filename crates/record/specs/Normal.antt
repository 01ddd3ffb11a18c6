-- The normal form by one pass from the left (RULES, "The normal form"): what one axis more at the end comes to.
use Rattle.std.specs.Prelude.{List, [], ◌∷◌, ◌==◌, if◌then◌else◌}
use Rattle.specification.specs.Axis.{Axis}
use Rattle.specification.specs.Normal.{merge_into}

-- an axis behind merged axes: the last one takes it, if it continues that
unfoldable pub with_last : List Axis → Axis → List Axis
with_last [] b = b ∷ []
with_last (a ∷ []) b = merge_into a (b ∷ [])
with_last (a ∷ c ∷ rest) b = a ∷ with_last (c ∷ rest) b

-- an axis of extent 1 is dropped first
abbrev pub with_axis : List Axis → Axis → List Axis
with_axis axes b = if b.extent == 1 then axes else with_last axes b
