-- What is answered of axes in the order in which they stand, or from the last on, as the code answers it.
use Rattle.std.specs.Prelude.{Bool, true, ◌&&◌, List, [], ◌∷◌, ℕ, ◌+◌, ◌-◌, ◌*◌, ◌^◌, nat_lt, nat_abs, Option, Some, None, if◌then◌else◌}
use Rattle.specification.specs.Axis.{Axis, active}
use Rattle.specification.specs.Search.{ActiveAxis}

-- an axis is separated by those before it, whose absolute spans add up to `before`, and it is no larger than is answered at sight
abbrev pub goes_on : ℕ → ℕ → ℕ → Bool
goes_on before extent stride = nat_lt before stride && nat_lt stride (2 ^ 32) && nat_lt extent (2 ^ 31)

-- the sum with the span of one axis more, if that goes on; an axis that is not active adds nothing
abbrev pub span_after : ℕ → Axis → Option ℕ
span_after before a =
    if active a then (if goes_on before a.extent (nat_abs a.stride) then Some (before + (a.extent - 1) * nat_abs a.stride) else None)
    else Some before

-- whether active axes go on, one after another in the order of the list
unfoldable pub separated_in_order : ℕ → List ActiveAxis → Bool
separated_in_order before [] = true
separated_in_order before (a ∷ rest) = goes_on before a.extent a.stride && separated_in_order (before + (a.extent - 1) * a.stride) rest
