-- Equality of layouts as a test: their lengths, offsets, ranks, and the axes that there are.
use Rattle.std.specs.Prelude.{Bool, nat_eq, take}
use Rattle.std.specs.Ordering.{on, eq_of_both, int_eq}
use Rattle.std.specs.Cmp.Lexicographic.{pointwise}
use Rattle.specification.specs.Axis.{Axis}
use Rattle.view.specs.Model.{first_axes}
use Rattle.view.specs.declared.layout.Layout.{Layout}

abbrev pub same_axis : Axis → Axis → Bool
same_axis = eq_of_both (on (λ a. a.extent) nat_eq) (on (λ a. a.stride) int_eq)

abbrev pub are_equal : Layout → Layout → Bool
are_equal =
    eq_of_both (on (λ l. l.len) nat_eq)
    (eq_of_both (on (λ l. l.offset.0) int_eq)
    (eq_of_both (on (λ l. l.rank) nat_eq)
    (on (λ l. take 16 (first_axes l.axes l.rank)) (pointwise same_axis))))
