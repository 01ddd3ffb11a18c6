-- The active axes of a layout, axis by axis.
use Rattle.std.proofs.Common.{◌≡◌, ℕ, suc, ◌+◌, ◌≤◌, ◌<◌, Bool, true, false, List, [], ◌∷◌, ◌++◌, length, take, drop, refl, ap, ◌∙◌, arith}
use lib.IntN.{pos, nat_abs}
use Rattle.std.proofs.lemmas.Int.{ints}
use Rattle.std.proofs.lemmas.List.{drop_more, take_more_set, length-take-le}
use Rattle.std.proofs.Common.{append_assoc, append-nil}
use lib.ListN.{drop_of_length-le, length-set}
use Rattle.specification.specs.Axis.{Axis}
use Rattle.specification.specs.Views.{axis_at}
use Rattle.specification.specs.Search.{ActiveAxis}
use Rattle.specification.specs.Verdict.{active_from}

-- axis k as an active axis
abbrev pub active_axis : ℕ → Axis → ActiveAxis
active_axis k a = record { axis = k; extent = a.extent; stride = nat_abs a.stride }

pub active-length : (k : ℕ) (axes : List Axis) → length (active_from k axes) ≤ length axes
unfolding active_from
active-length k [] = omega arith
active-length k (a ∷ r) = let h = active-length (suc k) r in grind (arith, ints)

-- from the axis at a place on
module _ (axes : List Axis) (i : ℕ) (h : i < length axes) where
  pub passed_over : (axis_at axes i).extent ≤ 1 → active_from i (drop i axes) ≡ active_from (i + 1) (drop (i + 1) axes)
  unfolding active_from
  passed_over k = rw (drop_more axes i (record { extent = 0; stride = pos 0 }) h) (grind (arith, ints))

  pub gathered_one : 1 < (axis_at axes i).extent
      → active_from i (drop i axes) ≡ active_axis i (axis_at axes i) ∷ active_from (i + 1) (drop (i + 1) axes)
  unfolding active_from
  gathered_one k = rw (drop_more axes i (record { extent = 0; stride = pos 0 }) h) (grind (arith, ints))

pub all_gathered : (axes : List Axis) (i : ℕ) → length axes ≤ i → active_from i (drop i axes) ≡ []
unfolding active_from
all_gathered axes i h = rw drop_of_length-le

-- an axis is put behind those gathered, or passed over
pub ruleset gathering = (passed_over, gathered_one, all_gathered, take_more_set, append_assoc, append-nil, length-take-le, length-set, ints)
