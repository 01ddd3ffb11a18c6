-- Whether there is a position, by the axes that an array has.
use Rattle.std.proofs.Common.{◌≡◌, ◌==◌, ℕ, zero, suc, ◌<◌, List, length, Bool, true, sym, ap, ◌∙◌, arith, pos}
use Rattle.std.proofs.lemmas.List.{get_or_past}
use Rattle.std.proofs.lemmas.Int.{ints}
use Rattle.specification.specs.Axis.{Axis, is_empty, extents}
use Rattle.specification.specs.Beside.{zero_among}
use Rattle.specification.specs.Views.{axis_at}
use Rattle.view.specs.Model.{first_axes}
use Rattle.view.specs.Table.{table}
use Rattle.view.proofs.CountLaws.{empty_extents}
use Rattle.view.proofs.OrderLaws.{list_any-snoc}

-- of more axes than an array of 16 has the last has no place, so its extent is 0
pub empty_above : (axes : List Axis) (n : ℕ) → length axes ≡ 16 → 16 < n → is_empty (first_axes axes n) ≡ true
unfolding is_empty table
empty_above axes zero h k = absurd (omega arith)
empty_above axes (suc n) h k =
    let past : axis_at axes n ≡ record { extent = 0; stride = pos 0 } = get_or_past axes n (record { extent = 0; stride = pos 0 }) (omega arith) in
    list_any-snoc (λ (a : Axis). a.extent == 0) (table n (axis_at axes)) (axis_at axes n) ∙ grind (arith, ints, past)

-- no position, as the code looks for it
pub empty_by_extents : (axes few : List Axis) (t : Bool) → few ≡ axes → t ≡ zero_among (extents few) → t ≡ is_empty axes
empty_by_extents axes few t e h = h ∙ sym (empty_extents few) ∙ ap is_empty e
