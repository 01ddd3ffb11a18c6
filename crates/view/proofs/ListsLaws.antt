-- What two lists are answered by their lengths.
use mathlib.Core.Path.{◌≡◌}
use mathlib.Core.List.{List, [], ◌++◌}
use Prim.Native.Nat.{ℕ, ◌≤◌, ◌<◌}
use native.Mathlib.Omega.{arith}
use lib.IntN.{ℤ}
use lib.ListN.{length, take, drop}
use Rattle.std.proofs.lemmas.Int.{ints}
use Rattle.specification.specs.Axis.{Axis, axes_of_lists}
use Rattle.specification.specs.Outcome.{done, refused, refuse_if, ◌>>◌}
use Rattle.std.proofs.Common.{take_at}
use Rattle.std.proofs.lemmas.Slice.{drop-append-drop}
use Rattle.view.specs.Lists.{paired}
use Rattle.view.specs.Model.{first_axes}
use Rattle.view.proofs.AxesLaws.{first_axes-front, length_lists}

module _ (es : List ℕ) (ss : List ℤ) where
  pub many_extents : 16 < length es → paired es ss ≡ refused 1 []
  unfolding paired refuse_if ◌>>◌
  many_extents h = grind (arith, ints)

  pub many_strides : 16 < length ss → paired es ss ≡ refused 1 []
  unfolding paired refuse_if ◌>>◌
  many_strides h = grind (arith, ints)

  module _ (few : length es ≤ 16) (fewer : length ss ≤ 16) where
    pub lengths_differ : (length es ≡ length ss → ⊥) → paired es ss ≡ refused 2 []
    unfolding paired refuse_if ◌>>◌
    lengths_differ n = grind (arith, ints)

    pub paired_lists : length es ≡ length ss → paired es ss ≡ done (axes_of_lists es ss)
    unfolding paired refuse_if ◌>>◌
    paired_lists e = grind (arith, ints)

-- an array after the axes of two lists were stored in its first places
module _ (es : List ℕ) (ss : List ℤ) (alike : length ss ≡ length es) (old : List Axis) {stored : List Axis} (e : stored ≡ axes_of_lists es ss ++ drop (length es) old) where
  pub stored_front : first_axes stored (length es) ≡ axes_of_lists es ss
  stored_front = rw e (first_axes-front (axes_of_lists es ss) (drop (length es) old) (length es) (length_lists es ss alike))

  pub stored_past : drop (length es) stored ≡ drop (length es) old
  stored_past = rw e (drop-append-drop (length es) old (axes_of_lists es ss) (length es) (omega arith) (length_lists es ss alike))

  pub stored_taken : take (length es) stored ≡ axes_of_lists es ss
  stored_taken = rw e (take_at (axes_of_lists es ss) (drop (length es) old) (length es) (length_lists es ss alike))
