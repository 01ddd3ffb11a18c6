-- The sum of index × stride, axis by axis.
use mathlib.Core.Path.{◌≡◌, sym}
use mathlib.Core.Bool.{Bool, true, false, not, ◌||◌}
use mathlib.Core.List.{List, [], ◌∷◌}
use Prim.Native.Nat.{ℕ, ◌+◌, ◌≤◌, ◌<◌}
use native.Mathlib.Numerals.{add-one}
use native.Mathlib.Omega.{arith}
use lib.Dec.{ltb}
use lib.IntN.{ℤ, pos, ◌+ℤ◌}
use lib.ListN.{length, drop, get_or, drop_of_length-le}
use lib.Seq.{drop-cons}
use borrow.Author.Tests.{lt-leb}
use mir.Syntax.{w64}
use mir.Val.{SFits, of_z, to_z}
use mir.ValLaws.{to_z-of_z}
use Rattle.std.specs.Prelude.{Option, Some, None}
use Rattle.std.specs.Option.{SomeIff}
use Rattle.std.proofs.lemmas.Int.{ints}
use Rattle.integer.specs.Multiple.{◌·◌}
use Rattle.integer.specs.Range.{checked_of, fits, most_signed}
use Rattle.specification.specs.Outcome.{Outcome, done, refused, refuse_if, ◌>>◌}
use Rattle.specification.specs.Axis.{Axis}
use Rattle.specification.specs.Beside.{sum_indexed}
use Rattle.specification.specs.Views.{axis_at}
use Rattle.specification.proofs.OutcomeLaws.{passed, done_inj}
use Rattle.view.specs.Indexed.{added_of}

-- an integer as the machine reads it back
abbrev back : ℤ → ℤ
back z = to_z w64 (of_z w64 z)

module _ (sum : ℤ) (index : ℕ) (stride : ℤ) where
  pub added-wide : most_signed < index → added_of sum index stride ≡ refused 3 []
  unfolding added_of refuse_if ◌>>◌
  added-wide h = grind (arith, ints)

  pub added-far : index ≤ most_signed → fits (index · stride) ≡ false → added_of sum index stride ≡ refused 3 []
  unfolding added_of refuse_if ◌>>◌
  added-far h e = grind (arith, ints)

  pub added-over : index ≤ most_signed → fits (index · stride) ≡ true → fits (sum +ℤ index · stride) ≡ false → added_of sum index stride ≡ refused 3 []
  unfolding added_of refuse_if ◌>>◌
  added-over h e f = grind (arith, ints)

  pub added-fits : index ≤ most_signed → fits (index · stride) ≡ true → fits (sum +ℤ index · stride) ≡ true → added_of sum index stride ≡ done (sum +ℤ index · stride)
  unfolding added_of refuse_if ◌>>◌
  added-fits h e f = grind (arith, ints)

pub ruleset added = (ints, to_z-of_z, added-wide, added-far)

-- the same, as the machine answers: the product is in range, and its sum with what is there is not, or is
module _ {product : Option ℤ} (sum step : ℤ) (index : ℕ) (stride : ℤ) (f : SFits w64 sum) (g : SFits w64 stride) (h : index ≤ most_signed)
    (multiplied : product ≡ checked_of (index · back stride)) (some : product ≡ Some step) where
  in_range : (fits (index · stride) ≡ true) × (back step ≡ index · stride)
  in_range = let m = rw (to_z-of_z w64 stride g) at multiplied in grind (arith, ints)

  module _ {added : Option ℤ} (told : SomeIff added (SFits w64 (back sum +ℤ back step)) (back sum +ℤ back step)) where
    pub sum-over : added ≡ None → refused 3 [] ≡ added_of sum index stride
    sum-over e = let p = in_range in sym (added-over sum index stride h p.0 (grind (arith, ints)))

    pub sum-fits : (offset : ℤ) → added ≡ Some offset → done (back offset) ≡ added_of sum index stride
    sum-fits offset e =
        let p = in_range in
        let q : back offset ≡ sum +ℤ index · stride = grind (arith, ints) in
        rw q (sym (added-fits sum index stride h p.0 (grind (arith, ints))))

-- ---- the axes and the index vector from i on

module _ (axes : List Axis) (index : List ℕ) (i : ℕ) (sum : ℤ) (h : i < length index) (n : length index ≡ length axes) where
  abbrev here : Axis
  here = axis_at axes i

  abbrev at_here : ℕ
  at_here = get_or index i 0

  abbrev left : Outcome ℤ
  left = sum_indexed i sum (drop i axes) (drop i index)

  -- the test of refusal 3
  abbrev is_out_of_range : Bool
  is_out_of_range = ltb most_signed at_here || not (fits (at_here · here.stride)) || not (fits (sum +ℤ at_here · here.stride))

  axis-here : drop i axes ≡ here ∷ drop (i + 1) axes
  axis-here = rw (add-one, drop-cons axes i (record { extent = 0; stride = pos 0 }) (omega arith))

  index-here : drop i index ≡ at_here ∷ drop (i + 1) index
  index-here = rw (add-one, drop-cons index i 0 h)

  pub indexed-bad : here.extent ≤ at_here → left ≡ refused 7 (i ∷ [])
  unfolding sum_indexed refuse_if ◌>>◌
  indexed-bad k = rw (axis-here, index-here) (grind (arith, ints))

  pub indexed-over : {number : ℕ} {values : List ℕ} → at_here < here.extent → refused number values ≡ added_of sum at_here here.stride → left ≡ refused number values
  unfolding added_of sum_indexed refuse_if ◌>>◌
  indexed-over {number} {values} k e = rw (axis-here, index-here) (grind (arith, ints))

  pub indexed-on : (next : ℤ) → at_here < here.extent → done next ≡ added_of sum at_here here.stride → left ≡ sum_indexed (i + 1) next (drop (i + 1) axes) (drop (i + 1) index)
  unfolding added_of sum_indexed refuse_if ◌>>◌
  indexed-on next k e = let p = passed is_out_of_range 3 [] (sym e) in rw (axis-here, index-here, lt-leb here.extent at_here k, p.0, done_inj p.1, add-one)

pub indexed-end : (axes : List Axis) (index : List ℕ) (i : ℕ) (sum : ℤ) → length axes ≤ i → sum_indexed i sum (drop i axes) (drop i index) ≡ done sum
unfolding sum_indexed
indexed-end axes index i sum h = rw (drop_of_length-le axes h)
