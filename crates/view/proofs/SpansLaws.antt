-- The two sums of spans, one axis after another, and each with its limit.
use Rattle.std.specs.Prelude.{None}
use mathlib.Core.Path.{◌≡◌, ◌∙◌}
use mathlib.Core.Bool.{Bool, true, false, ◌&&◌, ◌||◌}
use mathlib.Core.List.{List, ◌∷◌}
use Prim.Native.Nat.{ℕ, ◌+◌, ◌-◌, ◌*◌, ◌≤◌, ◌<◌}
use native.Mathlib.Numerals.{add-one}
use native.Mathlib.Omega.{arith}
use lib.Dec.{leb}
use lib.IntN.{ℤ, nat_abs, pos}
use lib.Signed.{lt_z}
use lib.ListN.{length, drop, drop_of_length-le}
use lib.Seq.{drop-cons}
use borrow.Author.Tests.{le-leb, lt-leb}
use mir.Syntax.{w64}
use mir.Val.{SFits, of_z, to_z}
use Rattle.integer.specs.Parts.{positive_part, negative_part}
use Rattle.integer.proofs.MultipleLaws.{positive_part-·, negative_part-·}
use Rattle.specification.specs.Axis.{Axis, extents, span, upward, downward}
use Rattle.specification.specs.Views.{axis_at}
use Rattle.view.specs.Reach.{none_wide, spans_up_to, spans_within, sums, widths_pass}
use Rattle.std.proofs.lemmas.Int.{ints}

-- each sum so far and the spans still left, from axis i on, make the whole sum
pub record SpansLeft (axes : List Axis) (i up down : ℕ) : Type 0 where
  pub up_left : up + upward (drop i axes) ≡ upward axes
  pub down_left : down + downward (drop i axes) ≡ downward axes

module _ (axes : List Axis) (i up down last step : ℕ) (stride : ℤ) (left : SpansLeft axes i up down) (h : i < length axes)
    (is_last : last ≡ (axis_at axes i).extent - 1) (is-stride : stride ≡ (axis_at axes i).stride) (f : SFits w64 stride) where
  next : drop i axes ≡ axis_at axes i ∷ drop (i + 1) axes
  next = rw (add-one, drop-cons axes i (record { extent = 0; stride = pos 0 }) h)

  up-more : (part : ℕ) → part ≡ positive_part stride → (up + last * part) + upward (drop (i + 1) axes) ≡ upward axes
  unfolding upward
  up-more part e =
      let p : last * part ≡ positive_part (span (axis_at axes i)) = rw (positive_part-·, is_last, e, is-stride) in
      let q = rw next at left.up_left in
      omega arith

  down-more : (part : ℕ) → part ≡ negative_part stride → (down + last * part) + downward (drop (i + 1) axes) ≡ downward axes
  unfolding downward
  down-more part e =
      let p : last * part ≡ negative_part (span (axis_at axes i)) = rw (negative_part-·, is_last, e, is-stride) in
      let q = rw next at left.down_left in
      omega arith

  -- a turn, by the sign of the stride as the machine reads it back: the axis adds to one of the sums alone
  pub falling-turn : lt_z (to_z w64 (of_z w64 stride)) (pos 0) ≡ true → step ≡ nat_abs (to_z w64 (of_z w64 stride)) → SpansLeft axes (i + 1) up (down + last * step)
  falling-turn below is-step =
      let e = up-more 0 (grind (arith, ints)) in
      record { up_left = omega arith; down_left = down-more step (grind (arith, ints)) }

  pub rising-turn : lt_z (to_z w64 (of_z w64 stride)) (pos 0) ≡ false → step ≡ nat_abs (to_z w64 (of_z w64 stride)) → SpansLeft axes (i + 1) (up + last * step) down
  rising-turn above is-step =
      let e = down-more 0 (grind (arith, ints)) in
      record { up_left = up-more step (grind (arith, ints)); down_left = omega arith }

pub spans-end : (axes : List Axis) (i up down : ℕ) → SpansLeft axes i up down → length axes ≤ i → (up ≡ upward axes) × (down ≡ downward axes)
unfolding upward downward
spans-end axes i up down left h =
    let e = drop_of_length-le axes h in
    let u = rw e at left.up_left in
    let v = rw e at left.down_left in
    (omega arith, omega arith)

-- ---- wide extents

module _ (wide : Bool) (axes : List Axis) (i : ℕ) (h : i < length axes) where
  widths-here : widths_pass wide (drop i axes) ≡ (wide || (leb (axis_at axes i).extent 9223372036854775808 && none_wide (extents (drop (i + 1) axes))))
  widths-here = rw (add-one, drop-cons axes i (record { extent = 0; stride = pos 0 }) h)

  -- an axis that is not too wide leaves the test to those behind it
  pub widths-turn : widths_pass wide axes ≡ widths_pass wide (drop i axes) → (wide ≡ false → (axis_at axes i).extent ≤ 9223372036854775808) → widths_pass wide axes ≡ widths_pass wide (drop (i + 1) axes)
  widths-turn left narrow = left ∙ widths-here ∙ grind (arith, ints)

  pub widths-stop : widths_pass wide axes ≡ widths_pass wide (drop i axes) → wide ≡ false → 9223372036854775808 < (axis_at axes i).extent → widths_pass wide axes ≡ false
  widths-stop left e above = left ∙ widths-here ∙ rw (e, lt-leb (axis_at axes i).extent 9223372036854775808 above)

pub widths-end : (wide : Bool) (axes : List Axis) (i : ℕ) → widths_pass wide axes ≡ widths_pass wide (drop i axes) → length axes ≤ i → widths_pass wide axes ≡ true
widths-end wide axes i left h = left ∙ rw (drop_of_length-le axes h) (grind (arith, ints))

-- ---- both sums, each with its limit

pub spans-are : (above below : ℕ) (axes : List Axis) → upward axes ≤ above → downward axes ≤ below
    → spans_up_to above below axes ≡ sums (upward axes) (downward axes)
spans-are above below axes h k = rw (le-leb (upward axes) above h, le-leb (downward axes) below k)

pub none-wider : (wide : Bool) (above below : ℕ) (axes : List Axis) → widths_pass wide axes ≡ false → None ≡ spans_within wide above below axes
none-wider wide above below axes e = rw e

pub spans-above : (wide : Bool) (above below : ℕ) (axes : List Axis) → above < upward axes → spans_within wide above below axes ≡ None
spans-above wide above below axes h = grind (arith, ints)

pub spans-below : (wide : Bool) (above below : ℕ) (axes : List Axis) → below < downward axes → spans_within wide above below axes ≡ None
spans-below wide above below axes h = grind (arith, ints)
