-- The normal form of an accepted layout of at most 2^64 - 1 positions fits the fields of a record, whatever the ranges of the layout.
use Rattle.std.specs.List.{AllByRecursion}
use Rattle.std.specs.Prelude.{if◌then◌else◌}
use mathlib.Core.Path.{◌≡◌, refl, sym, ap, subst, ◌∙◌}
use mathlib.Core.Bool.{Bool, true, false, ◌||◌}
use mathlib.Core.List.{List}
use Prim.Native.Nat.{◌+◌, ◌*◌, ◌-◌, ◌<◌, ◌≤◌}
use native.Mathlib.Nat.{le-mul_of_pos_right, mul-le-mul_right}
use native.Mathlib.Omega.{arith}
use lib.Dec.{eqb, ltb}
use mir.Syntax.{w64}
use mir.Val.{SFits}
use borrow.Author.Tests.{ltb-false, eqb-true}
use Rattle.integer.specs.Parts.{positive_part, negative_part}
use Rattle.integer.specs.Range.{most_signed, most_unsigned}
use Rattle.integer.proofs.MultipleLaws.{multiples}
use Rattle.specification.specs.Axis.{Axis, positions, product, is_empty, upward, downward}
use Rattle.specification.specs.Layout.{LayoutModel, IsAccepted, AxisRanges}
use Rattle.specification.specs.Views.{with_axes}
use Rattle.specification.specs.Normal.{normal_axes, normal_of, overfull}
use Rattle.specification.proofs.NormalAxes.{AllPositive, Normal, none, more, normal-positive}
use Rattle.specification.proofs.NormalLaws.{positions-pos, normal_axes-normal, normal-of-empty, normal_of_full, normal-same}
use Rattle.specification.proofs.ReachLaws.{accepted-within, spans_fit}
use Rattle.specification.proofs.WriterLaws.{normal-accepted}
use Rattle.std.proofs.lemmas.Int.{ints}

-- the offset fits 64 bits signed, each extent 64 bits, each stride 64 bits signed
pub record FieldsFit (n : LayoutModel) : Type 0 where
  pub offset_fits : SFits w64 n.offset
  pub axes_fit : AllByRecursion AxisRanges n.axes

pub not-empty : {axes : List Axis} → AllPositive axes → is_empty axes ≡ false
unfolding is_empty
not-empty AllPositive.none = refl
not-empty (AllPositive.more {a} {r} h t) = go (eqb a.extent 0) (eqb-true a.extent 0) (not-empty t)
  where
    go : (t : Bool) → (t ≡ true → a.extent ≡ 0) → is_empty r ≡ false → (t || is_empty r) ≡ false
    go true f e = absurd (omega (arith, f refl))
    go false f e = e

-- an extent is at most the count of positions, a stride at most its span
axes-in-ranges : {axes : List Axis} → Normal axes → positions axes ≤ most_unsigned → upward axes + downward axes ≤ most_signed → AllByRecursion AxisRanges axes
unfolding product upward downward
axes-in-ranges none h s = tt
axes-in-ranges (more {a} {r} q f n) h s =
    let g : 0 < positions r = positions-pos (normal-positive n) in
    let x : a.extent ≤ a.extent * positions r = le-mul_of_pos_right a.extent g in
    let p : 1 ≤ a.extent = omega arith in
    let y : positions r ≤ a.extent * positions r = omega (arith, mul-le-mul_right (positions r) p) in
    let z : 1 ≤ a.extent - 1 = omega arith in (
      record {
        extent_fits = omega arith;
        stride_fits = omega (arith, multiples, mul-le-mul_right (positive_part a.stride) z, mul-le-mul_right (negative_part a.stride) z);
      },
      axes-in-ranges n (omega arith) (omega arith),
    )

-- the offset lies between the lowest and the highest
offset-in-range : (x : LayoutModel) → IsAccepted x → is_empty x.axes ≡ false → SFits w64 x.offset
offset-in-range x a e =
    let w = accepted-within x e a in
    omega (arith, ints, w.w_low, w.w_most)

full-fits : (x : LayoutModel) → IsAccepted x → is_empty x.axes ≡ false → positions x.axes ≤ most_unsigned → FieldsFit (with_axes x (normal_axes x.axes))
full-fits x a e m =
    let n = normal_axes-normal x.axes e in
    let f = normal_of_full x e in
    let count : positions (normal_axes x.axes) ≡ positions x.axes = ap (λ (l : LayoutModel). positions l.axes) (sym f) ∙ (normal-same x).as_many in
    record {
      offset_fits = offset-in-range x a e;
      axes_fit = axes-in-ranges n (omega arith) (spans_fit (with_axes x (normal_axes x.axes)) (not-empty (normal-positive n)) (subst IsAccepted f (normal-accepted x a)));
    }

pub fields_fit : (x : LayoutModel) → IsAccepted x → overfull x.axes ≡ false → FieldsFit (normal_of x)
unfolding overfull
fields_fit x a o = go (is_empty x.axes) refl o
  where
    go : (t : Bool) → is_empty x.axes ≡ t → (if t then false else ltb most_unsigned (positions x.axes)) ≡ false → FieldsFit (normal_of x)
    go true e o = subst FieldsFit (sym (normal-of-empty x e))
        (record { offset_fits = record { sfits = omega arith }; axes_fit = (record { extent_fits = omega arith; stride_fits = record { sfits = omega arith } }, tt) })
    go false e o = subst FieldsFit (sym (normal_of_full x e)) (full-fits x a e (ltb-false most_unsigned (positions x.axes) o))
