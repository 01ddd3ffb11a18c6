-- An axis that is a root begins the class at its place, another is taken into the class of its root, or the sum of strides is out of range.
use Rattle.std.specs.Prelude.{Option, Some, None}
use Rattle.std.specs.Option.{SomeIff}
use Rattle.std.proofs.lemmas.Int.{ints}
use Rattle.std.proofs.lemmas.Result.{err_from_is_err_and}
use Rattle.std.proofs.Common.{false, true, ◌≡◌, ℕ, ◌+◌, ◌<◌, ◌≤◌, ◌%◌, ◌^◌, List, length, refl, sym, ap, subst, ◌∙◌, arith, rules}
use lib.Count.{ones}
use lib.IntN.{ℤ, ◌+ℤ◌}
use lib.ListN.{length-set}
use mir.Syntax.{w64}
use mir.Val.{SFits, of_z, to_z}
use mir.ValLaws.{to_z-of_z}
use Rattle.integer.specs.Range.{fits}
use Rattle.specification.specs.Axis.{Axis}
use Rattle.specification.specs.Views.{axis_at}
use Rattle.view.specs.declared.layout.Refusal.TheVariants.{OutOfRange}
use Rattle.view.specs.Model.{first_axes}
use Rattle.view.specs.Ties.{root_at, is_root, mask_of, IsRooted}
use Rattle.view.proofs.RangeLaws.{count, count_most}
use Rattle.view.proofs.RootLaws.{ones_below, mask-ones}
use Rattle.view.proofs.FusedLaws.{Stored, stored-first, stored-later, over-here, sums-over, sums_none, axes-stored}
use Rattle.view.proofs.diagonal.fuse.Goals as goal
use Rattle.view.proofs.diagonal.fuse.Goals.{then-root-axis, else-root-axis+in_ok-class}

-- what an i64 holds passes the test
in_range : (z : ℤ) → SFits w64 z → fits z ≡ true
in_range z f = grind (arith, ints)

-- an integer as the machine reads it back
abbrev back : ℤ → ℤ
back z = to_z w64 (of_z w64 z)

-- what the machine's sum of two strides tells of the sum itself, if it is one and if it is none
module _ {sum : Option ℤ} (x y : ℤ) (f : SFits w64 x) (g : SFits w64 y) (told : SomeIff sum (SFits w64 (back x +ℤ back y)) (back x +ℤ back y)) where
  sum-over : sum ≡ None → fits (x +ℤ y) ≡ false
  sum-over e = grind (arith, ints)

  sum-fits : (z : ℤ) → sum ≡ Some z → (fits (x +ℤ y) ≡ true) × (back z ≡ x +ℤ y)
  sum-fits z e = grind (arith, ints)

-- the place of an axis: that of its root, and below 16
module _ {n : ℕ} {roots : List ℕ} (of : IsRooted n roots) (few : n ≤ 16) (axis : ℕ) (below : axis < n) {mask at : ℕ}
    (found : at ≡ ones (mask % 2 ^ root_at roots axis)) (masked : mask ≡ mask_of roots n) where
  place_is : at ≡ count (is_root roots) (root_at roots axis)
  place_is = found ∙ ap (λ (m : ℕ). ones (m % 2 ^ root_at roots axis)) masked ∙ ones_below roots n (root_at roots axis) (omega (arith, of.low axis below))

  place-low : at < 16
  place-low = omega (arith, place_is, count_most (is_root roots) (root_at roots axis), of.low axis below)

pub bounds-fused-place : goal.bounds-fused-place
bounds-fused-place c = place-low c.requires.rooted c.requires.few c.loop-axis.axis (omega arith) c.place.ensures c.requires.masked

pub returns-in_err-class-clause-answer : goal.returns-in_err-class-clause-answer
returns-in_err-class-clause-answer c =
    let axes = c.args.axes.now in
    let roots = c.args.roots.now in
    let l = c.loop-axis in
    let h : l.axis < length axes = omega arith in
    let of = c.requires.rooted in
    let r : ℕ = root_at roots l.axis in
    let low : r ≤ l.axis = of.low l.axis h in
    let less : r < l.axis = omega arith in
    let so_far : ℤ = (axis_at l.fused c.place.result).stride in
    let stride : ℤ = (axis_at axes l.axis).stride in
    let none : c.checked_add.result ≡ None = grind arith in
    let here = over-here axes roots l.axis l.invariant.stored c.place.result r refl less (of.own l.axis h)
    (place_is of c.requires.few l.axis h c.place.ensures c.requires.masked) (sum-over so_far stride (search rules) (search rules) c.checked_add.ensures none) in
    let why : c.in_err-class.field-0.0 ≡ OutOfRange = grind arith in
    let p = err_from_is_err_and c.from_residual.result c.from_residual.ensures.1 in
    rw (p.1, p.2, why) (sym (sums-over axes roots (l.axis + 1) r (omega arith) (omega arith) (of.own l.axis h) here))

pub loop-axis-preserved : goal.loop-axis-preserved
loop-axis-preserved c =
    let axes = c.args.axes.now in
    let roots = c.args.roots.now in
    let l = c.loop-axis in
    let h : l.axis < length axes = omega arith in
    let of = c.requires.rooted in
    let r : ℕ = root_at roots l.axis in
    let at-low : c.place.result < 16 = place-low of c.requires.few l.axis h c.place.ensures c.requires.masked in
    let stride : ℤ = (axis_at axes l.axis).stride in
    let g : SFits w64 stride = search rules in
    elim c.if-root-axis.branch [
      | then-root-axis w ↦ rw w.fused-is record {
        long = simp length-set l.invariant.long;
        stored = stored-first axes roots l.axis l.invariant.stored c.place.result w.if-root-axis.true
            (place_is of c.requires.few l.axis h c.place.ensures c.requires.masked ∙ ap (count (is_root roots)) w.if-root-axis.true)
            (λ b k. of.low b (omega arith)) (in_range _ g) (omega (arith, at-low)) _
            (ap {B = Axis} (λ (z : ℤ). record { extent = (axis_at axes l.axis).extent; stride = z }) (to_z-of_z w64 _ g));
      }
      | else-root-axis+in_ok-class w ↦
          let low : r ≤ l.axis = of.low l.axis h in
          let less : r < l.axis = omega arith in
          let so_far : ℤ = (axis_at l.fused c.place.result).stride in
          let some : w.checked_add.result ≡ Some w.in_ok-class.field-0 = grind arith in
          let sum = sum-fits so_far stride (search rules) g w.checked_add.ensures _ some in
          rw w.fused-is record {
            long = simp length-set l.invariant.long;
            stored = stored-later axes roots l.axis l.invariant.stored c.place.result r refl less (of.own l.axis h)
                (place_is of c.requires.few l.axis h c.place.ensures c.requires.masked) sum.0 (omega (arith, at-low)) _ w.min-class.ensures _ sum.1;
          }
    ]

pub returns-clause-answer : goal.returns-clause-answer
returns-clause-answer c =
    let l = c.loop-axis in
    let e : l.axis ≡ length c.args.axes.now = omega arith in
    sym (sums_none c.args.axes.now c.args.roots.now (subst (λ (n : ℕ). Stored c.args.axes.now c.args.roots.now n l.fused) e l.invariant.stored))

pub returns-clause-fused : goal.returns-clause-fused
returns-clause-fused c =
    let l = c.loop-axis in
    let e : l.axis ≡ length c.args.axes.now = omega arith in
    ap (first_axes l.fused) (ap ones c.requires.masked ∙ mask-ones c.args.roots.now (length c.args.axes.now))
    ∙ axes-stored c.args.axes.now c.args.roots.now (subst (λ (n : ℕ). Stored c.args.axes.now c.args.roots.now n l.fused) e l.invariant.stored)
