-- The normal form of an accepted layout is accepted; and an accepted layout is not out of range for the verdict, so it has a plan unless it has too many positions.
use Rattle.std.specs.List.{list_any}
use Rattle.std.specs.Prelude.{if◌then◌else◌, filter}
use mathlib.Core.Path.{◌≡◌, refl, sym, ap, subst, ◌∙◌}
use mathlib.Core.Bool.{Bool, true, false, not, ◌&&◌}
use mathlib.Core.List.{List, [], ◌∷◌}
use Prim.Native.Nat.{zero, suc, ◌+◌, ◌*◌, ◌-◌, ◌^◌, ◌≤◌}
use native.Mathlib.Nat.{mul-le-mul_right}
use native.Mathlib.Omega.{arith}
use lib.Dec.{T, eqb, ltb}
use lib.IntN.{ℤ, pos, negsuc, neg_ℤ}
use lib.ListN.{length}
use borrow.Author.Tests.{ltb-true, le-ltb}
use Rattle.std.specs.Ordering.{int_eq}
use Rattle.integer.specs.Parts.{positive_part, negative_part}
use Rattle.integer.proofs.MultipleLaws.{positive_part-·, negative_part-·, int_eq-yes}
use Rattle.integer.specs.Range.{fits, most_signed, most_unsigned}
use Rattle.specification.specs.Axis.{Axis, positions, is_empty, active, span, upward, downward}
use Rattle.specification.specs.Outcome.{Outcome, done, refused, pass, refuse_if, ◌>>◌}
use Rattle.specification.specs.Layout.{LayoutModel, rank, IsAccepted, handed}
use Rattle.specification.specs.CheckIn.{is_too_wide}
use Rattle.specification.specs.Normal.{merge_into, merge, normal_axes, normal_of, overfull, normal_form}
use Rattle.specification.specs.Verdict.{Plan, answered, Distinct, Repeated, still, is_out_of_range, plan_of, block_of, by_block_size}
use Rattle.specification.proofs.NormalLaws.{full-pos, positions-pos, empty-none, normal-of-empty, normal_of_full, normal-same, buffer-stays}
use Rattle.specification.proofs.ReachLaws.{or-false, spans_fit, fits-small}
use Rattle.specification.proofs.ReachClaimed.{handed-answers}
use Rattle.specification.proofs.TestLaws.{length-those}
use Rattle.specification.proofs.OutcomeLaws.{false-unless, refuse-no}
use Rattle.std.proofs.lemmas.Int.{ints}

-- ---- the normal form is accepted

length-merge_into : (a : Axis) (rest : List Axis) → length (merge_into a rest) ≤ suc (length rest)
unfolding merge_into
length-merge_into a rest = grind (arith, ints)

length-merge : (axes : List Axis) → length (merge axes) ≤ length axes
unfolding merge
length-merge [] = omega arith
length-merge (a ∷ rest) = omega (arith, length-merge_into a (merge rest), length-merge rest)

length-normal_axes : (axes : List Axis) → length (normal_axes axes) ≤ length axes
unfolding normal_axes
length-normal_axes axes = omega (arith, length-merge (filter (λ a. not (eqb a.extent 1)) axes), length-those (λ a. not (eqb a.extent 1)) axes)

normal-rank : (x : LayoutModel) → IsAccepted x → rank (normal_of x) ≤ 16
normal-rank x a = go (is_empty x.axes) refl
  where
    go : (t : Bool) → is_empty x.axes ≡ t → rank (normal_of x) ≤ 16
    go true e = omega (arith, ap rank (normal-of-empty x e))
    go false e = omega (arith, ap rank (normal_of_full x e), length-normal_axes x.axes, a.few)

pub normal-accepted : (x : LayoutModel) → IsAccepted x → IsAccepted (normal_of x)
normal-accepted x a =
    let s = normal-same x in
    record {
      few = normal-rank x a;
      offsets = λ i h.
          let w = a.offsets i (rw (← s.as_many) h) in
          let e = s.alike i h in
          record { from_zero = rw e w.from_zero; to_most = rw e w.to_most; in_buffer = rw (e, buffer-stays x) w.in_buffer };
    }

-- it has as many positions
pub normal-few : (x : LayoutModel) → overfull x.axes ≡ false → overfull (normal_of x).axes ≡ false
unfolding overfull
normal-few x o = go (is_empty (normal_of x).axes) (is_empty x.axes) refl refl o
  where
    go : (t u : Bool) → is_empty (normal_of x).axes ≡ t → is_empty x.axes ≡ u
        → (if u then false else ltb most_unsigned (positions x.axes)) ≡ false → (if t then false else ltb most_unsigned (positions (normal_of x).axes)) ≡ false
    go true u e f o = refl
    go false true e f o = absurd (omega (arith, empty-none x.axes f, positions-pos (full-pos (normal_of x).axes e), (normal-same x).as_many))
    go false false e f o = rw (normal-same x).as_many o

-- ---- the call

handed-pass : (l : LayoutModel) → IsAccepted l → handed l 0 ≡ pass
handed-pass l a = (handed-answers l 0).passes.1 (a, omega arith)

pub form-done : (l : LayoutModel) → IsAccepted l → overfull l.axes ≡ false → normal_form l ≡ done (normal_of l)
unfolding normal_form refuse_if ◌>>◌
form-done l a o = rw (handed-pass l a, o)

pub form-eight : (l : LayoutModel) → IsAccepted l → overfull l.axes ≡ true → normal_form l ≡ refused 8 []
unfolding normal_form refuse_if ◌>>◌
form-eight l a o = rw (handed-pass l a, o)

-- ---- an accepted layout is not out of range

-- an axis that moves spans at least its extent minus 1
moves-span : (a : Axis) → int_eq a.stride (pos 0) ≡ false → a.extent - 1 ≤ positive_part (span a) + negative_part (span a)
moves-span a e = rw (positive_part-· (a.extent - 1) a.stride, negative_part-· (a.extent - 1) a.stride) (go a.stride e)
  where
    go : (s : ℤ) → int_eq s (pos 0) ≡ false → a.extent - 1 ≤ (a.extent - 1) * positive_part s + (a.extent - 1) * negative_part s
    go (pos zero) e = absurd (subst T e tt)
    go (pos (suc n)) e = omega arith
    go (negsuc n) e = omega arith

-- an active axis of stride -2^63 spans too much
least-spans : (a : Axis) → active a ≡ true → a.stride ≡ negsuc most_signed → 2 ^ 63 ≤ negative_part (span a)
least-spans a h e =
    let n : negative_part a.stride ≡ 2 ^ 63 = ap negative_part e in
    let k : 1 ≤ a.extent - 1 = omega (arith, ltb-true 1 a.extent h) in
    omega (arith, negative_part-· (a.extent - 1) a.stride, mul-le-mul_right (negative_part a.stride) k)

-- what the verdict's refusal 3 tests of one axis
record AxisInRange (a : Axis) : Type 0 where
  not_wide : is_too_wide a ≡ false
  span_in : not (fits (span a)) ≡ false
  not_least : (active a && int_eq a.stride (negsuc most_signed)) ≡ false

axis-in-range : (a : Axis) → still a ≡ false → positive_part (span a) + negative_part (span a) ≤ most_signed → AxisInRange a
axis-in-range a s h = go (active a) refl s
  where
    span_fits : not (fits (span a)) ≡ false
    span_fits = ap not (fits-small (span a) (omega arith) (omega arith))

    go : (t : Bool) → active a ≡ t → (t && int_eq a.stride (pos 0)) ≡ false → AxisInRange a
    go true p e = record {
      not_wide = rw (p, le-ltb most_signed (a.extent - 1) (omega (arith, moves-span a e)));
      span_in = span_fits;
      not_least = rw (p, false-unless (int_eq a.stride (negsuc most_signed)) (λ t. int_eq-yes a.stride (negsuc most_signed) (subst T (sym t) tt)) (λ s. omega (arith, least-spans a p s)));
    }
    go false p e = record { not_wide = rw p; span_in = span_fits; not_least = rw p }

-- and of all
record AllInRange (axes : List Axis) : Type 0 where
  none_wide : list_any is_too_wide axes ≡ false
  spans_in : list_any (λ a. not (fits (span a))) axes ≡ false
  none_least : list_any (λ a. active a && int_eq a.stride (negsuc most_signed)) axes ≡ false

all-in-range : (axes : List Axis) → list_any still axes ≡ false → upward axes + downward axes ≤ most_signed → AllInRange axes
unfolding upward downward
all-in-range [] s h = record { none_wide = refl; spans_in = refl; none_least = refl }
all-in-range (a ∷ rest) s h =
    let p = or-false (still a) (list_any still rest) s in
    let c = axis-in-range a p.0 (omega arith) in
    let m = all-in-range rest p.1 (omega arith) in
    record { none_wide = rw c.not_wide m.none_wide; spans_in = rw c.span_in m.spans_in; none_least = rw c.not_least m.none_least }

in_range : (l : LayoutModel) → IsAccepted l → is_empty l.axes ≡ false → list_any still l.axes ≡ false → is_out_of_range l.axes ≡ false
unfolding is_out_of_range
in_range l a e s =
    let h = spans_fit l e a in
    let c = all-in-range l.axes s h in
    rw (
      c.none_wide,
      c.spans_in,
      c.none_least,
      fits-small (pos (upward l.axes)) (omega arith) (omega arith),
      fits-small (neg_ℤ (pos (downward l.axes))) (omega (arith, ints)) (omega (arith, ints)),
    )

-- so before the enumeration nothing is refused but 8
pub plan-done : (l : LayoutModel) → IsAccepted l → overfull l.axes ≡ false → (p : Plan) × (plan_of l.axes ≡ done p)
unfolding plan_of
plan-done l a o = go (is_empty l.axes) (eqb (positions l.axes) 1) (list_any still l.axes) refl refl
  where
    from_block : Outcome Plan
    from_block = refuse_if (is_out_of_range l.axes) 3 [] >> done (by_block_size (block_of l.axes))

    go : (t u v : Bool) → is_empty l.axes ≡ t → list_any still l.axes ≡ v
        → (p : Plan) × ((if t then done (answered Distinct 0) else (refuse_if (overfull l.axes) 8 [] >> (if u then done (answered Distinct 0) else (if v then done (answered Repeated 0) else from_block)))) ≡ done p)
    go true u v e s = (answered Distinct 0, refl)
    go false true v e s = (answered Distinct 0, refuse-no 8 [] _ o)
    go false false true e s = (answered Repeated 0, refuse-no 8 [] _ o)
    go false false false e s = (by_block_size (block_of l.axes), refuse-no 8 [] _ o ∙ refuse-no 3 [] _ (in_range l a e s))
