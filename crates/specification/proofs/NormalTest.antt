-- The reader's test for a normal form says what it should: the layout is its own normal form, has at most 2^64 - 1 positions,
-- and every offset lies within 0 to 2^63 - 1.
use mathlib.Core.Path.{◌≡◌, refl, sym, ap, ap₂, subst, ◌∙◌}
use mathlib.Core.Bool.{Bool, true, false, not, ◌&&◌, ◌||◌}
use mathlib.Core.List.{List, [], ◌∷◌}
use mathlib.Core.Logic.{◌↔◌}
use Prim.Native.Nat.{ℕ}
use native.Mathlib.Omega.{arith}
use lib.Dec.{T, eqb, ltb}
use lib.IntN.{ℤ, pos}
use lib.ListN.{length}
use lib.Signed.{le_z, ◌≤ℤ◌}
use borrow.Author.Tests.{ltb-true, eqb-true, lt-ltb, not-true}
use Rattle.integer.specs.Multiple.{◌·◌}
use Rattle.std.specs.Ordering.{int_eq}
use Rattle.integer.proofs.MultipleLaws.{int_eq-yes, int_eq-no}
use Rattle.integer.specs.Range.{most_signed}
use Rattle.specification.specs.Axis.{Axis, is_empty}
use Rattle.specification.specs.Layout.{LayoutModel, lowest, highest}
use Rattle.specification.specs.Normal.{continues, normal_axes, overfull}
use Rattle.specification.specs.Record.{is_merged, is_empty_form, is_normal_form}
use Rattle.specification.specs.RecordClaims.{NormalRecord}
use Rattle.specification.proofs.NormalAxes.{Normal, none, more, normal-positive}
use Rattle.specification.proofs.NormalLaws.{empty_axes, empty-none, normal_axes-normal, normal_axes-own, normal-of-empty, normal_of_full}
use Rattle.specification.proofs.ReachLaws.{reach_of, and-true}
use Rattle.specification.proofs.TestLaws.{or-true}
use Rattle.specification.proofs.FieldsFit.{not-empty}
use Rattle.specification.proofs.OutcomeLaws.{false-unless}
use Rattle.std.proofs.lemmas.Int.{ints}

-- ---- merged axes

merged-normal : (axes : List Axis) → is_merged axes ≡ true → Normal axes
unfolding is_merged
merged-normal [] e = none
merged-normal (a ∷ []) e = more {a = a} (ltb-true 1 a.extent e) tt none
merged-normal (a ∷ b ∷ rest) e =
    let p = and-true (ltb 1 a.extent && not (continues a b)) (is_merged (b ∷ rest)) e in
    let q = and-true (ltb 1 a.extent) (not (continues a b)) p.0 in
    more {a = a} (ltb-true 1 a.extent q.0) (int_eq-no b.stride (a.extent · a.stride) (subst T (sym q.1) tt)) (merged-normal (b ∷ rest) p.1)

normal_merged : {axes : List Axis} → Normal axes → is_merged axes ≡ true
unfolding is_merged
normal_merged none = refl
normal_merged (more {a} h f none) = lt-ltb 1 a.extent h
normal_merged (more {a} h f (more {a = b} {r} k g t)) =
    rw (lt-ltb 1 a.extent h, false-unless (continues a b) (λ e. int_eq-yes b.stride (a.extent · a.stride) (subst T (sym e) tt)) f) (normal_merged (more {a = b} {r = r} k g t))

-- ---- the form of an empty layout

-- offset 0, and one axis of extent 0 and stride 0
record EmptyForm (offset : ℤ) (axes : List Axis) : Type 0 where
  offset_zero : offset ≡ pos 0
  one_axis : axes ≡ empty_axes

empty-tested : (b : ℕ) (o : ℤ) (axes : List Axis) → is_empty_form (record { buffer = b; offset = o; axes = axes }) ≡ true → EmptyForm o axes
empty-tested b o [] e = absurd (subst T (sym e) tt)
empty-tested b o (a ∷ rest) e =
    let p = and-true (int_eq o (pos 0) && eqb (length rest) 0 && eqb a.extent 0) (int_eq a.stride (pos 0)) e in
    let q = and-true (int_eq o (pos 0) && eqb (length rest) 0) (eqb a.extent 0) p.0 in
    let r = and-true (int_eq o (pos 0)) (eqb (length rest) 0) q.0 in
    let n : a.extent ≡ 0 = eqb-true a.extent 0 q.1 in
    let s : a.stride ≡ pos 0 = int_eq-yes a.stride (pos 0) (subst T (sym p.1) tt) in
    record {
      offset_zero = int_eq-yes o (pos 0) (subst T (sym r.0) tt);
      one_axis = ap₂ (λ (x : Axis) (y : List Axis). x ∷ y) (λ i. record { extent = n i; stride = s i }) (no-rest rest (eqb-true (length rest) 0 r.1));
    }
  where
    no-rest : (l : List Axis) → length l ≡ 0 → l ≡ []
    no-rest [] h = refl
    no-rest (b ∷ l) h = absurd (omega arith)

-- such a layout passes the test, is its own normal form, is not overfull and has no position
empty-passes : (b : ℕ) {o : ℤ} {axes : List Axis} → EmptyForm o axes → is_normal_form (record { buffer = b; offset = o; axes = axes }) ≡ true
unfolding is_normal_form
empty-passes b f = ap₂ (λ (z : ℤ) (l : List Axis). is_normal_form (record { buffer = b; offset = z; axes = l })) f.offset_zero f.one_axis

empty-record : (b : ℕ) {o : ℤ} {axes : List Axis} → EmptyForm o axes → NormalRecord (record { buffer = b; offset = o; axes = axes })
unfolding is_empty overfull
empty-record b {o} {axes} f =
    let e : is_empty axes ≡ true = ap is_empty f.one_axis in
    let n = normal-of-empty (record { buffer = b; offset = o; axes = axes }) e in
    record {
      normal = record { same_offset = ap (λ (l : LayoutModel). l.offset) n ∙ sym f.offset_zero; same_axes = ap (λ (l : LayoutModel). l.axes) n ∙ sym f.one_axis };
      few = rw e;
      within = λ k h. absurd (omega (arith, empty-none axes e));
    }

-- ---- the test

abbrev merged_test : LayoutModel → Bool
merged_test l = is_merged l.axes && not (overfull l.axes) && le_z (pos 0) (lowest l) && le_z (highest l) (pos most_signed)

merged-record : (l : LayoutModel) → merged_test l ≡ true → NormalRecord l
merged-record l e =
    let p = and-true (is_merged l.axes && not (overfull l.axes) && le_z (pos 0) (lowest l)) (le_z (highest l) (pos most_signed)) e in
    let q = and-true (is_merged l.axes && not (overfull l.axes)) (le_z (pos 0) (lowest l)) p.0 in
    let r = and-true (is_merged l.axes) (not (overfull l.axes)) q.0 in
    let m = merged-normal l.axes r.0 in
    let full = not-empty (normal-positive m) in
    let n = normal_of_full l full in
    record {
      normal = record { same_offset = ap (λ (x : LayoutModel). x.offset) n; same_axes = ap (λ (x : LayoutModel). x.axes) n ∙ normal_axes-own m };
      few = not-true (overfull l.axes) r.1;
      within = λ k h. let b = (reach_of l full).between k h in (
        grind (arith, ints, b.0, q.1),
        grind (arith, ints, b.1, p.1),
      );
    }

full-passes : (l : LayoutModel) → is_empty l.axes ≡ false → NormalRecord l → is_normal_form l ≡ true
unfolding is_normal_form
full-passes l e r =
    let own : normal_axes l.axes ≡ l.axes = ap (λ (x : LayoutModel). x.axes) (sym (normal_of_full l e)) ∙ r.normal.same_axes in
    let m : Normal l.axes = subst Normal own (normal_axes-normal l.axes e) in
    let w = reach_of l e in
    let low : pos 0 ≤ℤ lowest l = subst (λ (z : ℤ). pos 0 ≤ℤ z) w.low (r.within w.low_at w.low_is).0 in
    let high : highest l ≤ℤ pos most_signed = subst (λ (z : ℤ). z ≤ℤ pos most_signed) w.high (r.within w.high_at w.high_is).1 in
    let low_tested : le_z (pos 0) (lowest l) ≡ true = grind (arith, ints, low) in
    let high-tested : le_z (highest l) (pos most_signed) ≡ true = grind (arith, ints, high) in
    rw (normal_merged m, r.few, low_tested, high-tested) (or-true (is_empty_form l))

pub normal_tested : (l : LayoutModel) → (is_normal_form l ≡ true) ↔ NormalRecord l
unfolding is_normal_form
normal_tested l = (λ e. forth (is_empty_form l) refl e, back (is_empty l.axes) refl)
  where
    forth : (t : Bool) → is_empty_form l ≡ t → (t || merged_test l) ≡ true → NormalRecord l
    forth true q e = empty-record l.buffer (empty-tested l.buffer l.offset l.axes q)
    forth false q e = merged-record l e

    back : (t : Bool) → is_empty l.axes ≡ t → NormalRecord l → is_normal_form l ≡ true
    back true e r =
        let n = normal-of-empty l e in
        empty-passes l.buffer (record {
          offset_zero = sym r.normal.same_offset ∙ ap (λ (x : LayoutModel). x.offset) n;
          one_axis = sym r.normal.same_axes ∙ ap (λ (x : LayoutModel). x.axes) n;
        })
    back false e r = full-passes l e r
