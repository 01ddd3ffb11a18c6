-- The test of equality decides whether two layouts mean the same.
use Rattle.std.specs.Prelude.{nat_eq}
use Rattle.std.proofs.Common.{◌≡◌, ℕ, ◌≤◌, ◌<◌, List, length, take, get_or, Bool, sym, ap, subst, ◌∙◌, arith, pos, get_or-take, ext_get_or}
use Rattle.std.specs.Bool.{Decides}
use Rattle.std.specs.Ordering.{int_eq}
use Rattle.std.specs.Cmp.Lexicographic.{pointwise_decides}
use Rattle.std.proofs.lemmas.Bool.Decides.{Decides-eqb, Decides-int_eq, Decides-and, Decides-like}
use Rattle.std.proofs.lemmas.List.{get_or_past}
use Rattle.specification.specs.Axis.{Axis}
use Rattle.specification.specs.Layout.{LayoutModel}
use Rattle.specification.specs.Views.{axis_at}
use Rattle.view.specs.declared.layout.Layout.{Layout}
use Rattle.view.specs.Equal.{same_axis, are_equal}
use Rattle.view.specs.Model.{first_axes, model_of}
use Rattle.view.proofs.TableLaws.{get_or-table, length-table}

axes_decided : (a b : Axis) → Decides (same_axis a b) (a ≡ b)
axes_decided a b = Decides-like (same_axis a b) (λ e. rw (e.0, e.1)) (λ e. (ap (λ (c : Axis). c.extent) e, ap (λ (c : Axis). c.stride) e))
    (Decides-and (nat_eq a.extent b.extent) (int_eq a.stride b.stride) (Decides-eqb a.extent b.extent) (Decides-int_eq a.stride b.stride))

-- arrays of 16 that agree in the places of the first n have the same n axes: past the sixteenth each has the axis without a place
same_front : (xs ys : List Axis) (n : ℕ) → length xs ≡ 16 → length ys ≡ 16 → take 16 (first_axes xs n) ≡ take 16 (first_axes ys n) → first_axes xs n ≡ first_axes ys n
same_front xs ys n h k e =
    let d : Axis = record { extent = 0; stride = pos 0 } in
    ext_get_or d (first_axes xs n) (first_axes ys n) (length-table (axis_at xs) n ∙ sym (length-table (axis_at ys) n))
    (λ i l.
    let b : i < n = omega (arith, length-table (axis_at xs) n) in
    let there : i < 16 → get_or (first_axes xs n) i d ≡ get_or (first_axes ys n) i d = λ s. sym (get_or-take 16 (first_axes xs n) i d s) ∙ ap (λ (m : List Axis). get_or m i d) e ∙ get_or-take 16 (first_axes ys n) i d s in
    let past : 16 ≤ i → get_or (first_axes xs n) i d ≡ get_or (first_axes ys n) i d = λ s.
    get_or-table (axis_at xs) n i d b ∙ get_or_past xs i d (omega (arith, h)) ∙ sym (get_or-table (axis_at ys) n i d b ∙ get_or_past ys i d (omega (arith, k))) in
    grind (arith, there, past))

pub equal_models : (x y : Layout) → length x.axes ≡ 16 → length y.axes ≡ 16 → Decides (are_equal x y) (model_of x ≡ model_of y)
equal_models x y h k = Decides-like (are_equal x y) (λ e. to e.0 e.1.0 e.1.1.0 e.1.1.1) from
    (Decides-and (nat_eq x.len y.len) _ (Decides-eqb x.len y.len)
    (Decides-and (int_eq x.offset.0 y.offset.0) _ (Decides-int_eq x.offset.0 y.offset.0)
    (Decides-and (nat_eq x.rank y.rank) _ (Decides-eqb x.rank y.rank)
    (pointwise_decides axes_decided (take 16 (first_axes x.axes x.rank)) (take 16 (first_axes y.axes y.rank))))))
  where
    to : x.len ≡ y.len → x.offset.0 ≡ y.offset.0 → x.rank ≡ y.rank → take 16 (first_axes x.axes x.rank) ≡ take 16 (first_axes y.axes y.rank) → model_of x ≡ model_of y
    to a b r e =
        let f : first_axes x.axes x.rank ≡ first_axes y.axes y.rank = same_front x.axes y.axes x.rank h k (e ∙ ap (λ (n : ℕ). take 16 (first_axes y.axes n)) (sym r)) ∙ ap (first_axes y.axes) r in
        rw (a, b, f)

    from : model_of x ≡ model_of y → (x.len ≡ y.len) × ((x.offset.0 ≡ y.offset.0) × ((x.rank ≡ y.rank) × (take 16 (first_axes x.axes x.rank) ≡ take 16 (first_axes y.axes y.rank))))
    from e =
        let axes : first_axes x.axes x.rank ≡ first_axes y.axes y.rank = ap (λ (l : LayoutModel). l.axes) e in
        (ap (λ (l : LayoutModel). l.buffer) e, (ap (λ (l : LayoutModel). l.offset) e, (sym (length-table (axis_at x.axes) x.rank) ∙ ap length axes ∙ length-table (axis_at y.axes) y.rank, ap (take 16) axes)))

-- the same of what the code answers
pub equal_told : (x y : Layout) (t : Bool) → length x.axes ≡ 16 → length y.axes ≡ 16 → t ≡ are_equal x y → Decides t (model_of x ≡ model_of y)
equal_told x y t h k e = subst (λ (s : Bool). Decides s (model_of x ≡ model_of y)) (sym e) (equal_models x y h k)
