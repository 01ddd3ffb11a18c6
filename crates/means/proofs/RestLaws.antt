-- A layout and that of its remaining axes, as the code holds both.
use Rattle.std.proofs.Common.{◌≡◌, sym, ap, ◌∙◌, ℕ, ◌+◌, ◌-◌, ◌<◌, ◌≤◌, List, ◌++◌, length, take, drop, remove, add-one, arith}
use Rattle.std.proofs.Math.Seq.{paste}
use Rattle.std.proofs.lemmas.List.{length-drop, take-take, drop-take}
use Rattle.std.proofs.lemmas.List.Edits.{take-paste, length-paste}
use Rattle.specification.specs.Axis.{Axis}
use Rattle.specification.specs.Layout.{LayoutModel}
use Rattle.view.specs.Model.{model_of, first_axes}
use Rattle.view.specs.declared.layout.Layout.{Layout}
use Rattle.view.proofs.AxesLaws.{length_first_axes, first_axes_take}
use Rattle.means.specs.Means.{remaining}
use Rattle.means.specs.MeansClaims.{IsHeld}
use Rattle.means.proofs.AlongLaws.{length-remove}

-- the axes behind the chosen one moved to where it stood
pub closed-up : (axes : List Axis) (n axis : ℕ) → n ≤ length axes → axis < n → first_axes (paste axes axis (drop (axis + 1) axes) (n - (axis + 1))) (n - 1) ≡ remove (first_axes axes n) axis
closed-up axes n axis h k =
    let behind = drop (axis + 1) axes in
    let m : axis + (n - (axis + 1)) ≡ n - 1 = omega (arith, k) in
    let long : n - (axis + 1) ≤ length behind = omega (arith, h, length-drop (axis + 1) axes) in
    let all : n ≡ axis + 1 + (n - (axis + 1)) = omega (arith, k) in
    first_axes_take (paste axes axis behind (n - (axis + 1))) (n - 1) (omega (arith, h, length-paste axes axis behind (n - (axis + 1)) (omega (arith, h, k)) long))
    ∙ ap (λ (j : ℕ). take j (paste axes axis behind (n - (axis + 1)))) (sym m)
    ∙ take-paste axes axis behind (n - (axis + 1)) (omega (arith, h, k)) long
    ∙ ap (λ (front : List Axis). front ++ take (n - (axis + 1)) behind) (sym (take-take axis n axes (omega (arith, k))))
    ∙ ap (λ (back : List Axis). take axis (take n axes) ++ back) (sym (drop-take (axis + 1) (n - (axis + 1)) axes) ∙ ap (λ (j : ℕ). drop (axis + 1) (take j axes)) (sym all) ∙ ap (λ (j : ℕ). drop j (take n axes)) (add-one axis))
    ∙ ap (λ (first : List Axis). remove first axis) (sym (first_axes_take axes n h))

module _ (layout rest : Layout) (axis size : ℕ) (e : model_of rest ≡ remaining (model_of layout) axis) (w : IsHeld (model_of layout) axis size) where
  -- the axes that a layout of at most 16 answers
  pub all-axes : {axes : List Axis} → (layout.rank ≤ 16 → axes ≡ (model_of layout).axes) → axes ≡ (model_of layout).axes
  all-axes f = f (omega (arith, w.has_axis.accepted.few, length_first_axes layout.axes layout.rank))

  others : (model_of rest).axes ≡ remove (model_of layout).axes axis
  unfolding remaining
  others = ap (λ (l : LayoutModel). l.axes) e

  pub rest-axes : {axes : List Axis} → (rest.rank ≤ 16 → axes ≡ (model_of rest).axes) → axes ≡ remove (model_of layout).axes axis
  rest-axes f =
      f (omega (arith, w.has_axis.accepted.few, w.has_axis.in_rank, length_first_axes rest.axes rest.rank, ap length others, length-remove (model_of layout).axes axis w.has_axis.in_rank))
      ∙ others
