-- `sixteen`: the axes paired are all of them, or the first sixteen.
use Rattle.std.proofs.Common.{arith, ap, refl, sym, ◌∙◌, ◌≡◌, ◌≤◌, ◌<◌, ◌⊎◌, inl, inr, ℕ, ℤ, List, ◌++◌, length, take, drop, min}
use Rattle.std.proofs.lemmas.Bool.{cases_lt}
use Rattle.std.proofs.lemmas.List.{take_all, drop_all, append-nil, take-append-le, length-take-le, get_or-take}
use Rattle.specification.specs.Axis.{Axis, axes_of_lists}
use Rattle.specification.specs.Views.{axis_at}
use Rattle.view.specs.Model.{first_axes}
use Rattle.view.proofs.TableLaws.{table-ext}
use Rattle.view.proofs.AxesLaws.{length-axes_of_lists}
use Rattle.commands.proofs.change.sixteen.Goals as goal

-- of an array only the front is read
by_front : (n : ℕ) (places axes : List Axis) → take n places ≡ axes → first_axes places n ≡ first_axes axes n
by_front n places axes e = table-ext (axis_at places) (axis_at axes) n (λ i h. sym (get_or-take n places i _ h) ∙ ap (λ (front : List Axis). axis_at front i) e)

module _ (n : ℕ) (es : List ℕ) (ss : List ℤ) (alike : length ss ≡ length es) (front places : List Axis) where
  -- as many axes as are held
  paired : n ≤ length es → front ≡ axes_of_lists (take n es) (take n ss) → length front ≡ n
  paired few e =
      let p = length-take-le n es few in
      let q = length-take-le n ss (omega arith) in
      ap length e ∙ length-axes_of_lists (take n es) (take n ss) (p ∙ sym q) ∙ p

  by_length : (16 < length es) ⊎ (length es ≤ 16) → n ≡ min (length es) 16 → front ≡ axes_of_lists (take n es) (take n ss) → length places ≡ 16
      → take (length es) (front ++ drop n places) ≡ axes_of_lists (take 16 es) (take 16 ss)
  by_length (inl longer) held e size =
      let all : n ≡ 16 = omega arith in
      let kept = paired (omega arith) e in
      ap (λ rest. take (length es) (front ++ rest)) (drop_all n places (omega arith))
      ∙ ap (take (length es)) (append-nil front) ∙ take_all (length es) front (omega arith)
      ∙ e ∙ ap (λ k. axes_of_lists (take k es) (take k ss)) all
  by_length (inr shorter) held e size =
      let all : n ≡ length es = omega arith in
      let kept = paired (omega arith) e in
      take-append-le (length es) front (drop n places) (omega arith)
      ∙ take_all (length es) front (omega arith)
      ∙ e ∙ ap (λ xs. axes_of_lists xs (take n ss)) (take_all n es (omega arith) ∙ sym (take_all 16 es shorter))
      ∙ ap (axes_of_lists (take 16 es)) (take_all n ss (omega arith) ∙ sym (take_all 16 ss (omega arith)))

pub returns : goal.returns
returns c =
    let es = c.as_slice-extents.result.now in
    let ss = c.as_slice-strides.result.now in
    let alike : length ss ≡ length es = ap length c.as_slice-strides.ensures.value ∙ c.requires ∙ sym (ap length c.as_slice-extents.ensures.value) in
    let all : length (take c.min-held.result es) ≡ c.min-held.result = length-take-le c.min-held.result es (omega (arith, c.min-held.ensures)) in
    rw (← c.as_slice-extents.ensures.value, ← c.as_slice-strides.ensures.value, c.store.ensures, all)
    (by_front (length es) _ _ (by_length c.min-held.result es ss alike _ _ (cases_lt 16 (length es)) c.min-held.ensures refl refl))
