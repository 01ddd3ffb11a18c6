-- The classes in an array of their own, and their bounds; then in the first places of the layout's.
use Rattle.std.proofs.lemmas.Result.{err_from_is_err_and}
use Rattle.std.proofs.Common.{◌≡◌, ℕ, ◌≤◌, List, ◌++◌, length, take, sym, ap, ◌∙◌, rules}
use lib.Count.{ones}
use lib.Seq.{length-take-le}
use Rattle.specification.specs.Axis.{Axis}
use Rattle.specification.specs.CheckIn.{bounds}
use Rattle.specification.specs.Layout.{LayoutModel, rank}
use Rattle.specification.specs.Outcome.{Check, pass}
use Rattle.specification.specs.Views.{with_axes}
use Rattle.view.specs.Model.{model_of, first_axes}
use Rattle.view.specs.Ties.{roots_below, fused_axes, fused_fault}
use Rattle.view.proofs.AxesLaws.{first_axes_take, first_axes-front}
use Rattle.view.proofs.DiagonalLaws.{sum_refused, bounds_refused, none_refused}
use Rattle.view.proofs.layout.Layout.fuse_in_place.Goals as goal

-- what the first axes in the array make is what the layout's axes make
module _ {axes : List Axis} (l : LayoutModel) (roots : List ℕ) (is : l.axes ≡ axes) where
  fault-is : {c : Check} → c ≡ fused_fault axes roots (roots_below roots (length axes)) → fused_fault l.axes roots (roots_below roots (rank l)) ≡ c
  fault-is e = ap (λ (m : List Axis). fused_fault m roots (roots_below roots (length m))) is ∙ sym e

-- the first places of the classes' array
module _ {axes : List Axis} (fused : List Axis) (l : LayoutModel) (roots : List ℕ) (is : l.axes ≡ axes) {n : ℕ} (room : n ≤ length fused) (e : first_axes fused n ≡ fused_axes axes roots) where
  classes-are : take n fused ≡ fused_axes l.axes roots
  classes-are = sym (first_axes_take fused n room) ∙ e ∙ ap (λ (m : List Axis). fused_axes m roots) (sym is)

  bounds-is : {c : Check} → c ≡ bounds (with_axes l (take n fused)) → bounds (with_axes l (fused_axes l.axes roots)) ≡ c
  bounds-is b = ap (λ (m : List Axis). bounds (with_axes l m)) (sym classes-are) ∙ sym b

  stored-are : (rest : List Axis) {stored : List Axis} → stored ≡ take n fused → first_axes (stored ++ rest) n ≡ fused_axes l.axes roots
  stored-are rest {stored} s = first_axes-front stored rest n (ap length s ∙ length-take-le n fused room) ∙ s ∙ classes-are

pub returns-in_err-fuse-clause-told : goal.returns-in_err-fuse-clause-told
returns-in_err-fuse-clause-told c =
    let s = c.args.self.now in
    let is = first_axes_take s.axes s.rank (search rules) in
    let p = err_from_is_err_and c.from_residual.result c.from_residual.ensures.1 in
    rw (p.1, p.2) (sum_refused (model_of s) c.args.ties.now.roots _ _ (fault-is (model_of s) c.args.ties.now.roots is c.in_err-fuse.ensures.answer))

pub returns-in_err-bounds_refusal-clause-told : goal.returns-in_err-bounds_refusal-clause-told
returns-in_err-bounds_refusal-clause-told c =
    let s = c.args.self.now in
    let roots = c.args.ties.now.roots in
    let fused = c.fuse.new.fused in
    let n : ℕ = ones c.root_mask-mask.result in
    let is = first_axes_take s.axes s.rank (search rules) in
    let room : n ≤ length fused = search rules in
    let p = err_from_is_err_and c.from_residual-in_err-bounds_refusal.result c.from_residual-in_err-bounds_refusal.ensures.1 in
    rw (p.1, p.2) (bounds_refused (model_of s) roots (fault-is (model_of s) roots is c.in_ok-fuse.ensures.answer) _ _
    (bounds-is fused (model_of s) roots is room c.in_ok-fuse.ensures.fused c.in_err-bounds_refusal.ensures))

pub returns-clause-told : goal.returns-clause-told
returns-clause-told c =
    let s = c.args.self.now in
    let roots = c.args.ties.now.roots in
    let fused = c.fuse.new.fused in
    let n : ℕ = ones c.root_mask-mask.result in
    let is = first_axes_take s.axes s.rank (search rules) in
    let room : n ≤ length fused = search rules in
    ap (λ (m : List Axis). record { answer = pass; layout = with_axes (model_of s) m }) (stored-are fused (model_of s) roots is room c.in_ok-fuse.ensures.fused _ c.copy_from_slice.ensures.after)
    ∙ none_refused (model_of s) roots (fault-is (model_of s) roots is c.in_ok-fuse.ensures.answer)
    (bounds-is fused (model_of s) roots is room c.in_ok-fuse.ensures.fused c.in_ok-bounds_refusal.ensures)
