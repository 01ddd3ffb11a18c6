-- The axes after a view in the first places of an array are those of the view, and what a view answers.
use mathlib.Core.Path.{◌≡◌, sym, ap, ◌∙◌}
use mathlib.Core.List.{List, ◌++◌, map}
use Prim.Native.Nat.{ℕ, ◌≤◌, ◌<◌}
use native.Mathlib.Omega.{arith}
use lib.IntN.{pos}
use lib.ListN.{length, take, get_or, length-map, length-append, get_or-append}
use lib.Seq.{ext_get_or, length-take-le}
use Rattle.std.proofs.lemmas.List.{get_or-map, take-append-le, take_all}
use Rattle.view.proofs.TableLaws.{get_or-table}
use Rattle.specification.specs.Axis.{Axis}
use Rattle.specification.specs.Layout.{LayoutModel}
use Rattle.specification.specs.Outcome.{refused, pass}
use Rattle.specification.specs.Views.{with_axes, axis_at, unless_refused, permute, spread, broadcast}
use Rattle.view.specs.Model.{first_axes}
use Rattle.view.specs.Refusals.{AllBelow, permute_refusal, broadcast_refusal}
use Rattle.view.proofs.AxesLaws.{first_axes_take, length_first_axes}
use Rattle.view.proofs.TargetLaws.{length-spread}

pub permute_refused : (l : LayoutModel) (order : List ℕ) (number : ℕ) (values : List ℕ) → permute_refusal l order ≡ refused number values
    → permute l order ≡ record { answer = refused number values; layout = l }
unfolding permute unless_refused
permute_refused l order number values e = rw e

pub permute_done : (l : LayoutModel) (order : List ℕ) → permute_refusal l order ≡ pass
    → permute l order ≡ record { answer = pass; layout = with_axes l (map (axis_at l.axes) order) }
unfolding permute unless_refused
permute_done l order e = rw e

pub broadcast_refused : (l : LayoutModel) (targets : List ℕ) (number : ℕ) (values : List ℕ) → broadcast_refusal l targets ≡ refused number values
    → broadcast l targets ≡ record { answer = refused number values; layout = l }
unfolding broadcast unless_refused
broadcast_refused l targets number values e = rw e

pub broadcast_done : (l : LayoutModel) (targets : List ℕ) → broadcast_refusal l targets ≡ pass
    → broadcast l targets ≡ record { answer = pass; layout = with_axes l (spread l.axes targets) }
unfolding broadcast unless_refused
broadcast_done l targets e = rw e

-- axes reordered in the first places
pub first_axes_order : (axes rest : List Axis) (n : ℕ) (order : List ℕ) → length order ≡ n → AllBelow n order
    → first_axes (map (axis_at axes) order ++ rest) n ≡ map (axis_at (first_axes axes n)) order
first_axes_order axes rest n order e below =
    ext_get_or d (first_axes after n) (map (axis_at (first_axes axes n)) order)
    (length_first_axes after n ∙ sym (length-map order (axis_at (first_axes axes n)) ∙ e))
    (λ i h.
    let k : i < n = omega (arith, length_first_axes after n) in
    let j : i < length order = omega (arith, e) in
    get_or-table (axis_at after) n i d k
    ∙ get_or-append (map (axis_at axes) order) rest d i (omega (arith, length-map order (axis_at axes)))
    ∙ get_or-map (axis_at axes) order i 0 d j
    ∙ sym (get_or-map (axis_at (first_axes axes n)) order i 0 d j ∙ get_or-table (axis_at axes) n (get_or order i 0) d (below i j)))
  where
    d : Axis
    d = record { extent = 0; stride = pos 0 }

    after : List Axis
    after = map (axis_at axes) order ++ rest

-- ---- a broadcast

-- axes stretched in the first places
pub first_axes_spread : (axes rest : List Axis) (n : ℕ) (targets : List ℕ) → length targets ≡ n → n ≤ length axes
    → first_axes (spread (take n axes) targets ++ rest) n ≡ spread (first_axes axes n) targets
first_axes_spread axes rest n targets e h =
    let t : length (take n axes) ≡ n = length-take-le n axes h in
    let s : length (spread (take n axes) targets) ≡ n = length-spread (take n axes) targets (omega arith) ∙ e in
    first_axes_take (spread (take n axes) targets ++ rest) n (omega (arith, s, length-append (spread (take n axes) targets) rest))
    ∙ take-append-le n (spread (take n axes) targets) rest (omega (arith, s))
    ∙ take_all n (spread (take n axes) targets) (omega (arith, s))
    ∙ ap (λ (m : List Axis). spread m targets) (sym (first_axes_take axes n h))

-- the layout with its first k axes stretched, where k is its rank
pub stretched_told : (l : LayoutModel) (axes : List Axis) (n k : ℕ) (targets : List ℕ) (front rest : List Axis) → l.axes ≡ first_axes axes n → length targets ≡ k → k ≡ n → n ≤ length axes
    → front ≡ spread (take k axes) targets → broadcast_refusal l targets ≡ pass → record { answer = pass; layout = with_axes l (first_axes (front ++ rest) n) } ≡ broadcast l targets
stretched_told l axes n k targets front rest is long ranked room e passes =
    ap (λ (m : List Axis). record { answer = pass; layout = with_axes l m })
    (ap (λ (f : List Axis). first_axes (f ++ rest) n) (e ∙ ap (λ (j : ℕ). spread (take j axes) targets) ranked)
    ∙ first_axes_spread axes rest n targets (long ∙ ranked) room ∙ ap (λ (m : List Axis). spread m targets) (sym is))
    ∙ sym (broadcast_done l targets passes)
