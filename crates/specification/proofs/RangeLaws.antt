-- The views and the normal form keep a layout in the ranges of the machine types: the claims on ranges.
use Rattle.std.specs.List.{AllByRecursion}
use Rattle.std.specs.Prelude.{if◌then◌else◌, filter}
use mathlib.Core.Bool.{Bool, true, false, not}
use mathlib.Core.List.{List, [], ◌∷◌, map}
use mathlib.Core.Path.{◌≡◌, refl}
use Prim.Native.Nat.{ℕ, zero, suc, ◌*◌, ◌^◌, ◌<◌, ◌≤◌}
use native.Mathlib.Nat.{le-mul_of_pos_right, mul-le-mul_right}
use native.Mathlib.Omega.{arith}
use lib.Dec.{eqb, ltb}
use lib.IntN.{ℤ, pos}
use lib.ListN.{length, get_or}
use lib.Seq.{take-length}
use borrow.Author.Tests.{ltb-false}
use mir.Syntax.{w64}
use mir.Val.{SFits}
use Rattle.integer.specs.Range.{fits, most_unsigned}
use Rattle.specification.specs.Axis.{Axis, positions, product, is_empty}
use Rattle.specification.specs.Layout.{LayoutModel, rank, AxisRanges, Ranges, handed}
use Rattle.specification.specs.Views.{with_axes, axis_at, permute, pair_fault, kept, class_of, least_extent, stride_sum, members, fused, diagonal_axes, sum_faults, diagonal_view, spread, broadcast}
use Rattle.specification.specs.Normal.{continues, both, merge_into, merge, normal_axes, normal_of, overfull}
use Rattle.specification.specs.Calls.{Call, permuting, diagonal, broadcasting, after_call}
use Rattle.specification.specs.ViewRules.{SumsFit}
use Rattle.specification.specs.ViewClaims.{TargetsFit, RangeClaims}
use Rattle.specification.proofs.NormalAxes.{AllPositive, none, more, normal-is-normal, normal-positive, positions-of-normal}
use Rattle.specification.proofs.NormalLaws.{full-pos, positions-pos}
use Rattle.specification.proofs.OutcomeLaws.{passed-check}
use Rattle.specification.proofs.AcceptedLaws.{old-or-new}
use Rattle.specification.proofs.DiagonalAnswers.{sums-answers}
use Rattle.std.proofs.lemmas.Int.{ints}

fits_signed : (z : ℤ) → fits z ≡ true → SFits w64 z
fits_signed z e = grind (arith, ints)

-- an axis that stands still
still-ranges : (extent : ℕ) → extent ≤ most_unsigned → AxisRanges (record { extent = extent; stride = pos 0 })
still-ranges extent h = record { extent_fits = omega arith; stride_fits = fits_signed (pos 0) refl }

with-ranges : (l : LayoutModel) {axes : List Axis} → Ranges l → AllByRecursion AxisRanges axes → Ranges (with_axes l axes)
with-ranges l r w = record { buffer_fits = r.buffer_fits; offset_fits = r.offset_fits; axes_fit = w }

-- ---- permute

axis-ranges : (axes : List Axis) → AllByRecursion AxisRanges axes → (i : ℕ) → AxisRanges (axis_at axes i)
axis-ranges [] w i = still-ranges 0 (omega arith)
axis-ranges (a ∷ rest) w zero = w.0
axis-ranges (a ∷ rest) w (suc i) = axis-ranges rest w.1 i

ordered-ranges : (axes : List Axis) → AllByRecursion AxisRanges axes → (order : List ℕ) → AllByRecursion AxisRanges (map (axis_at axes) order)
ordered-ranges axes w [] = tt
ordered-ranges axes w (i ∷ order) = (axis-ranges axes w i, ordered-ranges axes w order)

permute-ranges : (l : LayoutModel) (order : List ℕ) → Ranges l → Ranges (permute l order).layout
unfolding permute
permute-ranges l order r = old-or-new Ranges l _ _ r (λ e. with-ranges l r (ordered-ranges l.axes r.axes_fit order))

-- ---- diagonal_view

-- the least extent is one of the extents, or 0
least-ranges : (axes : List Axis) → AllByRecursion AxisRanges axes → least_extent axes < 2 ^ 64
unfolding least_extent
least-ranges [] w = omega arith
least-ranges (a ∷ []) w = w.0.extent_fits
least-ranges (a ∷ b ∷ rest) w = let h : a.extent < 2 ^ 64 = w.0.extent_fits in omega arith

module _ (l : LayoutModel) (pairs : List (ℕ × ℕ)) (r : Ranges l) where
  fused-ranges : (a : ℕ) → SumsFit l pairs a → AxisRanges (fused l pairs a)
  unfolding fused
  fused-ranges a s = record {
    extent_fits = least-ranges (members l pairs a) (ordered-ranges l.axes r.axes_fit (class_of pairs (rank l) a));
    stride_fits = fits_signed (stride_sum (pos 0) (members l pairs a)) (rw take-length at (s (length (members l pairs a))));
  }

  classes-ranges : (roots : List ℕ) → ((p : ℕ) → p < length roots → SumsFit l pairs (get_or roots p 0)) → AllByRecursion AxisRanges (map (fused l pairs) roots)
  classes-ranges [] f = tt
  classes-ranges (a ∷ roots) f = (fused-ranges a (f 0 (omega arith)), classes-ranges roots (λ p h. f (suc p) (omega arith)))

  diagonal-ranges : Ranges (diagonal_view l pairs).layout
  unfolding diagonal_view diagonal_axes
  diagonal-ranges = old-or-new Ranges l _ _ r (λ e.
      let p = passed-check (handed l 0) e in
      let q = passed-check (pair_fault (rank l) pairs) p.1 in
      let s = passed-check (sum_faults l pairs (kept pairs (rank l))) q.1 in
      with-ranges l r (classes-ranges (kept pairs (rank l)) ((sums-answers l pairs).passes.0 s.0)))

-- ---- broadcast

spread-ranges : (axes : List Axis) (targets : List ℕ) → AllByRecursion AxisRanges axes → ((i : ℕ) → get_or targets i 0 ≤ most_unsigned) → AllByRecursion AxisRanges (spread axes targets)
unfolding spread
spread-ranges [] targets w f = tt
spread-ranges (a ∷ rest) [] w f = tt
spread-ranges (a ∷ rest) (t ∷ targets) w f = (one (eqb a.extent t), spread-ranges rest targets w.1 (λ i. f (suc i)))
  where
    one : (u : Bool) → AxisRanges (if u then a else record { extent = t; stride = pos 0 })
    one true = w.0
    one false = still-ranges t (f 0)

broadcast-ranges : (l : LayoutModel) (targets : List ℕ) → ((i : ℕ) → get_or targets i 0 ≤ most_unsigned) → Ranges l → Ranges (broadcast l targets).layout
unfolding broadcast
broadcast-ranges l targets f r = old-or-new Ranges l _ _ r (λ e. with-ranges l r (spread-ranges l.axes targets r.axes_fit f))

view_ranges : (l : LayoutModel) (c : Call) → TargetsFit c → Ranges l → Ranges (after_call l c).layout
unfolding after_call
view_ranges l (permuting order) f r = permute-ranges l order r
view_ranges l (diagonal pairs) f r = diagonal-ranges l pairs r
view_ranges l (broadcasting targets) f r = broadcast-ranges l targets f r

-- ---- the normal form: its strides are strides of the layout, its extents are factors of the positions

abbrev StridesFit : List Axis → Type 0
StridesFit [] = Unit {0}
StridesFit (a ∷ rest) = SFits w64 a.stride × StridesFit rest

strides-of : (axes : List Axis) → AllByRecursion AxisRanges axes → StridesFit axes
strides-of [] w = tt
strides-of (a ∷ rest) w = (w.0.stride_fits, strides-of rest w.1)

filter-strides : (test : Axis → Bool) (axes : List Axis) → StridesFit axes → StridesFit (filter test axes)
filter-strides test [] w = tt
filter-strides test (a ∷ rest) w = go (test a) (filter-strides test rest w.1)
  where
    go : (t : Bool) → StridesFit (filter test rest) → StridesFit (if t then a ∷ filter test rest else filter test rest)
    go true v = (w.0, v)
    go false v = v

merge-strides : (axes : List Axis) → StridesFit axes → StridesFit (merge axes)
unfolding merge merge_into
merge-strides [] w = tt
merge-strides (a ∷ rest) w = into (merge rest) (merge-strides rest w.1)
  where
    into : (merged : List Axis) → StridesFit merged → StridesFit (merge_into a merged)
    into [] v = (w.0, tt)
    into (b ∷ merged) v = go (continues a b)
      where
        go : (t : Bool) → StridesFit (if t then both a b ∷ merged else a ∷ b ∷ merged)
        go true = (w.0, v.1)
        go false = (w.0, v)

-- no extent exceeds the number of positions
counted-ranges : {axes : List Axis} → AllPositive axes → StridesFit axes → positions axes ≤ most_unsigned → AllByRecursion AxisRanges axes
unfolding product
counted-ranges none w h = tt
counted-ranges (more {a} {r} p t) w h =
    let x : a.extent ≤ a.extent * positions r = le-mul_of_pos_right a.extent (positions-pos t) in
    let y : positions r ≤ a.extent * positions r = omega (arith, mul-le-mul_right (positions r) p) in
    (record { extent_fits = omega arith; stride_fits = w.0 }, counted-ranges t w.1 (omega arith))

normal_ranges : (l : LayoutModel) → Ranges l → overfull l.axes ≡ false → Ranges (normal_of l)
unfolding normal_of normal_axes overfull
normal_ranges l r o = go (is_empty l.axes) refl o
  where
    strides : StridesFit (normal_axes l.axes)
    strides = merge-strides (filter (λ a. not (eqb a.extent 1)) l.axes) (filter-strides (λ a. not (eqb a.extent 1)) l.axes (strides-of l.axes r.axes_fit))

    go : (t : Bool) → is_empty l.axes ≡ t → (if t then false else ltb most_unsigned (positions l.axes)) ≡ false
        → Ranges (if t then record { buffer = l.buffer; offset = pos 0; axes = record { extent = 0; stride = pos 0 } ∷ [] } else with_axes l (normal_axes l.axes))
    go true e o = record { buffer_fits = r.buffer_fits; offset_fits = fits_signed (pos 0) refl; axes_fit = (still-ranges 0 (omega arith), tt) }
    go false e o = with-ranges l r (counted-ranges (normal-positive (normal-is-normal (full-pos l.axes e))) strides
        (omega (arith, ltb-false most_unsigned (positions l.axes) o, positions-of-normal l.axes)))

pub range_claims : RangeClaims
range_claims = record { view_ranges = view_ranges; normal_ranges = normal_ranges }
