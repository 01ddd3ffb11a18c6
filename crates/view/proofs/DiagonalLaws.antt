-- diagonal_view by its pairs is the view by the roots that they leave; and which rule refuses.
use mathlib.Core.Path.{◌≡◌, sym, ap, ◌∙◌}
use mathlib.Core.List.{List, map}
use Prim.Native.Nat.{ℕ, ◌≤◌}
use native.Mathlib.Omega.{arith}
use lib.IntN.{pos}
use borrow.Author.Tests.{eqb-true}
use Rattle.specification.specs.Axis.{Axis}
use Rattle.specification.specs.Layout.{LayoutModel, rank, handed}
use Rattle.specification.specs.Outcome.{Check, refused, pass, ◌>>◌}
use Rattle.specification.specs.CheckIn.{bounds}
use Rattle.specification.specs.Views.{unless_refused, with_axes, axis_at, pair_fault, kept, least_extent, stride_sum, members, fused, diagonal_axes, sum_faults, diagonal_view}
use Rattle.view.specs.Model.{model_of}
use Rattle.view.specs.declared.layout.Layout.{Layout}
use Rattle.view.specs.Ties.{root_at, is_root, own_roots, joined_all, rooted_at, roots_below, fused_at, fused_axes, fused_fault, fused_view}
use Rattle.view.proofs.RangeLaws.{passing, map-passing}
use Rattle.view.proofs.TieLaws.{RootsOf, roots-of}
use Rattle.view.proofs.ClassLaws.{class-of-root, kept-are-roots}
use Rattle.view.proofs.StrideSumLaws.{faults-same}
use Rattle.view.proofs.ListedLaws.{rank_model_of}

module _ (l : LayoutModel) (pairs : List (ℕ × ℕ)) (few : rank l ≤ 16) (none : pair_fault (rank l) pairs ≡ pass) where
  abbrev roots : List ℕ
  roots = joined_all own_roots pairs

  abbrev of : RootsOf pairs roots
  of = roots-of (rank l) pairs few none

  members-are : (r : ℕ) → root_at roots r ≡ r → members l pairs r ≡ rooted_at l.axes roots r
  unfolding passing
  members-are r own = ap (map (axis_at l.axes)) (class-of-root few of r own)

  sums-are : sum_faults l pairs (kept pairs (rank l)) ≡ fused_fault l.axes roots (roots_below roots (rank l))
  unfolding passing
  sums-are = rw (kept-are-roots few of) (faults-same l pairs roots (is_root roots) (rank l) (λ r h e. members-are r (eqb-true (root_at roots r) r e)))

  axes-are : diagonal_axes l pairs ≡ fused_axes l.axes roots
  unfolding diagonal_axes fused passing
  axes-are =
      rw (kept-are-roots few of)
      (map-passing (is_root roots) (fused l pairs) (fused_at l.axes roots) (rank l) (λ r h e.
      ap (λ (m : List Axis). record { extent = least_extent m; stride = stride_sum (pos 0) m }) (members-are r (eqb-true (root_at roots r) r e))))

  -- if neither the layout nor a pair is refused
  pub by-roots : handed l 0 ≡ pass → fused_view l roots ≡ diagonal_view l pairs
  unfolding fused_view diagonal_view ◌>>◌
  by-roots first = rw (first, none, sums-are, axes-are)

-- ---- the answer of a layout, by the rule that refuses

module _ (s : Layout) (pairs : List (ℕ × ℕ)) where
  abbrev l : LayoutModel
  l = model_of s

  faults : {c : Check} → c ≡ pair_fault s.rank pairs → pair_fault (rank l) pairs ≡ c
  faults e = ap (λ (n : ℕ). pair_fault n pairs) (rank_model_of s) ∙ sym e

  pub diagonal_handed : (number : ℕ) (values : List ℕ) → refused number values ≡ handed l 0 → record { answer = refused number values; layout = l } ≡ diagonal_view l pairs
  unfolding diagonal_view unless_refused ◌>>◌
  diagonal_handed number values e = rw (← e)

  module _ (first : pass ≡ handed l 0) where
    pub diagonal_paired : (number : ℕ) (values : List ℕ) → refused number values ≡ pair_fault s.rank pairs → record { answer = refused number values; layout = l } ≡ diagonal_view l pairs
    unfolding diagonal_view unless_refused ◌>>◌
    diagonal_paired number values e = rw (← first, faults e)

    pub diagonal_fused : s.rank ≤ 16 → pass ≡ pair_fault s.rank pairs → fused_view l (joined_all own_roots pairs) ≡ diagonal_view l pairs
    diagonal_fused few e = by-roots l pairs (omega (arith, rank_model_of s)) (faults e) (sym first)

-- ---- the view by roots

module _ (l : LayoutModel) (roots : List ℕ) where
  pub sum_refused : (number : ℕ) (values : List ℕ) → fused_fault l.axes roots (roots_below roots (rank l)) ≡ refused number values
      → record { answer = refused number values; layout = l } ≡ fused_view l roots
  unfolding fused_view unless_refused ◌>>◌
  sum_refused number values e = rw e

  module _ (fits : fused_fault l.axes roots (roots_below roots (rank l)) ≡ pass) where
    pub bounds_refused : (number : ℕ) (values : List ℕ) → bounds (with_axes l (fused_axes l.axes roots)) ≡ refused number values
        → record { answer = refused number values; layout = l } ≡ fused_view l roots
    unfolding fused_view unless_refused ◌>>◌
    bounds_refused number values e = rw (fits, e)

    pub none_refused : bounds (with_axes l (fused_axes l.axes roots)) ≡ pass → record { answer = pass; layout = with_axes l (fused_axes l.axes roots) } ≡ fused_view l roots
    unfolding fused_view unless_refused ◌>>◌
    none_refused e = rw (fits, e)
