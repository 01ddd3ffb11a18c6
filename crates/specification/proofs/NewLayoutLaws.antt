-- What each view answers with if it passes: the claims on the new layout.
use Rattle.std.specs.Prelude.{if◌then◌else◌}
use mathlib.Core.List.{List, [], ◌∷◌, map}
use mathlib.Core.Path.{◌≡◌, refl, ap, ap₂, ◌∙◌}
use Prim.Native.Nat.{ℕ, zero, suc, ◌<◌}
use native.Mathlib.Omega.{arith}
use lib.Dec.{eqb}
use lib.IntN.{pos}
use lib.ListN.{length, get_or, length-map}
use borrow.Author.Tests.{eq-eqb, ne_eqb}
use Rattle.specification.specs.Axis.{Axis, extents}
use Rattle.specification.specs.Outcome.{Check, pass}
use Rattle.specification.specs.Layout.{LayoutModel, rank}
use Rattle.specification.specs.Tied.{IsTied, itself}
use Rattle.specification.specs.Views.{unless_refused, axis_at, permute, class_of, kept, place_of, least_extent, members, fused, diagonal_axes, diagonal_view, spread, broadcast}
use Rattle.specification.specs.ViewRules.{Permutes, Fuses, Broadcasts}
use Rattle.specification.specs.ViewClaims.{IsPermuted, IsStretched, FusedAxis, Diagonal, NewLayoutClaims}
use Rattle.specification.proofs.ViewLaws.{settled}
use Rattle.specification.proofs.PermuteAnswers.{permute-answers}
use Rattle.specification.proofs.DiagonalAnswers.{diagonal-answers}
use Rattle.specification.proofs.BroadcastAnswers.{broadcast-answers}
use Rattle.specification.proofs.ClassLaws.{least-at-most, least_is_one, tied_at, at-tied, kept_at}
use Rattle.std.proofs.lemmas.Int.{ints}

-- what holds of the new layout holds of the layout after a view that passes
of-new : (P : LayoutModel → Type 0) (l new : LayoutModel) (c : Check) → (unless_refused l c new).answer ≡ pass → P new → P (unless_refused l c new).layout
of-new P l new c e p = rw (settled l new c e).becomes p

axis-of-map : (axis : ℕ → Axis) (list : List ℕ) (i : ℕ) → i < length list → axis_at (map axis list) i ≡ axis (get_or list i 0)
axis-of-map axis [] i h = absurd (omega arith)
axis-of-map axis (a ∷ rest) zero h = refl
axis-of-map axis (a ∷ rest) (suc i) h = axis-of-map axis rest i (omega arith)

-- ---- permute

permuted : (l : LayoutModel) (order : List ℕ) → Permutes l order → IsPermuted l order (permute l order).layout
unfolding permute
permuted l order p = of-new (IsPermuted l order) l _ _ ((permute-answers l order).passes.1 p) (record {
  same_buffer = refl;
  same_offset = refl;
  same_rank = length-map order (axis_at l.axes) ∙ p.as_many;
  axis_is = λ i h. axis-of-map (axis_at l.axes) order i (omega (arith, p.as_many));
})

-- ---- broadcast

-- one axis of a broadcast
abbrev stretched_axis : Axis → ℕ → Axis
stretched_axis a target = if eqb a.extent target then a else record { extent = target; stride = pos 0 }

stretched-extent : (a : Axis) (target : ℕ) → (stretched_axis a target).extent ≡ target
stretched-extent a target = grind (arith, ints)

spread-extents : (axes : List Axis) (targets : List ℕ) → length targets ≡ length axes → extents (spread axes targets) ≡ targets
unfolding spread
spread-extents [] [] h = refl
spread-extents [] (t ∷ targets) h = absurd (omega arith)
spread-extents (a ∷ rest) [] h = absurd (omega arith)
spread-extents (a ∷ rest) (t ∷ targets) h = ap₂ (λ (e : ℕ) (es : List ℕ). e ∷ es) (stretched-extent a t) (spread-extents rest targets (omega arith))

spread_at : (axes : List Axis) (targets : List ℕ) → length targets ≡ length axes → (i : ℕ) → i < length axes → axis_at (spread axes targets) i ≡ stretched_axis (axis_at axes i) (get_or targets i 0)
unfolding spread
spread_at [] targets h i k = absurd (omega arith)
spread_at (a ∷ rest) [] h i k = absurd (omega arith)
spread_at (a ∷ rest) (t ∷ targets) h zero k = refl
spread_at (a ∷ rest) (t ∷ targets) h (suc i) k = spread_at rest targets (omega arith) i (omega arith)

stretched : (l : LayoutModel) (targets : List ℕ) → Broadcasts l targets → IsStretched l targets (broadcast l targets).layout
unfolding broadcast
stretched l targets b = of-new (IsStretched l targets) l _ _ ((broadcast-answers l targets).passes.1 b) (record {
  same_buffer = refl;
  same_offset = refl;
  extents_are = spread-extents l.axes targets b.as_many;
  kept_stride = λ i h e. rw (spread_at l.axes targets b.as_many i h, eq-eqb (axis_at l.axes i).extent (get_or targets i 0) e);
  still_stride = λ i h f. rw (spread_at l.axes targets b.as_many i h, ne_eqb (axis_at l.axes i).extent (get_or targets i 0) f);
})

-- ---- diagonal_view

module _ (l : LayoutModel) (pairs : List (ℕ × ℕ)) (a : ℕ) where
  -- an axis of the class that has its least extent
  least-one : a < rank l → (p : ℕ) × (p < length (class_of pairs (rank l) a)) × (least_extent (members l pairs a) ≡ (axis_at l.axes (get_or (class_of pairs (rank l) a) p 0)).extent)
  least-one h = go (class_of pairs (rank l) a) (tied_at pairs (rank l) a a h itself).place_lt
    where
      go : {p : ℕ} (list : List ℕ) → p < length list → (p : ℕ) × (p < length list) × (least_extent (map (axis_at l.axes) list) ≡ (axis_at l.axes (get_or list p 0)).extent)
      go [] k = absurd (omega arith)
      go (b ∷ list) k = least_is_one (axis_at l.axes) b list

  fused-axis : a < rank l → FusedAxis l pairs a (fused l pairs a)
  unfolding fused
  fused-axis h =
      let w = least-one h in
      let t = at-tied pairs (rank l) a w.0 w.1 in
      record {
        at_most = λ b k e. let s = tied_at pairs (rank l) a b k e in rw s.entry_is at (least-at-most (axis_at l.axes) (class_of pairs (rank l) a) _ s.place_lt);
        one = get_or (class_of pairs (rank l) a) w.0 0;
        one_in_rank = t.0;
        one_tied = t.1;
        one_is = w.2;
        sum_is = refl;
      }

  -- the axis at the place of a class
  placed-axis : a < rank l → ((b : ℕ) → b < a → ¬ (IsTied pairs a b)) → axis_at (diagonal_axes l pairs) (place_of pairs (rank l) a) ≡ fused l pairs a
  unfolding diagonal_axes
  placed-axis h f =
      let k = kept_at pairs (rank l) a h f in
      axis-of-map (fused l pairs) (kept pairs (rank l)) (place_of pairs (rank l) a) k.place_lt ∙ ap (fused l pairs) k.entry_is

diagonal_is : (l : LayoutModel) (pairs : List (ℕ × ℕ)) → Fuses l pairs → Diagonal l pairs (diagonal_view l pairs).layout
unfolding diagonal_view diagonal_axes
diagonal_is l pairs f = of-new (Diagonal l pairs) l _ _ ((diagonal-answers l pairs).passes.1 f) (record {
  same_buffer = refl;
  same_offset = refl;
  rank_is = as_many;
  class_is = λ a h g. (rw as_many (kept_at pairs (rank l) a h g).place_lt, rw (placed-axis l pairs a h g) (fused-axis l pairs a h));
})
  where
    as_many : length (diagonal_axes l pairs) ≡ length (kept pairs (rank l))
    as_many = length-map (kept pairs (rank l)) (fused l pairs)

pub new_layout_claims : NewLayoutClaims
new_layout_claims = record { permuted = permuted; diagonal_is = diagonal_is; stretched = stretched }
