-- What `means_hold` promises, of means that were written.
use Rattle.std.specs.Prelude.{List, ℕ, ℤ, ◌≡◌, ◌<◌, length, slice_get, pos, Result, Ok, Err, IsOk, IfOk}
use native.Mathlib.Omega.{arith}
use mathlib.Core.Path.{refl, sym, ap, ◌∙◌}
use Rattle.specification.specs.Layout.{LayoutModel}
use Rattle.specification.specs.Outcome.{done}
use Rattle.specification.proofs.OutcomeLaws.{clash}
use Rattle.view.specs.Answers.{outcome_of}
use Rattle.view.specs.declared.layout.Refusal.{Refusal}
use Rattle.means.specs.Means.{extent_along, mean_at, means_of, means_after}
use Rattle.means.specs.MeansClaims.{MeansClaims, MeansWritten, IsPositionAlong}
use Rattle.callers.specs.Faces.{StandsAt}

module _ (m : MeansClaims) (l : LayoutModel) (axis count : ℕ) (readings before after : List ℤ) (e : means_of l axis (length readings) (length before) ≡ done count) (w : after ≡ means_after (done count) l axis readings before) where
  written : MeansWritten l axis (length readings) (length before) count
  written = (m.passes l axis (length readings) (length before) count).0 e

  placed : (k i : ℕ) → k < count → i < extent_along l axis → (position : ℕ) × IsPositionAlong l axis k i position
  placed k i h b = m.along l axis k i written.held.has_axis.in_rank (omega (arith, h, written.count_is)) b

  pub stands-at : (k : ℕ) → k < count → StandsAt l axis readings after k
  unfolding mean_at
  stands-at k h = record {
    mean = mean_at l axis readings k;
    there = ap (λ (out : List ℤ). slice_get out k) w ∙ m.written l axis count k readings before e h;
    nearest = m.nearest _ _ written.some_along;
    read = λ i b. let p = placed k i h b in (p.0, p.1.is_position, (m.in_buffer l axis count k i p.0 (length before) readings e p.1).1);
    between = λ low high all. m.between l axis k readings low high written.some_along (λ i b.
        let p = placed k i h b in
        let q = m.in_buffer l axis count k i p.0 (length before) readings e p.1 in
        rw q.1 (all _ (pos 0) q.0));
  }

-- ---- by what was answered

module _ (m : MeansClaims) (l : LayoutModel) (axis : ℕ) (readings before : List ℤ) where
  pub stand-all : (r : Result ℕ Refusal) {after : List ℤ} → outcome_of r ≡ means_of l axis (length readings) (length before) → after ≡ means_after (outcome_of r) l axis readings before
      → IfOk r (λ count. (k : ℕ) → k < count → StandsAt l axis readings after k)
  stand-all (Ok count) {after} a w = stands-at m l axis count readings before after (sym a) w
  stand-all (Err why) a w = tt

  pub counted : (r : Result ℕ Refusal) → outcome_of r ≡ means_of l axis (length readings) (length before) → IfOk r (λ count. MeansWritten l axis (length readings) (length before) count)
  counted (Ok count) a = (m.passes l axis (length readings) (length before) count).0 (sym a)
  counted (Err why) a = tt

  pub meant : (r : Result ℕ Refusal) → outcome_of r ≡ means_of l axis (length readings) (length before) → (count : ℕ) → MeansWritten l axis (length readings) (length before) count → IsOk r
  meant (Ok count) a n w = refl
  meant (Err why) a n w = absurd (clash (sym (a ∙ (m.passes l axis (length readings) (length before) n).1 w)))
