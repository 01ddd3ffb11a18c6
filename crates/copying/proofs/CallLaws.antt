-- The call by what is refused before the verdict, and by the verdict.
use Rattle.std.specs.Prelude.{Bool, true, false, List, ℕ, ◌≡◌, ◌<◌, ◌≤◌, ℤ, if◌then◌else◌}
use native.Mathlib.Omega.{arith}
use Rattle.std.proofs.lemmas.Int.{ints}
use mathlib.Core.Path.{refl, sym}
use Rattle.specification.specs.Outcome.{Check, refused, pass, ◌>>◌}
use Rattle.specification.specs.Axis.{positions, is_empty}
use Rattle.specification.specs.Layout.{LayoutModel, rank, lowest, highest}
use Rattle.specification.specs.Readings.{cell_at}
use Rattle.specification.proofs.NormalLaws.{empty-none, full-pos, positions-pos}
use Rattle.view.specs.Reach.{none, ends}
use Rattle.view.specs.Readings.{layout_ends}
use Rattle.specification.specs.Verdict.{judge, freed_by}
use Rattle.copying.specs.Copy.{copy_handed, distinct_judged, copy_refusal, copy_frees, copies, copy_after}
use Rattle.copying.specs.CopyClaims.{IsSuited}
use Rattle.copying.proofs.CopyHanded.{handed-answers}

module _ (s d : LayoutModel) (readings room words : ℕ) where
  pub refused_before : {n : ℕ} {vs : List ℕ} → refused n vs ≡ copy_handed s d readings room → refused n vs ≡ copy_refusal s d readings room words
  unfolding copy_refusal ◌>>◌
  refused_before e = rw (← e) refl

  pub free_before : {n : ℕ} {vs : List ℕ} → refused n vs ≡ copy_handed s d readings room → copy_frees s d readings room words ≡ 0
  unfolding copy_frees freed_by ◌>>◌
  free_before e = rw (← e) refl

  module _ (handed : pass ≡ copy_handed s d readings room) where
    pub suited : IsSuited s d readings room
    suited = (handed-answers s d readings room).passes.0 (sym handed)

    pub few : rank d ≤ 16
    few = suited.paired.destination_accepted.few

    pub free_after : copy_frees s d readings room words ≡ freed_by (judge d.axes words)
    unfolding copy_frees ◌>>◌
    free_after = rw (← handed) refl

    pub then_judged : {c : Check} → c ≡ distinct_judged d words → c ≡ copy_refusal s d readings room words
    unfolding copy_refusal ◌>>◌
    then_judged e = rw (← handed) e

-- ---- the reach that is handed on

module _ (d : LayoutModel) where
  -- no position: nothing is copied
  pub none_copied : (s : LayoutModel) (from to : List ℤ) → none ≡ layout_ends d → to ≡ copy_after pass s d from to
  unfolding copy_after copies
  none_copied s from to e = go (is_empty d.axes) refl e
    where
      go : (t : Bool) → is_empty d.axes ≡ t → none ≡ (if t then none else ends (lowest d) (highest d)) → to ≡ copies (cell_at s) (cell_at d) from (positions d.axes) to
      go true f q = rw (empty-none d.axes f) refl
      go false f q = grind (arith, ints, q)

  pub some_position : {low high : ℤ} → ends low high ≡ layout_ends d → 0 < positions d.axes
  some_position {low} {high} e = go (is_empty d.axes) refl e
    where
      go : (t : Bool) → is_empty d.axes ≡ t → ends low high ≡ (if t then none else ends (lowest d) (highest d)) → 0 < positions d.axes
      go true f q = grind (arith, ints, q)
      go false f q = positions-pos (full-pos d.axes f)
