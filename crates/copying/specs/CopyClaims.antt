-- Claims on copying: each refusal exactly if it is due, each position's reading at its place, every other reading as it was.
-- RULES, "Copying".
use Rattle.std.specs.Prelude.{List, [], ◌∷◌, ◌≢◌, ◌⊎◌, ◌↔◌, ◌≡◌, ℕ, ◌<◌, ℤ, pos, length, slice_get, IsTrue, IsFalse, Some}
use Rattle.specification.specs.Axis.{extents, positions, index_at, SharesOffset}
use Rattle.specification.specs.Outcome.{done, refused, pass}
use Rattle.specification.specs.Layout.{LayoutModel, offset_at, IsAccepted}
use Rattle.specification.specs.Normal.{overfull}
use Rattle.specification.specs.Verdict.{Judged, Distinct, judge, words_needed}
use Rattle.specification.specs.Readings.{cell_at, reading_at, IsTooShort, HandedBothRefused}
use Rattle.copying.specs.Copy.{copy_refusal, copy_frees, copy_after}

-- what 1, 3 and 12 let pass
pub record IsPaired (s d : LayoutModel) : Type 0 where
  pub source_accepted : IsAccepted s
  pub destination_accepted : IsAccepted d
  pub same_extents : extents s.axes ≡ extents d.axes

-- what 13 lets pass too
pub record IsSuited (s d : LayoutModel) (readings room : ℕ) : Type 0 where
  pub paired : IsPaired s d
  pub source_held : ¬ (IsTooShort s readings)
  pub destination_held : ¬ (IsTooShort d room)

-- the verdict on the axes of d is Distinct
pub record IsJudgedDistinct (d : LayoutModel) (words : ℕ) : Type 0 where
  pub judged : Judged
  pub judged_is : judge d.axes words ≡ done judged
  pub distinct : judged.answer ≡ Distinct

-- how a copy is refused: each rule with what passed before it
pub data CopyRefused (s d : LayoutModel) (readings room words : ℕ) : ℕ → List ℕ → Type 0 where
  handed_in : {number : ℕ} {values : List ℕ} → HandedBothRefused s d number values → CopyRefused s d readings room words number values
  extents_differ : IsAccepted s → IsAccepted d → extents s.axes ≢ extents d.axes → CopyRefused s d readings room words 12 []
  buffer_short : IsPaired s d → IsTooShort s readings ⊎ IsTooShort d room → CopyRefused s d readings room words 13 []
  too_full : IsSuited s d readings room → IsTrue (overfull d.axes) → CopyRefused s d readings room words 8 []
  scratch_short : IsSuited s d readings room → IsFalse (overfull d.axes) → words < words_needed d.axes → CopyRefused s d readings room words 9 (words_needed d.axes ∷ [])
  not_distinct : IsSuited s d readings room → (j : Judged) → judge d.axes words ≡ done j → j.answer ≢ Distinct → CopyRefused s d readings room words 14 []

pub record CopyClaims : Type 0 where
  pub refuses : (s d : LayoutModel) (readings room words number : ℕ) (values : List ℕ)
      → (copy_refusal s d readings room words ≡ refused number values) ↔ CopyRefused s d readings room words number values
  pub passes : (s d : LayoutModel) (readings room words : ℕ)
      → (copy_refusal s d readings room words ≡ pass) ↔ IsSuited s d readings room × IsJudgedDistinct d words
  -- so no two positions of the destination share a cell
  pub apart : (s d : LayoutModel) (readings room words : ℕ) → copy_refusal s d readings room words ≡ pass → ¬ (SharesOffset d.axes)
  -- position k has one index vector in both
  pub same_index : (s d : LayoutModel) (readings room words k : ℕ) → copy_refusal s d readings room words ≡ pass
      → index_at (extents s.axes) k ≡ index_at (extents d.axes) k
  -- its place in either buffer is its offset
  pub place_is : (s d : LayoutModel) (readings room words k : ℕ) → copy_refusal s d readings room words ≡ pass → k < positions d.axes
      → (pos (cell_at s k) ≡ offset_at s k) × (pos (cell_at d k) ≡ offset_at d k)
  -- its reading, which the source has, stands at the destination's offset afterwards
  pub there : (s d : LayoutModel) (from to : List ℤ) (words k : ℕ) → copy_refusal s d (length from) (length to) words ≡ pass → k < positions d.axes
      → (cell_at s k < length from) × (slice_get (copy_after pass s d from to) (cell_at d k) ≡ Some (reading_at s from k))
  -- every other reading stays
  pub others : (s d : LayoutModel) (from to : List ℤ) (i : ℕ) → ((k : ℕ) → k < positions d.axes → cell_at d k ≢ i)
      → slice_get (copy_after pass s d from to) i ≡ slice_get to i
  pub as_long : (s d : LayoutModel) (from to : List ℤ) → length (copy_after pass s d from to) ≡ length to
  -- a refusal leaves every reading
  pub refused_leaves : (s d : LayoutModel) (from to : List ℤ) (number : ℕ) (values : List ℕ) → copy_after (refused number values) s d from to ≡ to
  -- the words that the verdict needed are free afterwards, also if it is not Distinct; none on any other refusal
  pub frees : (s d : LayoutModel) (readings room words : ℕ) (j : Judged) → IsSuited s d readings room → judge d.axes words ≡ done j → copy_frees s d readings room words ≡ words_needed d.axes
  pub frees_none : (s d : LayoutModel) (readings room words number : ℕ) (values : List ℕ) → copy_refusal s d readings room words ≡ refused number values → number ≢ 14
      → copy_frees s d readings room words ≡ 0
