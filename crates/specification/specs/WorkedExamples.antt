-- The worked examples (RULES, "Worked examples"), each a line that computes.
use Rattle.std.specs.Prelude.{List, [], ◌∷◌, ◌≡◌, ℕ, ℤ, pos, negsuc}
use Rattle.integer.specs.Range.{most_signed}
use Rattle.specification.specs.Axis.{Axis}
use Rattle.specification.specs.Outcome.{done, refused, pass}
use Rattle.specification.specs.Layout.{LayoutModel}
use Rattle.specification.specs.CheckIn.{check_in}
use Rattle.specification.specs.Views.{diagonal_view}
use Rattle.specification.specs.Normal.{normal_form}
use Rattle.specification.specs.Verdict.{Distinct, Repeated, verdict}
use Rattle.specification.specs.Record.{written}
use Rattle.specification.specs.CountClaims.{judged}

-- short forms for the lines below
abbrev pub layout : ℕ → ℤ → List Axis → LayoutModel
layout buffer offset axes = record { buffer = buffer; offset = offset; axes = axes }

abbrev pub ax : ℕ → ℤ → Axis
ax extent stride = record { extent = extent; stride = stride }

-- all of them together
pub record WorkedExamples : Type 0 where
  -- rank 0, offset 0: refused in a buffer of length 0, accepted in one of length 1
  pub rank_0_length_0 : check_in 0 (pos 0) [] [] ≡ refused 3 []
  pub rank_0_length_1 : check_in 1 (pos 0) [] [] ≡ done (layout 1 (pos 0) [])
  -- [3], [-1] in a buffer of length 3: accepted at offset 2, refused at offset 1
  pub backward_from_2 : check_in 3 (pos 2) (3 ∷ []) (negsuc 0 ∷ []) ≡ done (layout 3 (pos 2) (ax 3 (negsuc 0) ∷ []))
  pub backward_from_1 : check_in 3 (pos 1) (3 ∷ []) (negsuc 0 ∷ []) ≡ refused 3 []
  -- [3,4,5], [1,3,12], all three axes tied: [3], [16]
  pub diagonal_of_three : diagonal_view (layout 60 (pos 0) (ax 3 (pos 1) ∷ ax 4 (pos 3) ∷ ax 5 (pos 12) ∷ [])) ((0, 1) ∷ (1, 2) ∷ [])
      ≡ record { answer = pass; layout = layout 60 (pos 0) (ax 3 (pos 16) ∷ []) }
  -- [2,1,3], [4,9,8] in normal form: [6], [4]
  pub normal_merged : normal_form (layout 21 (pos 0) (ax 2 (pos 4) ∷ ax 1 (pos 9) ∷ ax 3 (pos 8) ∷ [])) ≡ done (layout 21 (pos 0) (ax 6 (pos 4) ∷ []))
  -- [2,2], [0,0] in normal form: [4], [0]
  pub normal_still : normal_form (layout 1 (pos 0) (ax 2 (pos 0) ∷ ax 2 (pos 0) ∷ [])) ≡ done (layout 1 (pos 0) (ax 4 (pos 0) ∷ []))
  -- [2,3], [1,2]: Distinct
  pub dense : (words : ℕ) → verdict (2 ∷ 3 ∷ []) (pos 1 ∷ pos 2 ∷ []) words ≡ judged Distinct 0
  -- [2,3], [0,1]: Repeated
  pub stride_0 : (words : ℕ) → verdict (2 ∷ 3 ∷ []) (pos 0 ∷ pos 1 ∷ []) words ≡ judged Repeated 0
  -- [4,2000], [2000,3]: Distinct; [4,2001], [2000,3]: Repeated
  pub two_apart : (words : ℕ) → verdict (4 ∷ 2000 ∷ []) (pos 2000 ∷ pos 3 ∷ []) words ≡ judged Distinct 0
  pub two_collide : (words : ℕ) → verdict (4 ∷ 2001 ∷ []) (pos 2000 ∷ pos 3 ∷ []) words ≡ judged Repeated 0
  -- [2,2,2], [2,3,5]: Repeated, at the first vector
  pub three_collide : (words : ℕ) → verdict (2 ∷ 2 ∷ 2 ∷ []) (pos 2 ∷ pos 3 ∷ pos 5 ∷ []) words ≡ judged Repeated 1
  -- [2,2,5000000], [4,5,6]: Distinct, after one vector
  pub three_apart : (words : ℕ) → verdict (2 ∷ 2 ∷ 5000000 ∷ []) (pos 4 ∷ pos 5 ∷ pos 6 ∷ []) words ≡ judged Distinct 1
  -- [2], [-2^63]: refused 3
  pub least_stride : (words : ℕ) → verdict (2 ∷ []) (negsuc most_signed ∷ []) words ≡ refused 3 []
  -- the record of [2,3], [1,2] at offset 0: 001D 01 01 01, the offset, then extent 6 and stride 1
  pub record_dense : (words : ℕ) → written (layout 6 (pos 0) (ax 2 (pos 1) ∷ ax 3 (pos 2) ∷ [])) 29 words ≡ done (record {
    bytes = 0x00 ∷ 0x1D ∷ 0x01 ∷ 0x01 ∷ 0x01 ∷ 0x00 ∷ 0x00 ∷ 0x00 ∷ 0x00 ∷ 0x00 ∷ 0x00 ∷ 0x00 ∷ 0x00
        ∷ 0x00 ∷ 0x00 ∷ 0x00 ∷ 0x00 ∷ 0x00 ∷ 0x00 ∷ 0x00 ∷ 0x06
        ∷ 0x00 ∷ 0x00 ∷ 0x00 ∷ 0x00 ∷ 0x00 ∷ 0x00 ∷ 0x00 ∷ 0x01 ∷ [];
    freed = 0;
  })
