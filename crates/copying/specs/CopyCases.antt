-- Copies that are computed: a copy, and each refusal against its neighbour in the order (RULES, "Copying").
use Rattle.std.specs.Prelude.{[], ◌∷◌, ◌≡◌, ◌+◌, ◌^◌, pos, negsuc, replicate}
use Rattle.specification.specs.Outcome.{refused, pass}
use Rattle.specification.specs.Layout.{LayoutModel}
use Rattle.specification.specs.Normal.{normal_of}
use Rattle.specification.specs.WorkedExamples.{layout, ax}
use Rattle.copying.specs.Copy.{copy_refusal, copy_frees, copy_after}

-- Undecided is 14: four extents of 1449, past both budgets
abbrev pub undecided_layout : LayoutModel
undecided_layout = layout (2 ^ 46) (pos 0) (ax 1449 (pos 10000000000) ∷ ax 1449 (pos 10000000001) ∷ ax 1449 (pos 10000000002) ∷ ax 1449 (pos 10000000003) ∷ [])

-- Undecided too, while its normal form, which has two axes, is Distinct
abbrev pub merging_layout : LayoutModel
merging_layout = layout (2 ^ 46) (pos 0) (ax 1449 (pos 4) ∷ ax 1449 (pos 5796) ∷ ax 1449 (pos 8398404) ∷ ax 1449 (pos 3042321851) ∷ [])

-- Distinct by an enumeration in 294,913 words
abbrev pub enumerated_layout : LayoutModel
enumerated_layout = layout 18874374 (pos 0)
    (ax 8 (pos 2) ∷ ax 8 (pos 16) ∷ ax 8 (pos 128) ∷ ax 8 (pos 1024) ∷ ax 8 (pos 8192) ∷ ax 8 (pos 65536) ∷ ax 8 (pos 524288) ∷ ax 8 (pos 2097153) ∷ [])

pub record CopyCases : Type 0 where
  -- the transposed copy
  pub copy_transposed : copy_after pass (layout 6 (pos 0) (ax 2 (pos 1) ∷ ax 3 (pos 2) ∷ [])) (layout 6 (pos 0) (ax 2 (pos 3) ∷ ax 3 (pos 1) ∷ []))
      (pos 1 ∷ pos 2 ∷ pos 3 ∷ pos 4 ∷ pos 5 ∷ pos 6 ∷ []) (pos 0 ∷ pos 0 ∷ pos 0 ∷ pos 0 ∷ pos 0 ∷ pos 0 ∷ [])
      ≡ pos 1 ∷ pos 3 ∷ pos 5 ∷ pos 2 ∷ pos 4 ∷ pos 6 ∷ []
  -- backwards, into the middle of a longer destination
  pub copy_turned : copy_after pass (layout 3 (pos 2) (ax 3 (negsuc 0) ∷ [])) (layout 5 (pos 1) (ax 3 (pos 1) ∷ [])) (pos 7 ∷ pos 8 ∷ pos 9 ∷ []) (negsuc 0 ∷ negsuc 0 ∷ negsuc 0 ∷ negsuc 0 ∷ negsuc 0 ∷ [])
      ≡ negsuc 0 ∷ pos 9 ∷ pos 8 ∷ pos 7 ∷ negsuc 0 ∷ []
  pub copy_passes : copy_refusal (layout 6 (pos 0) (ax 2 (pos 1) ∷ ax 3 (pos 2) ∷ [])) (layout 6 (pos 0) (ax 2 (pos 3) ∷ ax 3 (pos 1) ∷ [])) 6 6 0 ≡ pass
  -- the buffer counts for 13, not the layout's length
  pub copy_least : copy_refusal (layout 6 (pos 0) (ax 2 (pos 1) ∷ ax 3 (pos 2) ∷ [])) (layout 100 (pos 0) (ax 2 (pos 1) ∷ ax 3 (pos 2) ∷ [])) 6 6 0 ≡ pass
  pub copy_short : copy_refusal (layout 6 (pos 0) (ax 2 (pos 1) ∷ ax 3 (pos 2) ∷ [])) (layout 100 (pos 0) (ax 2 (pos 1) ∷ ax 3 (pos 2) ∷ [])) 6 5 0 ≡ refused 13 []
  -- an empty layout needs no buffer, and is copied whatever the verdict's words
  pub copy_empty : copy_refusal (layout 0 (pos 7) (ax 0 (pos 1) ∷ ax 3 (pos 1) ∷ [])) (layout 0 (negsuc 8) (ax 0 (pos 5) ∷ ax 3 (pos 5) ∷ [])) 0 1 0 ≡ pass
  -- 1 of either layout before 3 of either
  pub copy_one_first : copy_refusal (layout 0 (pos 0) (ax 1 (pos 1) ∷ [])) (layout 1 (pos 0) (replicate 17 (ax 1 (pos 1)))) 0 1 0 ≡ refused 1 []
  -- the destination too
  pub copy_three_of_destination : copy_refusal (layout 6 (pos 0) (ax 2 (pos 1) ∷ ax 3 (pos 2) ∷ [])) (layout 5 (pos 0) (ax 2 (pos 1) ∷ ax 3 (pos 2) ∷ [])) 6 6 0 ≡ refused 3 []
  -- 3 before 12
  pub copy_three_first : copy_refusal (layout 5 (pos 0) (ax 2 (pos 1) ∷ ax 3 (pos 2) ∷ [])) (layout 9 (pos 0) (ax 3 (pos 1) ∷ ax 2 (pos 3) ∷ [])) 6 9 0 ≡ refused 3 []
  -- 12 for lists that differ by an axis of extent 1, and for empty layouts with another list
  pub copy_twelve : copy_refusal (layout 2 (pos 0) (ax 2 (pos 1) ∷ ax 1 (pos 0) ∷ [])) (layout 2 (pos 0) (ax 2 (pos 1) ∷ [])) 2 2 0 ≡ refused 12 []
  pub copy_twelve_empty : copy_refusal (layout 0 (pos 0) (ax 0 (pos 1) ∷ ax 3 (pos 1) ∷ [])) (layout 0 (pos 0) (ax 3 (pos 1) ∷ ax 0 (pos 1) ∷ [])) 0 0 0 ≡ refused 12 []
  -- 12 before 13
  pub copy_twelve_first : copy_refusal (layout 2 (pos 0) (ax 2 (pos 1) ∷ ax 1 (pos 0) ∷ [])) (layout 2 (pos 0) (ax 2 (pos 1) ∷ [])) 1 1 0 ≡ refused 12 []
  -- 13 before 14
  pub copy_thirteen_first : copy_refusal (layout 2 (pos 0) (ax 2 (pos 1) ∷ ax 2 (pos 0) ∷ [])) (layout 2 (pos 0) (ax 2 (pos 1) ∷ ax 2 (pos 0) ∷ [])) 1 2 0 ≡ refused 13 []
  -- 13 before 9, and 9 with the words needed
  pub copy_thirteen_before_nine : copy_refusal enumerated_layout enumerated_layout 18874374 18874373 0 ≡ refused 13 []
  pub copy_nine : copy_refusal enumerated_layout enumerated_layout 18874374 18874374 294912 ≡ refused 9 (294913 ∷ [])
  -- the words that the verdict needs are free if it was made, and none otherwise
  pub copy_words_free : copy_frees (layout 1 (pos 0) (replicate 8 (ax 8 (pos 0)))) enumerated_layout 1 18874374 294913 ≡ 294913
  pub copy_words_kept : copy_frees enumerated_layout enumerated_layout 18874374 18874373 294913 ≡ 0
  -- 8 before 14
  pub copy_eight_first : copy_refusal (layout 1 (pos 0) (ax (2 ^ 32) (pos 0) ∷ ax (2 ^ 32) (pos 0) ∷ [])) (layout 1 (pos 0) (ax (2 ^ 32) (pos 0) ∷ ax (2 ^ 32) (pos 0) ∷ [])) 1 1 0 ≡ refused 8 []
  -- a broadcast destination is 14, also one wider than 2^63
  pub copy_repeated : copy_refusal (layout 6 (pos 0) (ax 2 (pos 1) ∷ ax 3 (pos 2) ∷ [])) (layout 2 (pos 0) (ax 2 (pos 1) ∷ ax 3 (pos 0) ∷ [])) 6 2 0 ≡ refused 14 []
  pub copy_wide : copy_refusal (layout 1 (pos 0) (ax (2 ^ 63 + 1) (pos 0) ∷ [])) (layout 1 (pos 0) (ax (2 ^ 63 + 1) (pos 0) ∷ [])) 1 1 0 ≡ refused 14 []
  pub copy_undecided : copy_refusal undecided_layout undecided_layout (2 ^ 46) (2 ^ 46) 0 ≡ refused 14 []
  -- judged by its own axes, not by those of its normal form
  pub copy_undecided_merging : copy_refusal merging_layout merging_layout (2 ^ 46) (2 ^ 46) 0 ≡ refused 14 []
  pub copy_merged : copy_refusal (normal_of merging_layout) (normal_of merging_layout) (2 ^ 46) (2 ^ 46) 0 ≡ pass
  -- a refusal leaves the destination
  pub copy_refused : copy_after (refused 14 []) (layout 1 (pos 0) []) (layout 1 (pos 0) []) (pos 1 ∷ []) (pos 2 ∷ []) ≡ pos 2 ∷ []
