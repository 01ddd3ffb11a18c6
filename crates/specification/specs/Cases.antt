-- Further lines that compute: cases that tell a plausible wrong reading of the rules from the right one.
-- RULES, "Plausible wrong readings".
use Rattle.std.specs.Prelude.{[], ◌∷◌, ◌≡◌, ℕ, ◌+◌, ◌-◌, ◌^◌, pos, negsuc}
use Rattle.integer.specs.Range.{most_signed}
use Rattle.specification.specs.Outcome.{done, refused, pass}
use Rattle.specification.specs.Views.{permute, diagonal_view, pairs_of, broadcast}
use Rattle.specification.specs.Normal.{normal_form}
use Rattle.specification.specs.Verdict.{Distinct, Repeated, verdict}
use Rattle.specification.specs.Record.{written, read_of}
use Rattle.specification.specs.Beside.{col_major, row_major, index_order, indexed_offset}
use Rattle.specification.specs.CountClaims.{judged}
use Rattle.specification.specs.WorkedExamples.{layout, ax}

pub record Cases : Type 0 where
  -- tied strides are added in ascending axis order: with the positive ones first a partial sum would be out of range
  pub ascending_sums : diagonal_view (layout 1 (pos 0) (ax 1 (pos most_signed) ∷ ax 1 (negsuc 0) ∷ ax 1 (pos 1) ∷ [])) ((0, 1) ∷ (1, 2) ∷ [])
      ≡ record { answer = pass; layout = layout 1 (pos 0) (ax 1 (pos most_signed) ∷ []) }
  -- a partial sum out of range is 3 even if the whole sum fits
  pub partial_sum : diagonal_view (layout 1 (pos 0) (ax 1 (pos most_signed) ∷ ax 1 (pos 1) ∷ ax 1 (negsuc 0) ∷ [])) ((0, 1) ∷ (1, 2) ∷ [])
      ≡ record { answer = refused 3 []; layout = layout 1 (pos 0) (ax 1 (pos most_signed) ∷ ax 1 (pos 1) ∷ ax 1 (negsuc 0) ∷ []) }
  -- 5 with the larger axis of a pair outside the rank
  pub larger_axis : (diagonal_view (layout 1 (pos 0) (ax 1 (pos 1) ∷ [])) ((4, 7) ∷ [])).answer ≡ refused 5 (7 ∷ 1 ∷ [])
  -- flat numbers: an odd last one is passed over
  pub odd_last : pairs_of (0 ∷ 1 ∷ 2 ∷ []) ≡ (0, 1) ∷ []
  -- a list of 17 is 1, also for a layout that is out of its buffer
  pub one_before_three : (permute (layout 0 (pos 0) (ax 1 (pos 1) ∷ [])) (0 ∷ 0 ∷ 0 ∷ 0 ∷ 0 ∷ 0 ∷ 0 ∷ 0 ∷ 0 ∷ 0 ∷ 0 ∷ 0 ∷ 0 ∷ 0 ∷ 0 ∷ 0 ∷ 0 ∷ [])).answer ≡ refused 1 []
  -- permute names (list, rank), broadcast (rank, list)
  pub permute_lengths : (permute (layout 1 (pos 0) (ax 1 (pos 1) ∷ [])) (0 ∷ 0 ∷ [])).answer ≡ refused 4 (2 ∷ 1 ∷ [])
  pub broadcast_lengths : (broadcast (layout 1 (pos 0) (ax 1 (pos 1) ∷ [])) (1 ∷ 1 ∷ [])).answer ≡ refused 4 (1 ∷ 2 ∷ [])
  -- an extent of 1 with a target of 0 leaves an empty layout
  pub emptied : broadcast (layout 1 (pos 0) (ax 1 (pos 1) ∷ [])) (0 ∷ []) ≡ record { answer = pass; layout = layout 1 (pos 0) (ax 0 (pos 0) ∷ []) }
  -- a zero extent is looked for before positions are counted
  pub empty_first : normal_form (layout 0 (pos 7) (ax (2 ^ 63) (pos 1) ∷ ax 4 (pos 1) ∷ ax 0 (pos 1) ∷ [])) ≡ done (layout 0 (pos 0) (ax 0 (pos 0) ∷ []))
  -- a span of +2^63 is 3, one of -2^63 is not
  pub span_up : (words : ℕ) → verdict (3 ∷ []) (pos (2 ^ 62) ∷ []) words ≡ refused 3 []
  pub span_down : (words : ℕ) → verdict (3 ∷ []) (negsuc (2 ^ 62 - 1) ∷ []) words ≡ judged Distinct 0
  -- positive spans that sum to +2^63 are 3, negative ones that sum to -2^63 are not, and one reading more is
  pub sum_up : (words : ℕ) → verdict (2 ∷ 2 ∷ []) (pos (2 ^ 62) ∷ pos (2 ^ 62) ∷ []) words ≡ refused 3 []
  pub sum_down : (words : ℕ) → verdict (2 ∷ 2 ∷ []) (negsuc (2 ^ 62 - 1) ∷ negsuc (2 ^ 62 - 1) ∷ []) words ≡ judged Repeated 0
  pub sum_past : (words : ℕ) → verdict (2 ∷ 2 ∷ 2 ∷ []) (negsuc (2 ^ 62 - 1) ∷ negsuc (2 ^ 62 - 1) ∷ negsuc 0 ∷ []) words ≡ refused 3 []
  -- an extent above 2^63 is 3
  pub wide : (words : ℕ) → verdict ((2 ^ 63 + 1) ∷ []) (negsuc 0 ∷ []) words ≡ refused 3 []
  -- of equal extents the two on the lower axes are set apart
  pub ties_to_lower : (words : ℕ) → verdict (2 ∷ 2 ∷ 2 ∷ 2 ∷ []) (negsuc 11 ∷ negsuc 24 ∷ pos 2 ∷ pos 27 ∷ []) words ≡ judged Repeated 2
  -- the lowest axis is the lowest digit
  pub lowest_digit : (words : ℕ) → verdict (2 ∷ 2 ∷ 3 ∷ 3 ∷ []) (pos 30 ∷ negsuc 10 ∷ pos 37 ∷ pos 13 ∷ []) words ≡ judged Repeated 3
  -- a count above 1
  pub later_place : (words : ℕ) → verdict (4 ∷ 2 ∷ 4 ∷ 4 ∷ []) (negsuc 29 ∷ negsuc 3 ∷ negsuc 7 ∷ pos 31 ∷ []) words ≡ judged Repeated 7
  -- an axis of extent 1 is no part of the block, whatever its stride
  pub one_passed_over : (words : ℕ) → verdict (1449 ∷ 1449 ∷ 1449 ∷ 1449 ∷ 1 ∷ []) (pos 1 ∷ pos 1449 ∷ pos 2099601 ∷ pos 3042321849 ∷ pos 3042321850 ∷ []) words ≡ judged Distinct 0
  pub one_not_counted : (words : ℕ) → verdict (2 ∷ 3 ∷ 5 ∷ 1 ∷ []) (pos 1 ∷ pos 2 ∷ pos 100 ∷ pos 104 ∷ []) words ≡ judged Distinct 0
  -- a record of rank 2 with a negative stride: 002D 01 02 02, the offset, 0000000000000102, FFFFFFFFFFFFFFFD, 0000000000000005, 0000000000000201
  pub record_backward : (words : ℕ) → written (layout (2 ^ 63) (pos 0x0102030405060708) (ax 0x0102 (negsuc 2) ∷ ax 5 (pos 0x0201) ∷ [])) 45 words ≡ done (record {
    bytes = 0x00 ∷ 0x2D ∷ 0x01 ∷ 0x02 ∷ 0x02 ∷ 0x01 ∷ 0x02 ∷ 0x03 ∷ 0x04 ∷ 0x05 ∷ 0x06 ∷ 0x07 ∷ 0x08
        ∷ 0x00 ∷ 0x00 ∷ 0x00 ∷ 0x00 ∷ 0x00 ∷ 0x00 ∷ 0x01 ∷ 0x02
        ∷ 0xFF ∷ 0xFF ∷ 0xFF ∷ 0xFF ∷ 0xFF ∷ 0xFF ∷ 0xFF ∷ 0xFD
        ∷ 0x00 ∷ 0x00 ∷ 0x00 ∷ 0x00 ∷ 0x00 ∷ 0x00 ∷ 0x00 ∷ 0x05
        ∷ 0x00 ∷ 0x00 ∷ 0x00 ∷ 0x00 ∷ 0x00 ∷ 0x00 ∷ 0x02 ∷ 0x01 ∷ [];
    freed = 0;
  })
  -- a record of rank 0: 000D 01 01 00, then the offset
  pub record_single : (words : ℕ) → written (layout 0x1235 (pos 0x1234) []) 13 words ≡ done (record {
    bytes = 0x00 ∷ 0x0D ∷ 0x01 ∷ 0x01 ∷ 0x00 ∷ 0x00 ∷ 0x00 ∷ 0x00 ∷ 0x00 ∷ 0x00 ∷ 0x00 ∷ 0x12 ∷ 0x34 ∷ [];
    freed = 0;
  })
  -- a record with the verdict Repeated is read with it: 001D 01 02 01, the offset, extent 4 and stride 0
  pub read_repeated : (words : ℕ) → read_of (0x00 ∷ 0x1D ∷ 0x01 ∷ 0x02 ∷ 0x01 ∷ 0x00 ∷ 0x00 ∷ 0x00 ∷ 0x00 ∷ 0x00 ∷ 0x00 ∷ 0x00 ∷ 0x07
      ∷ 0x00 ∷ 0x00 ∷ 0x00 ∷ 0x00 ∷ 0x00 ∷ 0x00 ∷ 0x00 ∷ 0x04
      ∷ 0x00 ∷ 0x00 ∷ 0x00 ∷ 0x00 ∷ 0x00 ∷ 0x00 ∷ 0x00 ∷ 0x00 ∷ []) words
      ≡ done (record { layout = layout 8 (pos 7) (ax 4 (pos 0) ∷ []); answer = Repeated })
  -- dense strides of an empty shape: in place of a step that does not fit stands 2^63 - 1
  pub empty_dense : col_major (0 ∷ 2 ^ 63 ∷ 5 ∷ []) ≡ done (pos 1 ∷ pos 0 ∷ pos most_signed ∷ [])
  pub row_dense : row_major (2 ∷ 3 ∷ 4 ∷ []) ≡ done (pos 12 ∷ pos 4 ∷ pos 1 ∷ [])
  -- equal absolute strides have one number, each of them counts for larger ones, stride 0 for none
  pub order_ties : index_order (pos 2 ∷ negsuc 0 ∷ pos 1 ∷ pos 0 ∷ []) 4 ≡ done (3 ∷ 1 ∷ 1 ∷ 1 ∷ [])
  -- the running sum starts at the layout's offset, also in an empty layout
  pub sum_from_offset : indexed_offset (layout 0 (pos most_signed) (ax 2 (pos 1) ∷ ax 0 (pos 0) ∷ [])) (1 ∷ 0 ∷ []) ≡ refused 3 []
