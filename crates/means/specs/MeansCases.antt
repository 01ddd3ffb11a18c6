-- Means that are computed: what is written, and each refusal against its neighbour in the order (RULES, "Means along an axis").
use Rattle.std.specs.Prelude.{[], ◌∷◌, ◌≡◌, ◌+◌, ◌-◌, ◌*◌, ◌^◌, pos, negsuc, replicate}
use Rattle.specification.specs.Outcome.{done, refused}
use Rattle.specification.specs.Layout.{LayoutModel}
use Rattle.specification.specs.WorkedExamples.{layout, ax}
use Rattle.means.specs.Rounded.{rounded}
use Rattle.means.specs.Means.{mean_at, means_of, means_after}

-- two faces of three columns, the face fastest
abbrev pub faces : LayoutModel
faces = layout 6 (pos 0) (ax 2 (pos 1) ∷ ax 3 (pos 2) ∷ [])

-- 2^32 times 2^32 positions beside an axis of three
abbrev pub crowded : LayoutModel
crowded = layout 1 (pos 0) (ax (2 ^ 32) (pos 0) ∷ ax (2 ^ 32) (pos 0) ∷ ax 3 (pos 0) ∷ [])

pub record MeansCases : Type 0 where
  -- 3 to 2: halves away from zero, and all else to the nearest
  pub rounded_half : rounded (pos 3) 2 ≡ pos 2
  pub rounded_half_below : rounded (negsuc 2) 2 ≡ negsuc 1
  pub rounded_third : rounded (pos 4) 3 ≡ pos 1
  pub rounded_two_thirds_below : rounded (negsuc 4) 3 ≡ negsuc 1
  -- 10.5, -10.5 and 3.5; the last reading of the output stays
  pub means_of_faces : means_after (means_of faces 0 6 4) faces 0
      (pos 10 ∷ pos 11 ∷ negsuc 9 ∷ negsuc 10 ∷ pos 3 ∷ pos 4 ∷ []) (pos 0 ∷ pos 0 ∷ pos 0 ∷ pos 0 ∷ [])
      ≡ pos 11 ∷ negsuc 10 ∷ pos 4 ∷ pos 0 ∷ []
  -- of the columns, for each face: 3/3 and 4/3
  pub means_of_columns : means_after (means_of faces 1 6 3) faces 1
      (pos 10 ∷ pos 11 ∷ negsuc 9 ∷ negsuc 10 ∷ pos 3 ∷ pos 4 ∷ []) (pos 7 ∷ pos 7 ∷ pos 7 ∷ [])
      ≡ pos 1 ∷ pos 1 ∷ pos 7 ∷ []
  -- -0.5 is -1, also of the two ends of 32 bits
  pub mean_half_down : mean_at (layout 2 (pos 0) (ax 2 (pos 1) ∷ [])) 0 (pos (2 ^ 31 - 1) ∷ negsuc (2 ^ 31 - 1) ∷ []) 0 ≡ negsuc 0
  -- along the second axis, backwards: 13/3 and 9/3
  pub means_backward : means_after (done 2) (layout 6 (pos 5) (ax 2 (negsuc 0) ∷ ax 3 (negsuc 1) ∷ [])) 1 (pos 1 ∷ pos 2 ∷ pos 3 ∷ pos 4 ∷ pos 5 ∷ pos 7 ∷ []) (pos 0 ∷ pos 0 ∷ [])
      ≡ pos 4 ∷ pos 3 ∷ []
  -- along the middle of three axes: the first of the others is the fastest
  pub means_middle : means_after (done 4) (layout 8 (pos 0) (ax 2 (pos 1) ∷ ax 2 (pos 2) ∷ ax 2 (pos 4) ∷ [])) 1
      (pos 1 ∷ pos 2 ∷ pos 3 ∷ pos 4 ∷ pos 50 ∷ pos 60 ∷ pos 70 ∷ pos 80 ∷ []) (pos 0 ∷ pos 0 ∷ pos 0 ∷ pos 0 ∷ [])
      ≡ pos 2 ∷ pos 3 ∷ pos 60 ∷ pos 70 ∷ []
  -- of one reading, and of five: 32/5
  pub means_of_one : means_after (done 2) (layout 2 (pos 0) (ax 1 (pos 5) ∷ ax 2 (pos 1) ∷ [])) 0 (pos 8 ∷ negsuc 8 ∷ []) (pos 0 ∷ pos 0 ∷ []) ≡ pos 8 ∷ negsuc 8 ∷ []
  pub mean_of_five : mean_at (layout 5 (pos 0) (ax 5 (pos 1) ∷ [])) 0 (pos 1 ∷ pos 2 ∷ pos 4 ∷ pos 8 ∷ pos 17 ∷ []) 0 ≡ pos 6
  pub means_least : means_of (layout 2 (pos 0) (ax 1 (pos 5) ∷ ax 2 (pos 1) ∷ [])) 0 2 2 ≡ done 2
  -- 1 before 3, 3 before 5, and 5 before 8
  pub means_one_first : means_of (layout 0 (pos 0) (replicate 17 (ax 1 (pos 1)))) 17 0 0 ≡ refused 1 []
  pub means_three_first : means_of (layout 5 (pos 0) (ax 2 (pos 1) ∷ ax 3 (pos 2) ∷ [])) 9 0 0 ≡ refused 3 []
  pub means_five_first : means_of crowded 3 0 0 ≡ refused 5 (3 ∷ 3 ∷ [])
  pub means_five_above : means_of faces 7 6 6 ≡ refused 5 (7 ∷ 2 ∷ [])
  -- of rank 0 no axis can be chosen
  pub means_five : means_of (layout 1 (pos 0) []) 0 1 1 ≡ refused 5 (0 ∷ 0 ∷ [])
  -- 8 counts the remaining axes alone: the whole layout may have more positions
  pub means_eight : means_of crowded 2 1 0 ≡ refused 8 []
  pub means_no_eight : means_of crowded 0 1 0 ≡ refused 10 (3 * 2 ^ 32 ∷ [])
  -- also if the chosen extent is 0; but a zero among the others leaves no position
  pub means_eight_of_none : means_of (layout 0 (pos 0) (ax 0 (pos 0) ∷ ax (2 ^ 63) (pos 0) ∷ ax 2 (pos 0) ∷ [])) 0 0 0 ≡ refused 8 []
  pub means_fifteen : means_of (layout 0 (pos 0) (ax 0 (pos 0) ∷ ax 0 (pos 0) ∷ ax (2 ^ 63) (pos 0) ∷ ax 4 (pos 0) ∷ [])) 0 0 0 ≡ refused 15 []
  -- 8 before 13, and 13 before 10
  pub means_eight_first : means_of crowded 2 0 0 ≡ refused 8 []
  pub means_thirteen_first : means_of faces 0 5 0 ≡ refused 13 []
  -- 10 before 15 and before 16
  pub means_ten_first_of_none : means_of (layout 0 (pos 0) (ax 0 (pos 1) ∷ ax 3 (pos 1) ∷ [])) 0 0 2 ≡ refused 10 (3 ∷ [])
  pub means_ten_first : means_of (layout 1 (pos 0) (ax 65537 (pos 0) ∷ [])) 0 1 0 ≡ refused 10 (1 ∷ [])
  -- 15 needs no buffer: an empty layout is never 13
  pub means_fifteen_empty : means_of (layout 0 (pos 0) (ax 0 (pos 1) ∷ ax 3 (pos 1) ∷ [])) 0 0 3 ≡ refused 15 []
  -- 16, if nothing is to be written too; 65,536 passes, and an extent past 2^63 is no 3
  pub means_sixteen : means_of (layout 0 (pos 0) (ax 0 (pos 1) ∷ ax 65537 (pos 1) ∷ [])) 1 0 0 ≡ refused 16 []
  pub means_most : means_of (layout 1 (pos 0) (ax 65536 (pos 0) ∷ [])) 0 1 1 ≡ done 1
  pub means_wide : means_of (layout 1 (pos 0) (ax (2 ^ 63 + 1) (pos 0) ∷ [])) 0 1 1 ≡ refused 16 []
  -- no position remains: nothing is written
  pub means_none : means_after (means_of (layout 0 (pos 0) (ax 2 (pos 1) ∷ ax 0 (pos 1) ∷ [])) 0 0 1) (layout 0 (pos 0) (ax 2 (pos 1) ∷ ax 0 (pos 1) ∷ [])) 0 [] (pos 8 ∷ []) ≡ pos 8 ∷ []
  -- a refusal leaves the output
  pub means_refused : means_after (means_of faces 0 5 1) faces 0 (replicate 5 (pos 1)) (pos 8 ∷ []) ≡ pos 8 ∷ []
