-- Pictures that are computed (docs/COMMANDS.md, "draw").
use Rattle.std.specs.Prelude.{ℕ, ◌^◌, pos, negsuc, List, [], ◌∷◌, ◌≡◌, codes}
use Rattle.specification.specs.Outcome.{Outcome, done, refused}
use Rattle.specification.specs.WorkedExamples.{layout, ax}
use Rattle.drawing.specs.Drawn.{Picture, picture, too_many, drawn}

-- what is printed
abbrev pub shows : List ℕ → Outcome Picture
shows text = done (picture text)

pub record PictureCases : Type 0 where
  -- two rows of two, one apart: the positions 1,0 and 0,1 share a cell
  pub shared : drawn (layout 24 (pos 0) (ax 2 (pos 1) ∷ ax 2 (pos 1) ∷ [])) ≡ shows (codes "cells 3\n0: 0,0\n1: 1,0 0,1\n2: 1,1")
  -- a negative stride: the lowest cell comes first, whatever position stands there
  pub backward : drawn (layout 9 (pos 8) (ax 3 (negsuc 3) ∷ [])) ≡ shows (codes "cells 3\n0: 2\n4: 1\n8: 0")
  -- stride 0: one cell for all, in the order of positions
  pub still : drawn (layout 10 (pos 9) (ax 2 (pos 0) ∷ ax 2 (pos 0) ∷ [])) ≡ shows (codes "cells 1\n9: 0,0 1,0 0,1 1,1")
  -- rank 0, and an empty layout
  pub single : drawn (layout 8 (pos 7) []) ≡ shows (codes "cells 1\n7: -")
  pub empty : drawn (layout 0 (pos 5) (ax 4 (pos 1) ∷ ax 0 (pos 1) ∷ [])) ≡ shows (codes "cells 0")
  -- 200 positions are drawn, 201 are not; an accepted layout may have too many to count
  pub largest : drawn (layout 1 (pos 0) (ax 201 (pos 0) ∷ [])) ≡ done (too_many 201)
  pub outside : drawn (layout 1 (pos 0) (ax 2 (pos 1) ∷ [])) ≡ refused 3 []
  pub uncounted : drawn (layout 1 (pos 0) (ax (2 ^ 32) (pos 0) ∷ ax (2 ^ 32) (pos 0) ∷ [])) ≡ refused 8 []
