-- What each call of the example answers: lines with numbers in them, which compute.
use Rattle.std.proofs.Common.{◌≡◌, [], ◌∷◌, pos, refl}
use Rattle.specification.specs.Outcome.{done}
use Rattle.specification.specs.Layout.{LayoutModel}
use Rattle.specification.specs.CheckIn.{check_in}
use Rattle.specification.specs.CountClaims.{judged}
use Rattle.specification.specs.Verdict.{Distinct, Repeated}
use Rattle.specification.specs.WorkedExamples.{layout, ax}
use Rattle.specification.proofs.Computing.{computing}
use Rattle.layouts.specs.Judgement.{axes_judged}

-- six rows of four
abbrev pub sheet : LayoutModel
sheet = layout 24 (pos 0) (ax 4 (pos 1) ∷ ax 6 (pos 4) ∷ [])

-- the rows stand three apart
abbrev pub slip : LayoutModel
slip = layout 24 (pos 0) (ax 4 (pos 1) ∷ ax 6 (pos 3) ∷ [])

pub checked : check_in 24 (pos 0) (4 ∷ 6 ∷ []) (pos 1 ∷ pos 4 ∷ []) ≡ done sheet
unfolding computing
checked = refl

pub slipped : check_in 24 (pos 0) (4 ∷ 6 ∷ []) (pos 1 ∷ pos 3 ∷ []) ≡ done slip
unfolding computing
slipped = refl

pub apart : axes_judged sheet.axes 0 ≡ judged Distinct 0
unfolding computing axes_judged
apart = refl

pub shared : axes_judged slip.axes 0 ≡ judged Repeated 0
unfolding computing axes_judged
shared = refl
