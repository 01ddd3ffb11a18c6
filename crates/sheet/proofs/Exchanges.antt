-- What each call on the views of a sheet answers: lines with numbers in them, which compute.
use Rattle.std.proofs.Common.{◌≡◌, Bool, true, ℕ, List, [], ◌∷◌, length, pos, refl, ap}
use Rattle.specification.specs.Outcome.{Outcome, done, pass}
use Rattle.specification.specs.Layout.{LayoutModel}
use Rattle.specification.specs.CheckIn.{check_in}
use Rattle.specification.specs.NormalClaims.{SameOffsets}
use Rattle.specification.specs.Views.{permute, diagonal_view}
use Rattle.specification.specs.Record.{written, write_answer, Writing}
use Rattle.specification.specs.Calls.{Call, permuting, after_call, end_of}
use Rattle.specification.specs.WorkedExamples.{layout, ax}
use Rattle.specification.proofs.Computing.{computing}
use Rattle.layouts.specs.SameReadings.{first_refused, second_refused, both_wrote, Compared}

-- two columns of three
abbrev pub sheet : LayoutModel
sheet = layout 6 (pos 0) (ax 2 (pos 1) ∷ ax 3 (pos 2) ∷ [])

-- rows first
abbrev pub turned : LayoutModel
turned = layout 6 (pos 0) (ax 3 (pos 2) ∷ ax 2 (pos 1) ∷ [])

-- both axes as one
abbrev pub tied : LayoutModel
tied = layout 6 (pos 0) (ax 2 (pos 3) ∷ [])

-- exchanged and back again
abbrev pub turns : List Call
turns = permuting (1 ∷ 0 ∷ []) ∷ permuting (1 ∷ 0 ∷ []) ∷ []

pub checked : check_in 6 (pos 0) (2 ∷ 3 ∷ []) (pos 1 ∷ pos 2 ∷ []) ≡ done sheet
unfolding computing
checked = refl

pub exchanged : permute sheet (1 ∷ 0 ∷ []) ≡ record { answer = pass; layout = turned }
unfolding computing
exchanged = refl

pub fused : diagonal_view turned ((0, 1) ∷ []) ≡ record { answer = pass; layout = tied }
unfolding computing
fused = refl

back : end_of turned turns ≡ turned
unfolding computing after_call end_of
back = refl

-- 64 bytes and no scratch are enough
wrote : (words : ℕ) → write_answer (written turned 64 words) ≡ done 45
unfolding computing write_answer
wrote words = refl

writes : {l : LayoutModel} → l ≡ turned → {output scratch output-then scratch-then : List ℕ} {answer : Outcome ℕ} → length output ≡ 64
    → Writing l output scratch answer output-then scratch-then → answer ≡ done 45
writes e {scratch = scratch} p w = let a = w.answer_is in let d = wrote (length scratch) in cc

alike : (l : LayoutModel) → SameOffsets l l
alike l = record { as_many = refl; alike = λ k h. refl }

-- both records are made, and the end layouts are one
pub same : {output other scratch : List ℕ} {answer : Outcome Bool} {output-then other-then scratch-then : List ℕ} → length output ≡ 64 → length other ≡ 64
    → Compared turned turned turns [] output other scratch answer output-then other-then scratch-then → answer ≡ done true
unfolding end_of
same p q (first_refused w) = let e = writes back p w in absurd cc
same p q (second_refused w v) = let e = writes refl q v in absurd cc
same p q (both_wrote w v t) = ap done (t.answer.1 (rw back (alike turned)))
