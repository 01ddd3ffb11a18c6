-- Each view passes and is refused exactly as its rules say, and a refusal leaves the layout: the claims on answers.
use mathlib.Core.List.{List}
use mathlib.Core.Path.{◌≡◌}
use Prim.Native.Nat.{ℕ}
use Rattle.specification.specs.Outcome.{refused}
use Rattle.specification.specs.Layout.{LayoutModel}
use Rattle.specification.specs.Views.{permute, diagonal_view, broadcast}
use Rattle.specification.specs.Calls.{Call, permuting, diagonal, broadcasting, after_call}
use Rattle.specification.specs.ViewRules.{Passes, Refuses}
use Rattle.specification.specs.ViewClaims.{AnswerClaims}
use Rattle.specification.proofs.AnswerRules.{Answers, left-old}
use Rattle.specification.proofs.PermuteAnswers.{permute-answers}
use Rattle.specification.proofs.DiagonalAnswers.{diagonal-answers}
use Rattle.specification.proofs.BroadcastAnswers.{broadcast-answers}

call-answers : (l : LayoutModel) (c : Call) → Answers (after_call l c).answer (Passes l c) (Refuses l c)
unfolding after_call
call-answers l (permuting order) = permute-answers l order
call-answers l (diagonal pairs) = diagonal-answers l pairs
call-answers l (broadcasting targets) = broadcast-answers l targets

left : (l : LayoutModel) (c : Call) {number : ℕ} {values : List ℕ} → (after_call l c).answer ≡ refused number values → (after_call l c).layout ≡ l
unfolding after_call permute diagonal_view broadcast
left l (permuting order) e = left-old _ _ _ e
left l (diagonal pairs) e = left-old _ _ _ e
left l (broadcasting targets) e = left-old _ _ _ e

pub answer_claims : AnswerClaims
answer_claims = record {
  passes = λ l c. (call-answers l c).passes;
  refuses = λ l c. (call-answers l c).refuses;
  left = λ l c number values. left l c;
}
