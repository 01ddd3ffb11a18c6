-- Three views one behind the other, as a list of calls, and their answers (RULES, "Equal records").
use Rattle.std.specs.Prelude.{List, [], ◌∷◌}
use Rattle.specification.specs.Outcome.{Check}
use Rattle.specification.specs.Views.{pairs_of}
use Rattle.specification.specs.Calls.{Call, permuting, diagonal, broadcasting}
use Rattle.view.specs.Answers.{outcome_of}
use Rattle.callers.specs.declared.steps.Answers.{Answers}
use Rattle.callers.specs.declared.steps.Steps.{Steps}

abbrev pub calls_of : Steps → List Call
calls_of s = permuting s.order.now ∷ diagonal (pairs_of s.pairs.now) ∷ broadcasting s.targets.now ∷ []

abbrev pub answers_in : Answers → List Check
answers_in a = outcome_of a.turned ∷ outcome_of a.fused ∷ outcome_of a.stretched ∷ []
