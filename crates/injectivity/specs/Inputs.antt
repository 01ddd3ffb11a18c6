-- What is answered or refused before the block is looked for, as the code answers it (RULES, "The verdict: inputs").
use Rattle.std.specs.List.{list_any}
use Rattle.std.specs.Prelude.{Bool, false, ◌&&◌, ◌||◌, List, ◌≡◌, ◌-◌, ◌<◌, nat_lt, negsuc, Ok, Err, Result, None, Option, Some}
use Rattle.std.specs.Ordering.{int_eq}
use Rattle.integer.specs.Range.{most_signed}
use Rattle.specification.specs.Axis.{Axis, positions, active}
use Rattle.specification.specs.Normal.{overfull}
use Rattle.specification.specs.Outcome.{done, refused}
use Rattle.specification.specs.Verdict.{still, is_out_of_range, answered, plan_of}
use Rattle.view.specs.Answers.{number_of, values_of}
use Rattle.view.specs.declared.layout.Refusal.{Refusal}
use Rattle.injectivity.specs.Judgement.{verdict_told}
use Rattle.injectivity.specs.declared.Judgement.{Judgement}

-- an extent above 2^63, or an active stride of -2^63
abbrev pub unfit : Axis → Bool
unfit a = active a && (nat_lt most_signed (a.extent - 1) || int_eq a.stride (negsuc most_signed))

-- two positions or more, and nothing answered or refused before the block
pub record IsLeftToBlock (axes : List Axis) : Type 0 where
  pub many : 1 < positions axes
  pub not_eight : overfull axes ≡ false
  pub no_still_axis : list_any still axes ≡ false
  pub not_three : is_out_of_range axes ≡ false

-- left to the block, or the plan of the axes: an answer with its count, or a refusal
abbrev pub IsValidated : List Axis → Result (Option Judgement) Refusal → Type 0
IsValidated axes (Ok None) = IsLeftToBlock axes
IsValidated axes (Ok (Some judgement)) = let told = verdict_told judgement in plan_of axes ≡ done (answered told.answer told.count)
IsValidated axes (Err why) = plan_of axes ≡ refused (number_of why) (values_of why)
