-- The verdict's answer, and the words that it frees.
use Rattle.std.proofs.Common.{◌∙◌, ap, length, Ok}
use Rattle.view.specs.Model.{model_of}
use Rattle.copying.proofs.SharedLaws.{shared_freed, shared_distinct, shared_other}
use Rattle.copying.proofs.refuse_shared.Goals as goal

pub returns-in_err-judge_layout-clause-freed : goal.returns-in_err-judge_layout-clause-freed
returns-in_err-judge_layout-clause-freed c = shared_freed (model_of c.args.destination.now) c.requires (length c.args.scratch.now) c.judge_layout.ensures.judged

pub returns-in-Distinct-clause-answer : goal.returns-in-Distinct-clause-answer
returns-in-Distinct-clause-answer c =
    shared_distinct (model_of c.args.destination.now) c.requires (length c.args.scratch.now) c.judge_layout.ensures.judged (c.in_ok-judge_layout.was ∙ ap Ok c.in-Distinct.is)

pub returns-in-Distinct-clause-freed : goal.returns-in-Distinct-clause-freed
returns-in-Distinct-clause-freed c = shared_freed (model_of c.args.destination.now) c.requires (length c.args.scratch.now) c.judge_layout.ensures.judged

pub returns-in-Repeated : goal.returns-in-Repeated
returns-in-Repeated c = record {
  answer = shared_other (model_of c.args.destination.now) c.requires (length c.args.scratch.now) c.judge_layout.ensures.judged c.in_ok-judge_layout.was c.in-Repeated.is;
  freed = shared_freed (model_of c.args.destination.now) c.requires (length c.args.scratch.now) c.judge_layout.ensures.judged;
}
