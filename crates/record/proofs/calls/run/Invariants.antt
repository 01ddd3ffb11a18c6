use Rattle.std.proofs.Common.{◌≡◌, map, drop}
use Rattle.specification.specs.Calls.{end_of}
use Rattle.view.specs.Model.{model_of}
use Rattle.record.specs.Calls.{call_in}
use Rattle.record.proofs.calls.run.Given as goal

abbrev pub invariant-loop-call : goal.invariant-loop-call
invariant-loop-call l = end_of (model_of l.layout) (map call_in (drop l.call-index l.calls)) ≡ end_of (model_of l.fn.start) (map call_in l.calls)
