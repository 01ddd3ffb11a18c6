-- The calls of the code as those that the definitions speak of, and where a list of them ends.
use Rattle.std.specs.Prelude.{List, map, ◌≡◌}
use Rattle.specification.specs.Calls as definition
use Rattle.view.specs.declared.layout.Layout.{Layout}
use Rattle.view.specs.Model.{model_of}
use Rattle.view.specs.Ties.{pairs_in}
use Rattle.record.specs.declared.calls.Call.{Call}
use Rattle.record.specs.declared.calls.Call.TheVariants.{Permute, DiagonalView, Broadcast}

-- a call by its meaning
abbrev pub call_in : Call → definition.Call
call_in (Permute order) = definition.permuting order.now
call_in (DiagonalView pairs) = definition.diagonal (pairs_in pairs.now)
call_in (Broadcast targets) = definition.broadcasting targets.now

-- what `run` promises: it hands back the layout after the last call
abbrev pub RunTo : Layout → List Call → Layout → Type 0
RunTo start calls end = model_of end ≡ definition.end_of (model_of start) (map call_in calls)
