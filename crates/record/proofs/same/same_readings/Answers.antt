-- `same_readings`: each return is one of the three ways in which two writers in turn can answer.
use Rattle.std.proofs.Common.{map, rules, Ok, Err}
use Rattle.std.proofs.lemmas.Result.{err_from_is_err_and}
use Rattle.view.specs.Model.{model_of}
use Rattle.record.specs.Calls.{call_in}
use Rattle.record.proofs.SameLaws.{written_at_end, first_turned, second_turned, both_done, meant}
use Rattle.record.proofs.same.same_readings.Goals as goal

pub returns-in_err-end : goal.returns-in_err-end
returns-in_err-end c =
    let p = err_from_is_err_and c.from_residual.result c.from_residual.ensures.1 in
    let w = written_at_end c.args.first c.run.result c.args.calls.now (Err c.in_err-end.field-0.0) c.run.ensures c.in_err-end.ensures in
    let s = first_turned _ (model_of c.args.second) _ (map call_in c.args.other_calls.now) w in
    rw (p.1, p.2) record { compared = s; means = meant _ _ _ _ s }

pub returns-in_err-other_end : goal.returns-in_err-other_end
returns-in_err-other_end c =
    let p = err_from_is_err_and c.from_residual-in_err-other_end.result c.from_residual-in_err-other_end.ensures.1 in
    let w = written_at_end c.args.first c.run.result c.args.calls.now (Ok c.in_ok-end.field-0) c.run.ensures c.in_ok-end.ensures in
    let v = written_at_end c.args.second c.run-2.result c.args.other_calls.now (Err c.in_err-other_end.field-0.0) c.run-2.ensures c.in_err-other_end.ensures in
    let s = second_turned _ _ _ _ w v in
    rw (p.1, p.2) record { compared = s; means = meant _ _ _ _ s }

pub returns : goal.returns
returns c =
    let w = written_at_end c.args.first c.run.result c.args.calls.now (Ok c.in_ok-end.field-0) c.run.ensures c.in_ok-end.ensures in
    let v = written_at_end c.args.second c.run-2.result c.args.other_calls.now (Ok c.in_ok-other_end.field-0) c.run-2.ensures c.in_ok-other_end.ensures in
    let s = both_done _ _ _ _ w v (search rules) in
    record { compared = s; means = meant _ _ _ _ s }
