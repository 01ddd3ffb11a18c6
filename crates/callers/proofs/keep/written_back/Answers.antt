use Rattle.std.proofs.lemmas.Result.{err_from_is_err_and}
use Rattle.callers.proofs.Kept.{read_is_form, kept, write_answered}
use Rattle.callers.proofs.keep.written_back.Goals as goal

pub returns-in_err-write_record-clause-answered : goal.returns-in_err-write_record-clause-answered
returns-in_err-write_record-clause-answered c a h =
    absurd (write_answered c.args.layout.now c.in_err-write_record.field-0.0 _ _ _ _ c.calls_hold.ensures.agree c.in_err-write_record.ensures a h)

pub returns-in_err-write_record-clause-by_writer : goal.returns-in_err-write_record-clause-by_writer
returns-in_err-write_record-clause-by_writer c =
    let p = err_from_is_err_and c.from_residual.result c.from_residual.ensures.1 in
    rw (p.1, p.2) c.in_err-write_record.ensures.answer_is

pub returns : goal.returns
returns c =
    let form = read_is_form c.args.layout.now c.in_ok-write_record.field-0 _ _ _ _ _ _ c.calls_hold.ensures.lent c.calls_hold.ensures.running_round_trips c.in_ok-write_record.ensures c.read_record.ensures in
    let k = kept c.read_record.result _ _ c.normal_forms_hold.ensures.normal form in
    record { form = k.0; same = k.1; answered = λ a h. k.2; by_writer = k.3 }
