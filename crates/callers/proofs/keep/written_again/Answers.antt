use Rattle.std.proofs.Common.{arith}
use Rattle.std.proofs.lemmas.Result.{err_from_is_err_and}
use Rattle.callers.proofs.Kept.{written_again, again, read_refused}
use Rattle.callers.proofs.keep.written_again.Goals as goal

pub returns-in_err-layout-clause-refused : goal.returns-in_err-layout-clause-refused
returns-in_err-layout-clause-refused c h =
    let p = err_from_is_err_and c.from_residual.result c.from_residual.ensures.1 in
    rw (p.1, p.2) (read_refused _ _ _ _ _ c.records_hold.ensures.reader c.in_err-layout.ensures)

pub returns : goal.returns
returns c =
    let k = again c.write_record.result _ _ _ _ _ (λ h.
    written_again c.args.bytes.now _ _ _ _ _ c.in_ok-layout.layout c.write_record.result c.calls_hold.ensures.lent c.calls_hold.ensures.running_round_trips (λ i. omega (arith, c.type_inv.bytes i))
    c.in_ok-layout.ensures h c.write_record.ensures) in
    record { same = k.0; whole = k.1; refused = k.2 }
