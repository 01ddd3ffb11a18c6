use Rattle.callers.proofs.ByDigits.{by_digits}
use Rattle.callers.proofs.digits.written_by_digits.Goals as goal

pub returns : goal.returns
returns c = by_digits c.args.layout.now c.write_record.result _ _ _ _ c.records_hold.ensures.bytes c.write_record.ensures
