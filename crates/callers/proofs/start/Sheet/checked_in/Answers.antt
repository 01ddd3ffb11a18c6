use Rattle.callers.proofs.Sheets.{checked}
use Rattle.callers.proofs.start.Sheet.checked_in.Goals as goal

pub returns : goal.returns
returns c =
    let k = checked _ _ _ _ c.new.result c.layouts_hold.ensures.check_in c.layouts_hold.ensures.accepted c.new.ensures in
    record { layout = k.0; accepted = k.1; answered = k.2 }
