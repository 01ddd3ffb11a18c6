-- Of the sheet as it was checked in.
use Rattle.callers.specs.Sheets.{sheet_of}
use Rattle.callers.proofs.FaceLaws.{stand-all, counted, meant}
use Rattle.callers.proofs.faces.face_means.Goals as goal

pub returns-clause-count : goal.returns-clause-count
returns-clause-count c =
    let a = c.args in
    counted c.means_hold.ensures.means (sheet_of a.sheet) a.face a.readings.now a.out.now c.means.result (rw c.in_ok-checked_in.ensures.layout at c.means.ensures.answer)

pub returns-clause-means : goal.returns-clause-means
returns-clause-means c =
    let a = c.args in
    let e = c.means.ensures in
    let l = c.in_ok-checked_in.ensures.layout in
    stand-all c.means_hold.ensures.means (sheet_of a.sheet) a.face a.readings.now a.out.now c.means.result (rw l at e.answer) (rw l at e.written)

pub returns-clause-answered : goal.returns-clause-answered
returns-clause-answered c count fit w =
    let a = c.args in
    meant c.means_hold.ensures.means (sheet_of a.sheet) a.face a.readings.now a.out.now c.means.result (rw c.in_ok-checked_in.ensures.layout at c.means.ensures.answer) count w
