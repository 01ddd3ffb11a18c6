-- What is refused behind 13, or how many means there are.
use Rattle.std.proofs.Common.{sym, rules}
use Rattle.means.proofs.CountedLaws.{few, no_room, bad_extent, good_extent}
use Rattle.means.proofs.counted_remaining.Goals as goal

pub returns-then-room-count-clause-answer : goal.returns-then-room-count-clause-answer
returns-then-room-count-clause-answer c =
    let a = c.args in
    sym (no_room a.layout.now a.axis a.readings a.room (sym c.in_ok-reach.ensures) c.if-layout-axis.false c.remaining-rest.result c.remaining-rest.ensures.model (sym c.in_ok-count.ensures)
    (sym c.if-is_past.ensures) c.if-room-count.true)

pub returns-in_err-extent_refusal-clause-answer : goal.returns-in_err-extent_refusal-clause-answer
returns-in_err-extent_refusal-clause-answer c =
    let a = c.args in
    let reach = sym c.in_ok-reach.ensures in
    let e = bad_extent a.layout.now a.axis a.readings a.room reach c.if-layout-axis.false c.remaining-rest.result c.remaining-rest.ensures.model (sym c.in_ok-count.ensures)
    (sym c.if-is_past.ensures) c.if-room-count.false (c.axes.ensures.all (few a.layout.now a.axis a.readings a.room reach)) (sym c.in_err-extent_refusal.ensures) in
    search (rules, e)

pub returns-clause-answer : goal.returns-clause-answer
returns-clause-answer c =
    let a = c.args in
    let reach = sym c.in_ok-reach.ensures in
    sym (good_extent a.layout.now a.axis a.readings a.room reach c.if-layout-axis.false c.remaining-rest.result c.remaining-rest.ensures.model (sym c.in_ok-count.ensures)
    (sym c.if-is_past.ensures) c.if-room-count.false (c.axes.ensures.all (few a.layout.now a.axis a.readings a.room reach)) (sym c.in_ok-extent_refusal.ensures))
