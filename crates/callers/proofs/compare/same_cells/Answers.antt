use Rattle.std.proofs.Common.{arith, refl}
use Rattle.callers.proofs.Compared.{compared_ok, compared_answered}
use Rattle.callers.proofs.compare.same_cells.Goals as goal

pub returns-in_err-same-clause-answered : goal.returns-in_err-same-clause-answered
returns-in_err-same-clause-answered c f g h k =
    let first = c.in_ok-checked_in.ensures in
    let second = c.in_ok-checked_in-2.ensures in
    absurd (compared_answered _ _ _ _ _ _ _ _ _ _ _ _ (rw (first.layout, second.layout) at (c.in_err-same.ensures.means first.accepted second.accepted)) h k)

pub bounds-output-3 : goal.bounds-output-3
bounds-output-3 c =
    let m = compared_ok _ _ _ _ _ _ _ _ _ _ _ (c.in_ok-same.ensures.means c.in_ok-checked_in.ensures.accepted c.in_ok-checked_in-2.ensures.accepted) in
    omega (arith, m.long)

pub returns : goal.returns
returns c =
    let first = c.in_ok-checked_in.ensures in
    let second = c.in_ok-checked_in-2.ensures in
    let m = compared_ok _ _ _ _ _ _ _ _ _ _ _ (rw (first.layout, second.layout) at (c.in_ok-same.ensures.means first.accepted second.accepted)) in
    record { same = m.told; byte = m.byte; answered = λ f g h k. refl }
