-- `is_completed`: the residues rule a vector out, or its sum is asked for.
use native.Mathlib.Omega.{arith}
use Rattle.std.proofs.lemmas.Bool.{false≢true}
use Rattle.walk.proofs.Asking.{residues-of, sums-fit, sum-is, residue-of, divided}
use Rattle.walk.proofs.difference_axis.is_completed.Goals as goal

pub returns-then-z-two : goal.returns-then-z-two
returns-then-z-two c = (λ e. absurd (false≢true e), λ w. absurd (let r = residues-of c.requires w in omega (arith, r, c.then-z-two.either)))

pub parts_of-up-requires-clause-fits : goal.parts_of-up-requires-clause-fits
parts_of-up-requires-clause-fits c = omega (arith, sums-fit c.requires)

pub completes-requires : goal.completes-requires
completes-requires c =
    let p = c.parts_of-up.ensures in
    let k = residue-of c.requires _ _ p.up p.down _ c.add_mod.ensures.1 in
    let g = divided c.requires _ _ p.up p.down (omega arith) in
    record { low = c.add_mod.ensures.0; residue = k; divides = g; fits = omega (arith, sums-fit c.requires, p) }

pub returns : goal.returns
returns c = rw (sum-is c.requires _ _ c.parts_of-up.ensures.up c.parts_of-up.ensures.down) c.completes.ensures
