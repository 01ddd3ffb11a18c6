-- The front of the output is one of just the size.
use Rattle.view.specs.Model.{model_of}
use Rattle.means.proofs.CallLaws.{front_suits}
use Rattle.means.proofs.means.Goals as goal

pub write_means-requires-clause-written : goal.write_means-requires-clause-written
write_means-requires-clause-written c =
    let a = c.args in
    front_suits (model_of a.layout.now) a.axis c.in_ok-rest.count a.readings.now a.out.now c.in_ok-rest.ensures.answer
