use Rattle.specification.proofs.RecordsAgreeProved.{records_agree}
use Rattle.record.proofs.RunningLaws.{chains_agree, runs_agree}
use Rattle.record.proofs.calls_hold.Goals as goal

pub returns-clause-agree : goal.returns-clause-agree
returns-clause-agree c = records_agree

pub returns-clause-running_agree : goal.returns-clause-running_agree
returns-clause-running_agree c = chains_agree

pub returns-clause-runs_agree : goal.returns-clause-runs_agree
returns-clause-runs_agree c = runs_agree
