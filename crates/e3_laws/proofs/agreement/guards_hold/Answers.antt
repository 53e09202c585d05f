use Rattle.e3_laws.proofs.agreement.Guarding.Open.{attempts_open, rounds_open}
use Rattle.e3_laws.proofs.agreement.Guarding.Voted.{commits_voted}
use Rattle.e3_laws.proofs.agreement.guards_hold.Goals as goal

pub returns-clause-attempts : goal.returns-clause-attempts
returns-clause-attempts c = attempts_open

pub returns-clause-rounds : goal.returns-clause-rounds
returns-clause-rounds c = rounds_open

pub returns-clause-commits : goal.returns-clause-commits
returns-clause-commits c = commits_voted
