use Rattle.e3_log.proofs.Wholeness as laws
use Rattle.e3_log.proofs.law.calls_are_whole_or_not_at_all.Goals as goal

pub returns-clause-appends : goal.returns-clause-appends
returns-clause-appends c = laws.appends

pub returns-clause-turns : goal.returns-clause-turns
returns-clause-turns c = laws.turns

pub returns-clause-clears : goal.returns-clause-clears
returns-clause-clears c = laws.clears
