use Rattle.e3_laws.proofs.steps.Histories.{step_is_own, numbers_are_all, taken_number}
use Rattle.e3_laws.proofs.steps.steps_are_local.Goals as goal

pub returns-clause-entries : goal.returns-clause-entries
returns-clause-entries c = step_is_own

pub returns-clause-numbers : goal.returns-clause-numbers
returns-clause-numbers c = numbers_are_all

pub returns-clause-taken : goal.returns-clause-taken
returns-clause-taken c = taken_number
