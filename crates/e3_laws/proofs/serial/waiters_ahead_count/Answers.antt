use Rattle.e3_laws.proofs.serial.Waits.Waiting.{first_waits, for_holder, for_one_ahead}
use Rattle.e3_laws.proofs.serial.waiters_ahead_count.Goals as goal

pub returns-clause-first : goal.returns-clause-first
returns-clause-first c = first_waits

pub returns-clause-holder : goal.returns-clause-holder
returns-clause-holder c = for_holder

pub returns-clause-ahead : goal.returns-clause-ahead
returns-clause-ahead c = for_one_ahead
