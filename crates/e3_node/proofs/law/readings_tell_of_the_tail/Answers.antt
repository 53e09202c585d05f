use Rattle.e3_node.proofs.Told.{readings_told, tails_told}
use Rattle.e3_node.proofs.law.readings_tell_of_the_tail.Goals as goal

pub returns-clause-tails : goal.returns-clause-tails
returns-clause-tails c = tails_told c.logs_are_orderly.ensures.tails

pub returns-clause-readings : goal.returns-clause-readings
returns-clause-readings c = readings_told c.logs_are_orderly.ensures.tails
