use Rattle.e3_laws.proofs.serial.Orderly.Combining.{incarnations_count_up, logs_are_orderly}
use Rattle.e3_laws.proofs.serial.Orderly.Tails.{tails_are_logs, tails_are_orderly}
use Rattle.e3_laws.proofs.serial.logs_are_orderly.Goals as goal

pub returns-clause-logs : goal.returns-clause-logs
returns-clause-logs c = logs_are_orderly c.trails_are_sound.ensures.sound c.trails_are_sound.ensures.logs c.logs_are_ordered.ensures

pub returns-clause-count : goal.returns-clause-count
returns-clause-count c = incarnations_count_up

pub returns-clause-others : goal.returns-clause-others
returns-clause-others c = tails_are_logs

pub returns-clause-tails : goal.returns-clause-tails
returns-clause-tails c = tails_are_orderly (logs_are_orderly c.trails_are_sound.ensures.sound c.trails_are_sound.ensures.logs c.logs_are_ordered.ensures)
