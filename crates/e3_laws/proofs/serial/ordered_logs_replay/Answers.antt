use Rattle.e3_laws.proofs.serial.Lists.Laws.{ordered_tables, ordered_votes}
use Rattle.e3_laws.proofs.serial.ordered_logs_replay.Goals as goal

pub returns-clause-tables : goal.returns-clause-tables
returns-clause-tables c = ordered_tables

pub returns-clause-votes : goal.returns-clause-votes
returns-clause-votes c = ordered_votes
