use Rattle.e3_world.specs.Moves.{trail_of}
use Rattle.e3_laws.proofs.serial.legal_histories_replay.Goals as goal

pub returns-clause-tables : goal.returns-clause-tables
returns-clause-tables c = λ sc h given legal. c.ordered_logs_replay.ensures.tables sc (trail_of sc h) (c.logs_are_ordered.ensures sc h given legal)

pub returns-clause-votes : goal.returns-clause-votes
returns-clause-votes c = λ sc h given legal. c.ordered_logs_replay.ensures.votes sc (trail_of sc h) (c.logs_are_ordered.ensures sc h given legal)
