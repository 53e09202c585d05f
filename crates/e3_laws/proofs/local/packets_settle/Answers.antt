use Rattle.e3_laws.proofs.local.Measure.Answering.{answers_end_or_doom, packets_settle}
use Rattle.e3_laws.proofs.local.packets_settle.Goals as goal

pub returns-clause-answers : goal.returns-clause-answers
returns-clause-answers c = answers_end_or_doom

pub returns-clause-packets : goal.returns-clause-packets
returns-clause-packets c = packets_settle c.packets_fall_in_rank.ensures
