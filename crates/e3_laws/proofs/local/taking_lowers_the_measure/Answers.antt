use Rattle.e3_laws.proofs.local.Measure.Settling.{begins_nothing, taking_lowers}
use Rattle.e3_laws.proofs.local.taking_lowers_the_measure.Goals as goal

pub returns-clause-begins : goal.returns-clause-begins
returns-clause-begins c = begins_nothing

pub returns-clause-lowers : goal.returns-clause-lowers
returns-clause-lowers c = taking_lowers c.packets_settle.ensures.packets
