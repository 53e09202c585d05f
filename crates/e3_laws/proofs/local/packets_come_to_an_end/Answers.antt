use Rattle.e3_laws.proofs.local.Measure.Ending.{packets_end}
use Rattle.e3_laws.proofs.local.packets_come_to_an_end.Goals as goal

pub returns : goal.returns
returns c = packets_end c.taking_lowers_the_measure.ensures.lowers
