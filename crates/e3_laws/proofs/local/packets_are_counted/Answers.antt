use Rattle.e3_laws.proofs.local.Measure.Left.{counted_entries}
use Rattle.e3_laws.proofs.local.packets_are_counted.Goals as goal

pub returns : goal.returns
returns c = counted_entries c.taking_lowers_the_measure.ensures.lowers
