use Rattle.e3_laws.proofs.steps.Begun.Laws.{packets_own}
use Rattle.e3_laws.proofs.steps.packets_are_their_owners.Goals as goal

pub returns : goal.returns
returns c = packets_own
