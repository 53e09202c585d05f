use Rattle.e3_laws.proofs.rounds.Deliveries.Forced.{delivery_is_forced}
use Rattle.e3_laws.proofs.rounds.delivery_is_forced.Goals as goal

pub returns : goal.returns
returns c = delivery_is_forced
