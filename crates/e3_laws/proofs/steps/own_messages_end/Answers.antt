use Rattle.e3_laws.proofs.steps.Inputs.{ranks_fall, own_end}
use Rattle.e3_laws.proofs.steps.own_messages_end.Goals as goal

pub returns-clause-ranks : goal.returns-clause-ranks
returns-clause-ranks c = ranks_fall

pub returns-clause-ends : goal.returns-clause-ends
returns-clause-ends c = own_end
