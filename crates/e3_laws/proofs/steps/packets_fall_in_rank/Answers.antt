use Rattle.e3_laws.proofs.steps.Inputs.{packets_fall}
use Rattle.e3_laws.proofs.steps.packets_fall_in_rank.Goals as goal

pub returns : goal.returns
returns c = packets_fall
