use Rattle.e3_laws.proofs.steps.Histories.{front_is_legal}
use Rattle.e3_laws.proofs.steps.prefix_is_legal.Goals as goal

pub returns : goal.returns
returns c = front_is_legal
