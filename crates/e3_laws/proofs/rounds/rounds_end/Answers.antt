use Rattle.e3_laws.proofs.rounds.Whole.{rounds_end}
use Rattle.e3_laws.proofs.rounds.rounds_end.Goals as goal

pub returns : goal.returns
returns c = rounds_end
