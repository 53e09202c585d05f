use Rattle.e3_laws.proofs.rounds.Deliveries.Parts.{group_in_one_part}
use Rattle.e3_laws.proofs.rounds.group_in_one_part.Goals as goal

pub returns : goal.returns
returns c = group_in_one_part
