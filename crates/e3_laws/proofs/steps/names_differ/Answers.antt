use Rattle.e3_laws.proofs.steps.Suits.Laws.{names_apart}
use Rattle.e3_laws.proofs.steps.names_differ.Goals as goal

pub returns : goal.returns
returns c = names_apart
