use Rattle.e3_laws.proofs.steps.Suits.Laws.{inputs_fit}
use Rattle.e3_laws.proofs.steps.due_inputs_fit.Goals as goal

pub returns : goal.returns
returns c = inputs_fit
