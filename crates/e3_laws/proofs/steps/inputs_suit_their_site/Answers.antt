use Rattle.e3_laws.proofs.steps.Suits.Laws.{inputs_suit}
use Rattle.e3_laws.proofs.steps.inputs_suit_their_site.Goals as goal

pub returns : goal.returns
returns c = inputs_suit
