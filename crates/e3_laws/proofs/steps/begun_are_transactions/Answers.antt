use Rattle.e3_laws.proofs.steps.Begun.Begins.{begun_txns}
use Rattle.e3_laws.proofs.steps.begun_are_transactions.Goals as goal

pub returns : goal.returns
returns c = begun_txns
