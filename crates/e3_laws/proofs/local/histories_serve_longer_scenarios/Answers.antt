use Rattle.e3_laws.proofs.local.Longer.{legal_for_longer}
use Rattle.e3_laws.proofs.local.histories_serve_longer_scenarios.Goals as goal

pub returns : goal.returns
returns c = legal_for_longer
