use Rattle.e3_laws.proofs.agreement.Refinement.Following.{made_allowed}
use Rattle.e3_laws.proofs.agreement.trails_keep_rules.Goals as goal

pub returns : goal.returns
returns c = made_allowed
