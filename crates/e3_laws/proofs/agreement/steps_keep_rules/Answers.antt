use Rattle.e3_laws.proofs.agreement.Refinement.Whole.{good_step}
use Rattle.e3_laws.proofs.agreement.steps_keep_rules.Goals as goal

pub returns : goal.returns
returns c = good_step
