use Rattle.e3_laws.proofs.agreement.Protocol.Ruled.{verdicts_rule}
use Rattle.e3_laws.proofs.agreement.verdicts_keep_rules.Goals as goal

pub returns : goal.returns
returns c = verdicts_rule
