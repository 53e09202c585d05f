use Rattle.e3_laws.proofs.agreement.Protocol.Agree.{one_direction}
use Rattle.e3_laws.proofs.agreement.Protocol.Keep.{law}
use Rattle.e3_laws.proofs.agreement.one_direction.Goals as goal

pub returns : goal.returns
returns c = λ g s o r. one_direction g s (law g s o r)
