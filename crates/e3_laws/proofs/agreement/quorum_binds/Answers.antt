use Rattle.e3_laws.proofs.agreement.Protocol.Agree.{binds}
use Rattle.e3_laws.proofs.agreement.Protocol.Keep.{law}
use Rattle.e3_laws.proofs.agreement.quorum_binds.Goals as goal

pub returns : goal.returns
returns c = λ g s o r. binds g s (law g s o r)
