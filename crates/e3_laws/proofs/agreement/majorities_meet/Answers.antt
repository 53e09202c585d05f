use Rattle.e3_laws.proofs.agreement.Protocol.Shares.{majorities_overlap}
use Rattle.e3_laws.proofs.agreement.majorities_meet.Goals as goal

pub returns : goal.returns
returns c = majorities_overlap
