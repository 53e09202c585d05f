use Rattle.e3_laws.proofs.agreement.Protocol.Keep.{law, votes_before}
use Rattle.e3_laws.proofs.agreement.votes_come_first.Goals as goal

pub returns : goal.returns
returns c = λ g s t o r. votes_before g s t (law g s o r)
