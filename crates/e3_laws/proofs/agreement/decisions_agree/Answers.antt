use Rattle.e3_laws.proofs.agreement.Protocol.Agree.{agrees}
use Rattle.e3_laws.proofs.agreement.Protocol.Keep.{law}
use Rattle.e3_laws.proofs.agreement.decisions_agree.Goals as goal

pub returns-clause-invariant : goal.returns-clause-invariant
returns-clause-invariant c = law

pub returns-clause-agree : goal.returns-clause-agree
returns-clause-agree c = λ g s o r. agrees g s (law g s o r)
