use Rattle.e3_laws.proofs.agreement.Protocol.Reached.{marks_agree, marks_vote, marks_tell}
use Rattle.e3_laws.proofs.agreement.marks_agree.Goals as goal

pub returns-clause-agree : goal.returns-clause-agree
returns-clause-agree c = marks_agree

pub returns-clause-voted : goal.returns-clause-voted
returns-clause-voted c = marks_vote

pub returns-clause-told : goal.returns-clause-told
returns-clause-told c = marks_tell
