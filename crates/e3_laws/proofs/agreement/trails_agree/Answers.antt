use Rattle.e3_laws.proofs.agreement.Refinement.Agreeing.{made_agrees}
use Rattle.e3_laws.proofs.agreement.Refinement.Telling.{made_stands}
use Rattle.e3_laws.proofs.agreement.Refinement.Voting.{made_voted}
use Rattle.e3_laws.proofs.agreement.trails_agree.Goals as goal

pub returns-clause-agree : goal.returns-clause-agree
returns-clause-agree c = made_agrees

pub returns-clause-voted : goal.returns-clause-voted
returns-clause-voted c = made_voted

pub returns-clause-told : goal.returns-clause-told
returns-clause-told c = made_stands
