use Rattle.e3_laws.proofs.agreement.Fitting.{given_fit}
use Rattle.e3_laws.proofs.agreement.Histories.{given_agrees, given_told, given_voted}
use Rattle.e3_laws.proofs.agreement.Standing.{given_stands}
use Rattle.e3_laws.proofs.agreement.histories_agree.Goals as goal

pub returns-clause-fit : goal.returns-clause-fit
returns-clause-fit c = given_fit

pub returns-clause-agree : goal.returns-clause-agree
returns-clause-agree c = given_agrees

pub returns-clause-voted : goal.returns-clause-voted
returns-clause-voted c = given_voted

pub returns-clause-packets : goal.returns-clause-packets
returns-clause-packets c = given_told

pub returns-clause-told : goal.returns-clause-told
returns-clause-told c = given_stands
