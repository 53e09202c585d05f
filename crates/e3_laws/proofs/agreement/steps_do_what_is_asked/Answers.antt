use Rattle.e3_laws.proofs.agreement.Guarding.Doing.{attempts_made, decisions_made}
use Rattle.e3_laws.proofs.agreement.steps_do_what_is_asked.Goals as goal

pub returns-clause-attempts : goal.returns-clause-attempts
returns-clause-attempts c = attempts_made

pub returns-clause-decisions : goal.returns-clause-decisions
returns-clause-decisions c = decisions_made
