use Rattle.e3_laws.proofs.brief.Laws as laws
use Rattle.e3_laws.proofs.brief.briefs_go_on.Goals as goal

pub returns-clause-again : goal.returns-clause-again
returns-clause-again c = laws.are_brief

pub returns-clause-more : goal.returns-clause-more
returns-clause-more c = laws.go_on

pub returns-clause-orderly : goal.returns-clause-orderly
returns-clause-orderly c = laws.are_orderly

pub returns-clause-some : goal.returns-clause-some
returns-clause-some c = laws.are_some
