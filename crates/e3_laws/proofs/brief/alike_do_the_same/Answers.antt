use Rattle.e3_laws.proofs.brief.Alike.Laws as laws
use Rattle.e3_laws.proofs.brief.alike_do_the_same.Goals as goal

pub returns-clause-steps : goal.returns-clause-steps
returns-clause-steps c = laws.steps_alike

pub returns-clause-opens : goal.returns-clause-opens
returns-clause-opens c = laws.opens_alike
