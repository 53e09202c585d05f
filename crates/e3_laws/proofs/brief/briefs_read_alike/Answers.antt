use Rattle.e3_laws.proofs.brief.Laws as laws
use Rattle.e3_laws.proofs.brief.briefs_read_alike.Goals as goal

pub returns-clause-alike : goal.returns-clause-alike
returns-clause-alike c = laws.read_alike

pub returns-clause-same : goal.returns-clause-same
returns-clause-same c = laws.same_alike

pub returns-clause-back : goal.returns-clause-back
returns-clause-back c = laws.same_brief

pub returns-clause-stand : goal.returns-clause-stand
returns-clause-stand c = laws.alike_stand

pub returns-clause-forgotten : goal.returns-clause-forgotten
returns-clause-forgotten c = laws.forget
