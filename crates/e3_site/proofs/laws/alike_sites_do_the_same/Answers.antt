use Rattle.e3_site.proofs.Alike as laws
use Rattle.e3_site.proofs.laws.alike_sites_do_the_same.Goals as goal

pub returns-clause-plans : goal.returns-clause-plans
returns-clause-plans c = laws.plans

pub returns-clause-opens : goal.returns-clause-opens
returns-clause-opens c = laws.opens
