use Rattle.e3_site.proofs.Alike as laws
use Rattle.e3_site.proofs.laws.alike_sites_stay_alike.Goals as goal

pub returns-clause-exact : goal.returns-clause-exact
returns-clause-exact c = laws.exact

pub returns-clause-rises : goal.returns-clause-rises
returns-clause-rises c = laws.rises

pub returns-clause-still : goal.returns-clause-still
returns-clause-still c = laws.still

pub returns-clause-on : goal.returns-clause-on
returns-clause-on c = laws.on
