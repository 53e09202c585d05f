use Rattle.e3_laws.proofs.brief.Sets.{txns_known}
use Rattle.e3_laws.proofs.brief.logged_sites_are_sets.Goals as goal

pub returns : goal.returns
returns c = txns_known
