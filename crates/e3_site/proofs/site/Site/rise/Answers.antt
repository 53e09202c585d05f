use Rattle.e3_site.proofs.Standing.{stands_risen}
use Rattle.e3_site.proofs.site.Site.rise.Goals as goal

pub returns-clause-stands : goal.returns-clause-stands
returns-clause-stands c = stands_risen (record { weights = c.args.weights; site = c.args.site; inputs = 0; tables = c.args.tables })
