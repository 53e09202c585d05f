use Rattle.e3_site.proofs.Standing.{plans_step}
use Rattle.e3_site.proofs.site.Site.plan.Goals as goal

pub returns-clause-stands : goal.returns-clause-stands
returns-clause-stands g c = plans_step g.now c.args.self.now c.args.input.now c.planned.result c.planned.ensures.made
