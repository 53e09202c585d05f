use Rattle.e3_site.proofs.site.Site.plan.Given as goal

abbrev pub ghost-planned : goal.ghost-planned
ghost-planned g a = g.now
