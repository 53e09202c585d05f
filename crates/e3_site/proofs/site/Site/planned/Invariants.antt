use Rattle.e3_site.proofs.site.Site.planned.Given as goal

abbrev pub ghost-step_with : goal.ghost-step_with
ghost-step_with g a = g.now
