use Rattle.e3_site.proofs.past.names.lock.Given as goal

abbrev pub ghost-lock : goal.ghost-lock
ghost-lock g a = g.a
