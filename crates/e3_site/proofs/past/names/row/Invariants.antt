use Rattle.e3_site.proofs.past.names.row.Given as goal

abbrev pub ghost-row : goal.ghost-row
ghost-row g a = g.a
