use Rattle.e3_site.proofs.past.reader.ReaderPast.grants_after.Given as goal

abbrev pub ghost-grants_after : goal.ghost-grants_after
ghost-grants_after g a = g.K.Whose.place
