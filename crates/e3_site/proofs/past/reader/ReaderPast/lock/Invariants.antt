use Rattle.e3_site.proofs.past.reader.ReaderPast.lock.Given as goal

abbrev pub ghost-lock : goal.ghost-lock
ghost-lock g a = g.K.Whose.place
