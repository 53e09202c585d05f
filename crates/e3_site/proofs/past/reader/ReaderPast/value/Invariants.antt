use Rattle.e3_site.proofs.past.reader.ReaderPast.value.Given as goal

abbrev pub ghost-row : goal.ghost-row
ghost-row g a = g.K.Whose.place
