use Rattle.e3_site.proofs.past.reader.ReaderPast.has_every_yes.Goals as goal

pub returns : goal.returns
returns g c =
    c.has_every_yes.ensures g.K.Whose.place c.self.invariant.cards_stand c.self.invariant.input_is
