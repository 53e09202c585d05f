use Rattle.e3_site.proofs.past.reader.ReaderPast.waits.Goals as goal

pub returns : goal.returns
returns g c =
    c.waits.ensures g.K.Whose.place c.self.invariant.cards_stand
