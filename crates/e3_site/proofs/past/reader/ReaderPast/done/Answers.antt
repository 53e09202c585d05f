use Rattle.e3_site.proofs.past.reader.ReaderPast.done.Goals as goal

pub returns : goal.returns
returns g c =
    c.done.ensures g.K.Whose.place c.self.invariant.cards_stand
