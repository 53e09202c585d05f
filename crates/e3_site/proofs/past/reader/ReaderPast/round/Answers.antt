use Rattle.e3_site.proofs.past.reader.ReaderPast.round.Goals as goal

pub returns : goal.returns
returns g c =
    c.round.ensures g.K.Whose.place c.self.invariant.cards_stand
