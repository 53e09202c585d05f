use Rattle.e3_site.proofs.past.reader.ReaderPast.election.Goals as goal

pub returns : goal.returns
returns g c =
    c.election.ensures g.K.Whose.place c.self.invariant.cards_stand
