use Rattle.e3_site.proofs.past.reader.ReaderPast.is_waiting.Goals as goal

pub returns : goal.returns
returns g c =
    c.is_waiting.ensures g.K.Whose.place c.self.invariant.cards_stand
