use Rattle.e3_site.proofs.past.reader.ReaderPast.answer.Goals as goal

pub returns : goal.returns
returns g c =
    c.answer.ensures g.K.Whose.place c.self.invariant.cards_stand
