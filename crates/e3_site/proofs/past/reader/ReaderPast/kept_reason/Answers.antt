use Rattle.e3_site.proofs.past.reader.ReaderPast.kept_reason.Goals as goal

pub returns : goal.returns
returns g c =
    c.kept_reason.ensures g.K.Whose.place c.self.invariant.cards_stand
