use Rattle.e3_site.proofs.past.reader.ReaderPast.site.Goals as goal

pub returns : goal.returns
returns g c =
    c.self.invariant.cards_stand.site_is
