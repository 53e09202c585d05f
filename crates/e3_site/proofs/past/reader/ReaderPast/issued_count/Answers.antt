use Rattle.e3_cards.proofs.Countable.{are_countable}
use Rattle.e3_site.proofs.past.reader.ReaderPast.issued_count.Goals as goal

pub returns-clause-count : goal.returns-clause-count
returns-clause-count g c =
    c.issued_count.ensures.count g.K.Whose.place c.self.invariant.cards_stand

pub returns-clause-few : goal.returns-clause-few
returns-clause-few g c =
    c.issued_count.ensures.few (are_countable g.K.Whose.place.site _ g.K.Whose.place.life c.self.invariant.cards_stand c.self.invariant.few)
