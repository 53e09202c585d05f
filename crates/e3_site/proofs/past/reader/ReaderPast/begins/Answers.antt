use Rattle.e3_cards.proofs.Countable.{are_countable}
use Rattle.e3_site.proofs.past.reader.ReaderPast.begins.Goals as goal

pub returns-clause-count : goal.returns-clause-count
returns-clause-count g c =
    c.self.invariant.cards_stand.begins_are

pub returns-clause-few : goal.returns-clause-few
returns-clause-few g c =
    (are_countable g.K.Whose.place.site _ g.K.Whose.place.life c.self.invariant.cards_stand c.self.invariant.few).begins
