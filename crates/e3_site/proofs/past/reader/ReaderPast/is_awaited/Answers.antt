use Rattle.e3_cards.proofs.Countable.{are_countable}
use Rattle.e3_site.proofs.past.reader.ReaderPast.is_awaited.Goals as goal

pub is_awaited-requires : goal.is_awaited-requires
is_awaited-requires g c = are_countable g.K.Whose.place.site _ g.K.Whose.place.life c.self.invariant.cards_stand c.self.invariant.few

pub returns : goal.returns
returns g c =
    c.is_awaited.ensures g.K.Whose.place c.self.invariant.cards_stand c.self.invariant.input_is
