use Rattle.e3_cards.proofs.Countable.{are_countable}
use Rattle.e3_site.proofs.past.reader.ReaderPast.next_call.Goals as goal

pub next_call-requires : goal.next_call-requires
next_call-requires g c = are_countable g.K.Whose.place.site _ g.K.Whose.place.life c.self.invariant.cards_stand c.self.invariant.few

pub returns : goal.returns
returns g c =
    c.next_call.ensures g.K.Whose.place c.self.invariant.cards_stand
