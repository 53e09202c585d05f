-- is_awaited
use Rattle.e3_cards.proofs.Reading.{ok_is, awaited_at}
use Rattle.e3_cards.proofs.cards.Cards.is_awaited.Goals as goal

pub awaits-requires : goal.awaits-requires
awaits-requires c = (c.card_of.ensures.countable c.requires).issued

pub returns : goal.returns
returns c = λ a stands input.
    let card = c.card_of.ensures.card a stands in
    ok_is c.awaits.result _ _ (awaited_at c.args.f c.args.t.now c.args.n a c.args.input.now c.args.made.now _ input card) c.awaits.ensures
