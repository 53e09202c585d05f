use Rattle.e3_cards.proofs.Reading.{ok_is, done_at}
use Rattle.e3_cards.proofs.cards.Cards.done.Goals as goal

pub returns : goal.returns
returns c = λ a stands.
    let card = c.card_of.ensures.card a stands in
    ok_is c.done_of.result _ _ (done_at c.args.t.now a _ card) c.done_of.ensures
