use Rattle.std.proofs.Common.{ap}
use Rattle.e3_cards.specs.declared.card.Card.{Card}
use Rattle.e3_cards.proofs.Reading.{ok_is}
use Rattle.e3_cards.proofs.cards.Cards.election.Goals as goal

pub returns : goal.returns
returns c = λ a stands.
    let card = c.card_of.ensures.card a stands in
    ok_is c.election_of.result _ _ (ap (λ (k : Card). k.election) card) c.election_of.ensures
