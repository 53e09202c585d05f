use Rattle.std.proofs.Common.{◌∙◌, ap}
use Rattle.e3_cards.specs.declared.card.Card.{Card}
use Rattle.e3_cards.proofs.cards.Cards.round.Goals as goal

pub returns : goal.returns
returns c = λ a stands. c.round_of.ensures ∙ ap (λ (k : Card). k.rounds.now) (c.card_of.ensures.card a stands)
