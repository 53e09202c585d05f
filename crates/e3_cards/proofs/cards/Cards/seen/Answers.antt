use Rattle.std.proofs.Common.{ap, ◌∙◌}
use Rattle.e3_cards.specs.declared.card.Card.{Card}
use Rattle.e3_cards.proofs.cards.Cards.seen.Goals as goal

pub returns : goal.returns
returns c = λ a stands. c.seen_of.ensures ∙ ap (λ (k : Card). k.seen) (c.card_of.ensures.card a stands)
