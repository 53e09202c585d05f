use Rattle.std.proofs.Common.{ap, ◌∙◌}
use Rattle.e3_cards.specs.declared.card.Card.{Card}
use Rattle.e3_readings.specs.Awaiting.{first_of}
use Rattle.e3_cards.proofs.cards.Cards.kept_reason.Goals as goal

pub returns : goal.returns
returns c = λ a stands.
    let card = c.card_of.ensures.card a stands in
    c.first_reason.ensures ∙ ap first_of (c.reasons_of.ensures ∙ ap (λ (k : Card). k.reasons) card)
