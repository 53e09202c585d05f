use Rattle.std.proofs.Common.{◌∙◌}
use Rattle.e3_cards.proofs.Reading.{waiting_at}
use Rattle.e3_cards.proofs.cards.Cards.is_waiting.Goals as goal

pub returns : goal.returns
returns c = λ a stands.
    let card = c.card_of.ensures.card a stands in
    c.is_waiting_now.ensures ∙ waiting_at c.args.q.now a c.args.made.now _ card
