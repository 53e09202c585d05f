use Rattle.std.proofs.Common.{◌∙◌}
use Rattle.e3_cards.proofs.Reading.{answer_at}
use Rattle.e3_cards.proofs.cards.Cards.answer.Goals as goal

pub returns : goal.returns
returns c = λ a stands.
    let card = c.card_of.ensures.card a stands in
    c.answer_of.ensures ∙ answer_at c.args.q.now a _ card
