use Rattle.std.proofs.Common.{◌∙◌}
use Rattle.e3_cards.proofs.Reading.{waits_at}
use Rattle.e3_cards.proofs.cards.Cards.waits.Goals as goal

pub returns : goal.returns
returns c = λ a stands.
    let card = c.card_of.ensures.card a stands in
    c.waits_now.ensures ∙ waits_at c.args.t.now a c.args.made.now _ card
