use Rattle.std.proofs.Common.{◌∙◌}
use Rattle.e3_cards.proofs.Reading.{yes_at}
use Rattle.e3_cards.proofs.cards.Cards.has_every_yes.Goals as goal

pub returns : goal.returns
returns c = λ a stands input.
    let card = c.card_of.ensures.card a stands in
    c.every_yes.ensures ∙ yes_at c.args.self.now.site c.args.t.now a c.args.input.now c.args.made.now _ stands.site_is input card
