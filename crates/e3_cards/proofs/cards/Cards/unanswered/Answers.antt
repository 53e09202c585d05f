-- unanswered
use Rattle.std.proofs.Common.{arith, ◌∙◌}
use Rattle.e3_cards.proofs.Reading.{unanswered_at}
use Rattle.e3_cards.proofs.cards.Cards.unanswered.Goals as goal

pub unanswered_now-requires : goal.unanswered_now-requires
unanswered_now-requires c = let few = (c.card_of.ensures.countable c.requires).issued in omega (arith, few)

pub returns : goal.returns
returns c = λ a stands.
    let card = c.card_of.ensures.card a stands in
    c.unanswered_now.ensures ∙ unanswered_at c.args.t.now a c.args.made.now _ card
