-- expected
use Rattle.e3_cards.proofs.Reading.{ok_is, expected_at}
use Rattle.e3_cards.proofs.cards.Cards.expected.Goals as goal

pub expected_from-requires : goal.expected_from-requires
expected_from-requires c = c.card_of.ensures.countable c.requires

pub returns : goal.returns
returns c = λ a stands.
    let card = c.card_of.ensures.card a stands in
    ok_is c.expected_from.result _ _ (expected_at c.args.self.now.site c.args.self.now.inc c.args.of c.args.t.now a _ stands.site_is stands.inc_is card) c.expected_from.ensures
