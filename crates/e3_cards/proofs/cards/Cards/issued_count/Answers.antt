-- issued_count
use Rattle.std.proofs.Common.{ap, subst, sym, ◌∙◌, ◌<◌, List, length}
use Rattle.e3_types.specs.declared.transactions.Op.{Op}
use Rattle.e3_cards.specs.declared.card.Card.{Card}
use Rattle.e3_cards.proofs.cards.Cards.issued_count.Goals as goal

pub returns-clause-count : goal.returns-clause-count
returns-clause-count c = λ a stands.
    let card = c.card_of.ensures.card a stands in
    ap (λ (l : List Op). length l) (c.issued_of.ensures ∙ ap (λ (k : Card). k.issued) card)

pub returns-clause-few : goal.returns-clause-few
returns-clause-few c = λ all. subst (λ (l : List Op). length l < 4294967295) (sym c.issued_of.ensures) (c.card_of.ensures.countable all).issued
