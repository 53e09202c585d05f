-- card_of
use Rattle.std.proofs.Common.{subst, sym}
use Rattle.e3_cards.specs.declared.card.Card.{Card}
use Rattle.e3_cards.specs.Tables.{IsCountable}
use Rattle.e3_cards.proofs.Reading.{is_card}
use Rattle.e3_cards.proofs.cards.Cards.card_of.Goals as goal

pub returns-clause-card : goal.returns-clause-card
returns-clause-card c = λ a stands. is_card c.args.self.now c.args.t.now _ a c.card_at.ensures c.found_by_bits.ensures stands

pub returns-clause-countable : goal.returns-clause-countable
returns-clause-countable c = λ all. subst (λ (k : Card). IsCountable k) (sym c.card_at.ensures) (all.cards c.args.t.now c.found_by_bits.ensures)
