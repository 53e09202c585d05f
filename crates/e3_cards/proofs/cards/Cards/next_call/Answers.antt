-- next_call
use Rattle.std.proofs.Common.{◌∙◌}
use Rattle.e3_cards.proofs.Reading.{call_at}
use Rattle.e3_cards.proofs.cards.Cards.next_call.Goals as goal

pub call_next-requires : goal.call_next-requires
call_next-requires c = c.requires.calls

pub returns : goal.returns
returns c = λ a stands. c.call_next.ensures ∙ call_at c.args.self.now a stands
