use Rattle.std.proofs.Common.{[]}
use Rattle.e3_site.proofs.past.stepping.behind.Goals as goal

pub returns : goal.returns
returns c = record {
  cards_are = c.in_ok-cards.ensures;
  names_are = λ site life cards names may. c.in_ok-names.ensures (record { weights = []; site = site; life = life; input = c.args.step.now.input }) cards names may;
  opens_are = λ site life cards. c.in_ok-opens.ensures (record { weights = []; site = site; life = life; input = c.args.step.now.input }) cards;
}
