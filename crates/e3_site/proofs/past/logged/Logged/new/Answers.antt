use Rattle.std.proofs.Common.{refl}
use Rattle.e3_site.proofs.past.logged.Logged.new.Goals as goal

pub returns : goal.returns
returns c = record {
  empty_is = refl;
  cards_stand = c.no_cards.ensures;
  places_stand = c.unborn.ensures c.args.site c.args.inc;
  places_known = λ all. refl;
  opens_stand = c.no_opens.ensures c.args.site c.args.inc;
}
