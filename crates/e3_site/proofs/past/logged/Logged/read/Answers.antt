use Rattle.std.proofs.Common.{[], Option, subst, sym}
use Rattle.std.specs.Option.{IsSome}
use Rattle.e3_cards.specs.Noting.{unstepped}
use Rattle.e3_places.specs.declared.places.Places.{Places}
use Rattle.e3_site.specs.past.Standing.{PlacesMayStand}
use Rattle.e3_site.proofs.past.Known.{not_empty, read_push}
use Rattle.e3_site.proofs.past.logged.Logged.read.Goals as goal

pub returns : goal.returns
returns c = λ site inc log stand. record {
  empty_is = not_empty log c.args.r.now;
  cards_stand = c.in_ok-note.ensures site inc log stand.cards_stand;
  places_stand =
      c.in_ok-places.ensures.stand site inc log stand.empty_is stand.cards_stand
      (subst (λ (o : Option Places). PlacesMayStand site o (unstepped inc log)) (sym c.replace-were.ensures.value) stand.places_stand);
  places_known = λ all.
      c.in_ok-places.ensures.known site inc log stand.empty_is stand.cards_stand
      (subst (λ (o : Option Places). IsSome o) (sym c.replace-were.ensures.value) (stand.places_known (read_push [] log c.args.r.now all).0))
      (read_push [] log c.args.r.now all).1;
  opens_stand = c.in_ok-note_opens.ensures site inc log stand.cards_stand stand.opens_stand;
}
