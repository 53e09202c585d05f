use Rattle.std.proofs.Common.{◌≡◌, false, true, Option, subst}
use Rattle.std.specs.Option.{IsSome}
use Rattle.e3_cards.specs.Noting.{unstepped}
use Rattle.e3_places.specs.declared.places.Places.{Places}
use Rattle.e3_site.specs.past.Standing.{PlacesMayStand}
use Rattle.e3_site.proofs.past.logged.Logged.into_tables.Goals as goal

pub unreachable-requires : goal.unreachable-requires
unreachable-requires c = absurd (let no : false ≡ true = subst (λ (o : Option Places). IsSome o) c.in_default.is c.requires in cc)

pub returns : goal.returns
returns c = λ site inc log stand. record {
  cards_stand = stand.cards_stand;
  names_stand = c.known.ensures site inc log (subst (λ (o : Option Places). PlacesMayStand site o (unstepped inc log)) c.in-Some.is stand.places_stand);
  opens_stand = stand.opens_stand;
}
