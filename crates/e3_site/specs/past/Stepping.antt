-- What a step makes of the tables of a site.
use Rattle.std.specs.Prelude.{◌≡◌, ℕ, true}
use Rattle.e3_world.specs.declared.lives.Life.{Life}
use Rattle.e3_world.specs.declared.lives.SiteStep.{SiteStep}
use Rattle.e3_cards.specs.Tables.{AreChanges, CardsStand, HasRoom as HasCards}
use Rattle.e3_site.specs.past.Knowing.{AreBehind, NamesStand}
use Rattle.e3_places.specs.Keeping.{HasRoom as HasPlaces}
use Rattle.e3_places.specs.Standing.{follow}
use Rattle.e3_site.specs.declared.past.tables.Behind.{Behind}
use Rattle.e3_site.specs.declared.past.tables.Tables.{Tables}
use Rattle.e3_site.specs.past.Opening.{AreAdded, HaveRoom}
use Rattle.e3_site.specs.past.Standing.{TablesStand}

-- it is what the step makes of just these tables: of the cards, and at every life for which these stand, of what is known of
-- names, where the step's records may follow the log, and of what is open
pub record IsMadeOf (tables : Tables) (s : SiteStep) (behind : Behind) : Type 0 where
  pub cards_are : AreChanges tables.cards s behind.cards
  pub names_are : (site : ℕ) (life : Life) → CardsStand site tables.cards life → NamesStand site tables.names life
      → follow life.log s.records ≡ true → AreBehind site tables.names life s behind.names
  pub opens_are : (site : ℕ) (life : Life) → CardsStand site tables.cards life → AreAdded site life s behind.opens

-- there is room for all of it
pub record HasRoom (tables : Tables) (behind : Behind) : Type 0 where
  pub cards : HasCards tables.cards.map.entries behind.cards.cards
  pub names : HasPlaces tables.names.places behind.names.changes
  pub opens : HaveRoom tables.opens behind.opens

-- whatever life the first tables stand for, the second stand for; and what a step makes of the first, where they stand for
-- any life, it makes of the second
pub record ActAlike (old new : Tables) (behind : Behind) : Type 0 where
  pub stand : (site : ℕ) (life : Life) → TablesStand site life old → TablesStand site life new
  pub are : (site : ℕ) (life : Life) (s : SiteStep) → TablesStand site life old → IsMadeOf old s behind → IsMadeOf new s behind
