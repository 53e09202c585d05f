-- What the tables of a site stand for.
use Rattle.std.specs.Prelude.{◌≡◌, ◌<◌, ◌==◌, ◌&&◌, ◌++◌, ◌∷◌, [], ℕ, Bool, true, List, Option, Some, None, length}
use Rattle.std.specs.Option.{IsSome}
use Rattle.e3_types.specs.declared.entries.Input.{Input}
use Rattle.e3_types.specs.declared.records.Record.{Record}
use Rattle.e3_world.specs.Serial.{is_birth}
use Rattle.e3_world.specs.declared.lives.At.{At}
use Rattle.e3_world.specs.declared.lives.Life.{Life}
use Rattle.e3_cards.specs.declared.cards.Cards.{Cards}
use Rattle.e3_cards.specs.Noting.{unstepped}
use Rattle.e3_cards.specs.Tables.{CardsStand}
use Rattle.e3_places.specs.declared.places.Places.{Places}
use Rattle.e3_places.specs.Keeping.{PlacesStand}
use Rattle.e3_places.specs.Standing.{may_follow}
use Rattle.e3_site.specs.declared.past.names.Names.{Names}
use Rattle.e3_site.specs.past.Knowing.{NamesStand}
use Rattle.e3_site.specs.declared.past.logged.Logged.{Logged}
use Rattle.e3_site.specs.declared.past.tables.Tables.{Tables}
use Rattle.e3_site.specs.past.Opening.{OpensStand}

-- the tables of names, where there are any, are those of a life
abbrev pub PlacesMayStand : ℕ → Option Places → Life → Type 0
PlacesMayStand site None life = Unit {0}
PlacesMayStand site (Some places) life = PlacesStand site places life

-- names stay known behind one more record: a birth where there is none before it, and else one that may follow those
abbrev pub may_be_read : List Record → Record → Bool
may_be_read [] r = is_birth r
may_be_read (x ∷ before) r = may_follow (x ∷ before) r

-- so they do behind each of these records in turn
abbrev pub may_all_be_read : List Record → List Record → Bool
may_all_be_read before [] = true
may_all_be_read before (r ∷ rest) = may_be_read before r && may_all_be_read (before ++ r ∷ []) rest

-- what is read of a log is that of a site of this incarnation that made no step; the tables of names are, where there are
-- any, and there are where each record may be read
pub record LoggedStand (site : ℕ) (logged : Logged) (inc : ℕ) (log : List Record) : Type 0 where
  pub empty_is : logged.is_empty ≡ (length log == 0)
  pub cards_stand : CardsStand site logged.cards (unstepped inc log)
  pub places_stand : PlacesMayStand site logged.places (unstepped inc log)
  pub places_known : may_all_be_read [] log ≡ true → IsSome logged.places
  pub opens_stand : OpensStand site logged.opens (unstepped inc log)

-- the tables are those of a site with this life
pub record TablesStand (site : ℕ) (life : Life) (tables : Tables) : Type 0 where
  pub cards_stand : CardsStand site tables.cards life
  pub names_stand : NamesStand site tables.names life
  pub opens_stand : OpensStand site tables.opens life

-- what a reader has is read at this place, where 32 bits count one step more
pub record ReadsAt (place : At) (weights : List ℕ) (cards : Cards) (names : Names) (i : Input) : Type 0 where
  pub weights_are : place.weights ≡ weights
  pub input_is : place.input ≡ i
  pub few : length place.life.steps < 4294967295
  pub cards_stand : CardsStand place.site cards place.life
  pub names_stand : NamesStand place.site names place.life
