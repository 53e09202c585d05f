-- What a site knows of names, and what a step makes of it.
use Rattle.std.specs.Prelude.{◌≡◌, ℕ, true}
use Rattle.e3_world.specs.declared.lives.Life.{Life}
use Rattle.e3_world.specs.declared.lives.SiteStep.{SiteStep}
use Rattle.e3_world.specs.Lives.{life_by}
use Rattle.e3_places.specs.Standing.{fresh_of, follow}
use Rattle.e3_places.specs.Keeping.{PlacesStand, AreChanges}
use Rattle.e3_places.specs.Granting.{RestlessStand}
use Rattle.e3_site.specs.declared.past.names.Names.{Names}
use Rattle.e3_site.specs.declared.past.names.NamesBehind.{NamesBehind}

-- it is that of a life: the tables are, and no request could be granted but on the restless names
pub record NamesStand (site : ℕ) (names : Names) (life : Life) : Type 0 where
  pub places_stand : PlacesStand site names.places life
  pub restless_stand : RestlessStand site names.restless life

-- what a step makes of it: the changes of the tables, and the restless names behind it; the step's records may follow
pub record AreBehind (site : ℕ) (names : Names) (life : Life) (s : SiteStep) (behind : NamesBehind) : Type 0 where
  pub changes : AreChanges names.places (fresh_of site life s) s.records s.told s.outs behind.changes
  pub follows : follow life.log s.records ≡ true
  pub restless : RestlessStand site behind.restless (life_by life s)
