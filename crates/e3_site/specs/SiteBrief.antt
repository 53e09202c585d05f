-- What the brief is that a site of the program tells.
use Rattle.std.specs.Prelude.{◌≡◌, List}
use Rattle.e3_types.specs.declared.entries.Entry.{Entry}
use Rattle.e3_types.specs.declared.records.Record.{Record}
use Rattle.e3_types.specs.declared.scenarios.Scenario.{Scenario}
use Rattle.e3_world.specs.Given.{IsGiven}
use Rattle.e3_world.specs.Legal.{IsLegal}
use Rattle.e3_world.specs.Moves.{log_of}
use Rattle.e3_world.specs.Brief.{brief}
use Rattle.e3_world.specs.Orderly.{IsOrderly}
use Rattle.e3_site.specs.SiteView.{SiteView}
use Rattle.e3_site.specs.StandsAlike.{StandsAlike}
use Rattle.e3_site.specs.StandsFor.{StandsFor}

-- for each legal history for which the value stands, these records are the brief of the site's log there
abbrev pub TellsBrief : SiteView → List Record → Type 0
TellsBrief s records =
    (sc : Scenario) (history : List Entry) → IsGiven sc → IsLegal sc history → StandsFor sc history s.site s → records ≡ brief (log_of sc history s.site)

-- and for each for which it stands as a site that rose with other records of the same brief
abbrev pub TellsBriefAlike : SiteView → List Record → Type 0
TellsBriefAlike s records =
    (sc : Scenario) (history : List Entry) (rose : List Record) → IsGiven sc → IsLegal sc history → IsOrderly s.site rose → StandsAlike sc history s.site rose s →
    records ≡ brief (log_of sc history s.site)
