-- What it is that a site of the program stands for a site of a history, where it may have been made of other records than
-- the site's log has.
use Rattle.std.specs.Prelude.{◌≡◌, ℕ, List}
use Rattle.std.specs.List.{AllByRecursion as Each}
use Rattle.e3_types.specs.declared.entries.Entry.{Entry}
use Rattle.e3_types.specs.declared.records.Record.{Record}
use Rattle.e3_types.specs.declared.scenarios.Scenario.{Scenario}
use Rattle.e3_world.specs.declared.lives.Incarnation.{Incarnation}
use Rattle.e3_world.specs.Lives.{incarnation_of}
use Rattle.e3_world.specs.Moves.{moves_of}
use Rattle.e3_world.specs.Transactions.{IsFoundByBits}
use Rattle.e3_laws.specs.brief.Alike.{ReadAlike}
use Rattle.e3_world.specs.Brief.{txns_of}
use Rattle.e3_world.specs.Orderly.{IsOrderly}
use Rattle.e3_site.specs.SiteView.{SiteView, Stands}

-- the incarnation of a site that rose with these records, and made the steps that the history's site made since its rise
abbrev pub now_with : List Record → Scenario → List Entry → ℕ → Incarnation
now_with rose sc history site = record { rose = rose; since = (incarnation_of (moves_of sc history site)).since }

-- the value has the site's number and the scenario's weights; it stands for a site that rose with these records, which read
-- as the log that the history's site rose with
pub record StandsAlike (sc : Scenario) (history : List Entry) (site : ℕ) (rose : List Record) (s : SiteView) : Type 0 where
  pub weights_are : s.weights ≡ sc.weights
  pub site_is : s.site ≡ site
  pub stands : Stands (now_with rose sc history site) s
  pub alike : ReadAlike rose (incarnation_of (moves_of sc history site)).rose

-- the log is orderly, and the sites of each transaction that it has are a set
pub record IsLogInOrder (site : ℕ) (log : List Record) : Type 0 where
  pub orderly : IsOrderly site log
  pub known : Each IsFoundByBits (txns_of log)
