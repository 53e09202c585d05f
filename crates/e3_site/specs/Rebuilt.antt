-- What a site that is rebuilt from records is, and when there is none.
use Rattle.std.specs.Prelude.{◌≡◌, ℕ, List}
use Rattle.e3_types.specs.declared.entries.Entry.{Entry}
use Rattle.e3_types.specs.declared.records.Record.{Record}
use Rattle.e3_types.specs.declared.scenarios.Scenario.{Scenario}
use Rattle.e3_site.specs.SiteView.{SiteView, Stands, risen_with}
use Rattle.e3_site.specs.StandsAlike.{StandsAlike}
use Rattle.e3_site.specs.StandsFor.{StandsFor, IsRisenWith}
use Rattle.e3_world.specs.Brief.{brief}
use Rattle.e3_world.specs.Given.{IsGiven}
use Rattle.e3_world.specs.Legal.{IsLegal}
use Rattle.e3_world.specs.Orderly.{weights_in, IsOrderly}
use Rattle.e3_site.specs.declared.rebuilding.RebuildFault.{RebuildFault}
use Rattle.e3_site.specs.declared.rebuilding.RebuildFault.TheVariants.{Order, NoMemory}
use Rattle.e3_site.specs.Orderly.{IsFirstDisorder}

-- a fault of order names the first place that is out of order; memory is wanted only where there is none
abbrev pub IsFaultOf : ℕ → List Record → RebuildFault → Type 0
IsFaultOf site records (Order at) = IsFirstDisorder site records at
IsFaultOf site records NoMemory = IsOrderly site records

-- the site has the weights of the log's birth, took no input, and stands for one that rose with this log and did nothing since
pub record IsRebuilt (site : ℕ) (records : List Record) (s : SiteView) : Type 0 where
  pub weights_are : s.weights ≡ weights_in records
  pub site_is : s.site ≡ site
  pub inputs_are : s.inputs ≡ 0
  pub stands : Stands (risen_with records) s

-- the site stands for every legal history of a scenario in which its last move is the rise with this log
abbrev pub StandsForEach : List Record → SiteView → Type 0
StandsForEach records s =
    (sc : Scenario) (h : List Entry) → IsLegal sc h → IsRisenWith sc h s.site records → StandsFor sc h s.site s

-- and, by what the records read as, for every legal history in which it is the rise with a log of the same brief
abbrev pub StandsForBrief : List Record → SiteView → Type 0
StandsForBrief records s =
    (sc : Scenario) (h : List Entry) (log : List Record) → IsGiven sc → IsLegal sc h → IsRisenWith sc h s.site log → brief log ≡ brief records →
    StandsAlike sc h s.site records s
