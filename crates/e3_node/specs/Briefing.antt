-- Of which logs a site of the program, or records, tell the brief; and how many bytes packets may want.
use Rattle.std.specs.Prelude.{◌≡◌, ◌≢◌, ◌<◌, ◌+◌, ◌*◌, [], ℕ, List, Option, Some, None, length, fold}
use Rattle.std.specs.List.{AllByRecursion as Each}
use Rattle.e3_world.specs.Brief.{brief, txns_of}
use Rattle.e3_world.specs.Transactions.{IsFoundByBits}
use Rattle.e3_world.specs.Orderly.{IsOrderly}
use Rattle.e3_site.specs.StandsAlike.{StandsAlike}
use Rattle.e3_node.specs.Telling.{IsOfSite}
use Rattle.e3_places.specs.Keeping.{claims_at, txn_id}
use Rattle.e3_site.specs.SiteView.{SiteView, Stands}
use Rattle.e3_site.specs.TableBrief.{IsInOrder}
use Rattle.e3_node.specs.site_log.Bodies.{counted}
use Rattle.e3_node.specs.declared.site_log.writing.Short.{Short}
use Rattle.e3_types.specs.declared.entries.Entry.{Entry}
use Rattle.e3_types.specs.declared.entries.Input.{Input}
use Rattle.e3_types.specs.declared.entries.Input.TheVariants as input
use Rattle.e3_types.specs.declared.messages.Message.{Message}
use Rattle.e3_types.specs.declared.messages.Message.TheVariants as message
use Rattle.e3_types.specs.declared.records.Record.{Record}
use Rattle.e3_types.specs.declared.scenarios.Scenario.{Scenario}
use Rattle.e3_types.specs.declared.transactions.Txn.{Txn}
use Rattle.e3_world.specs.declared.lives.Incarnation.{Incarnation}
use Rattle.e3_world.specs.Lives.{life_of, present_log}
use Rattle.e3_world.specs.Logs.{logged_inc}
use Rattle.e3_world.specs.Moves.{log_of}

-- The value stands for an incarnation whose log has the brief of this one; that is not empty, and what its brief has is the
-- site's own.
pub record IsBriefOf (s : SiteView) (log : List Record) : Type 0 where
  pub now : Incarnation
  pub stands : Stands now s
  pub order : IsInOrder s.weights s.site (life_of now)
  pub same : brief (present_log now) ≡ brief log
  pub orderly : IsOrderly s.site log
  pub some : log ≢ []
  pub of_site : Each (IsOfSite s.site) (brief log)

-- whatever value stands for this history, as a site that rose with these records, tells the brief of the log there
abbrev pub BriefsAreTold : Scenario → List Entry → ℕ → List Record → Type 0
BriefsAreTold sc history site rose = (s : SiteView) → StandsAlike sc history site rose s → IsBriefOf s (log_of sc history site)

-- These records are a log of the site with the brief of this one, without an incarnation only where there are none; and what the
-- brief has is the site's own.
pub record IsReadBrief (site : ℕ) (read log : List Record) : Type 0 where
  pub orderly : IsOrderly site read
  pub begun : logged_inc read ≡ 0 → read ≡ []
  pub same : brief read ≡ brief log
  pub log_orderly : IsOrderly site log
  pub known : Each IsFoundByBits (txns_of read)
  pub of_site : Each (IsOfSite site) (brief log)

-- a short log has a body, where there is one
abbrev pub HasBody : Option Short → Type 0
HasBody None = Unit {0}
HasBody (Some short) = 0 < length short.body

-- how many operations of a transaction stand at a site
abbrev pub asked_of : SiteView → Txn → ℕ
asked_of s t = length (claims_at s.tables.names.places.txns.entries (txn_id t)).standing

-- how many bytes what is recorded of an input may have, for the most part
abbrev pub spare_of : SiteView → Input → ℕ
spare_of s (input.Deliver packet) = by packet.msg
  where
    by : Message → ℕ
    by (message.Do t n op) = 400
    by (message.VoteReq t inc count) = counted (400 * counted (asked_of s t + 1))
    by _ = 100
spare_of s _ = 100

abbrev pub spare_for : SiteView → List Input → ℕ
spare_for s inputs = fold (λ n i. counted (n + spare_of s i)) 0 inputs
