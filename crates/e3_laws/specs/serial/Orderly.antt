-- The logs of legal histories are orderly.
use Rattle.std.specs.Prelude.{◌≡◌, ◌++◌, ◌∷◌, ℕ, suc, List}
use Rattle.e3_types.specs.declared.entries.Entry.{Entry}
use Rattle.e3_types.specs.declared.records.Record.{Record}
use Rattle.e3_types.specs.declared.records.Record.TheVariants as log
use Rattle.e3_types.specs.declared.scenarios.Scenario.{Scenario}
use Rattle.e3_world.specs.Given.{IsGiven}
use Rattle.e3_world.specs.Legal.{IsLegal}
use Rattle.e3_world.specs.Logs.{logged_inc}
use Rattle.e3_world.specs.Moves.{log_of}
use Rattle.e3_world.specs.Orderly.{IsOrderly}
use Rattle.e3_laws.specs.steps.Trails.{records_at}

-- The log of each site in each legal history of a scenario that keeps its rules is orderly.
abbrev pub LogsAreOrderly : Type 0
LogsAreOrderly = (sc : Scenario) (h : List Entry) (site : ℕ) → IsGiven sc → IsLegal sc h → IsOrderly site (log_of sc h site)

-- The first incarnation in it is 1, and each later one is one more than the last: only what is left out of a log lets one begin
-- later.
abbrev pub IncarnationsCountUp : Type 0
IncarnationsCountUp = (sc : Scenario) (h : List Entry) (site : ℕ) (before rest : List Record) (inc : ℕ) → IsGiven sc → IsLegal sc h →
    log_of sc h site ≡ before ++ log.Inc inc ∷ rest → inc ≡ suc (logged_inc before)

-- A tail that is open behind the log of a site in a legal history stands in the log of that site in another one.
abbrev pub TailsAreLogs : Type 0
TailsAreLogs = (sc : Scenario) (h : List Entry) (site : ℕ) → IsLegal sc h →
    (other : List Entry) × IsLegal sc other × (log_of sc other site ≡ records_at sc h site)

-- So the log with its open tail is orderly.
abbrev pub TailsAreOrderly : Type 0
TailsAreOrderly = (sc : Scenario) (h : List Entry) (site : ℕ) → IsGiven sc → IsLegal sc h → IsOrderly site (records_at sc h site)
