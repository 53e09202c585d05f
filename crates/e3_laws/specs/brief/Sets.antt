-- The sites of the transactions of a log are sets.
use Rattle.std.specs.Prelude.{ℕ, List}
use Rattle.std.specs.List.{AllByRecursion as Each}
use Rattle.e3_types.specs.declared.entries.Entry.{Entry}
use Rattle.e3_types.specs.declared.scenarios.Scenario.{Scenario}
use Rattle.e3_world.specs.Given.{IsGiven}
use Rattle.e3_world.specs.Legal.{IsLegal}
use Rattle.e3_world.specs.Moves.{log_of}
use Rattle.e3_world.specs.Transactions.{IsFoundByBits}
use Rattle.e3_world.specs.Brief.{txns_of}

-- the sites of each transaction in the log of each site in each legal history of a given scenario are a set
abbrev pub LoggedSitesAreSets : Type 0
LoggedSitesAreSets = (sc : Scenario) (h : List Entry) (site : ℕ) → IsGiven sc → IsLegal sc h → Each IsFoundByBits (txns_of (log_of sc h site))
