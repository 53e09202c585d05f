-- What is said of a worked history.
use Rattle.std.specs.Prelude.{ℕ, ◌≡◌, ◌∷◌, [], List, map}
use Rattle.e3_types.specs.declared.entries.Entry.{Entry}
use Rattle.e3_types.specs.declared.transactions.Row.{Row}
use Rattle.e3_types.specs.declared.scenarios.Scenario.{Scenario}
use Rattle.e3_types.specs.declared.transactions.Txn.{Txn}
use Rattle.e3_world.specs.Given.{IsGiven}
use Rattle.e3_world.specs.Legal.{IsWhole}
use Rattle.e3_world.specs.Logs.{table_of}
use Rattle.e3_world.specs.Moves.{all_records, log_of, trail_of}
use Rattle.e3_world.specs.Packets.{all_sites, sites_to}
use Rattle.e3_world.specs.Serial.{commit_order}
use Rattle.e3_world.specs.Sound.{IsSound}

-- what a history comes to: its committed transactions in their one order, and the table of each site by its log
pub record Outcome : Type 0 where
  pub order : List Txn
  pub tables : List (List Row)

abbrev pub outcome_of : Scenario → List Entry → Outcome
outcome_of sc history = record {
  order = commit_order (all_records (trail_of sc history));
  tables = map (λ site. table_of (log_of sc history site)) (all_sites sc);
}

-- nothing is committed, and the tables of this many sites are empty
abbrev pub nothing_at : ℕ → Outcome
nothing_at sites = record { order = []; tables = map (λ site. []) (sites_to sites) }

-- a table of one row
abbrev pub one_row : List ℕ → List ℕ → List Row
one_row name val = record { name = name; val = val } ∷ []

-- The scenario keeps the rules, the history is legal and went through it, its trail is sound, and it comes to this.
pub record IsWorked (sc : Scenario) (history : List Entry) (outcome : Outcome) : Type 0 where
  pub whole : IsWhole sc history
  pub given : IsGiven sc
  pub sound : IsSound sc (trail_of sc history)
  pub comes_to : outcome_of sc history ≡ outcome
