-- What an entry adds to the records of all logs.
use Rattle.std.specs.Prelude.{ℕ, List, drop, length}
use Rattle.e3_types.specs.declared.entries.Entry.{Entry}
use Rattle.e3_types.specs.declared.records.Record.{Record}
use Rattle.e3_types.specs.declared.scenarios.Scenario.{Scenario}
use Rattle.e3_world.specs.Moves.{log_of}

-- what the log of a site has more with an entry than before it
abbrev pub added_by : Scenario → List Entry → List Entry → ℕ → List Record
added_by sc before more site = drop (length (log_of sc before site)) (log_of sc more site)
