-- What the driver knows of names.
use Rattle.std.specs.Prelude.{◌≡◌, ◌≤◌, List, length, take}
use Rattle.e3_readings.specs.Bindings.{bound_behind}
use Rattle.e3_play.specs.declared.names.Names.{Names}
use Rattle.e3_types.specs.declared.entries.Entry.{Entry}
use Rattle.e3_types.specs.declared.scenarios.Scenario.{Scenario}

-- what is bound behind a first part of the history, which was read so far
pub record KnowsNames (sc : Scenario) (history : List Entry) (names : Names) : Type 0 where
  pub within : names.read ≤ length history
  pub known : names.binding ≡ bound_behind sc (take names.read history)
