-- The rounds of a recovery step, and what comes of one.
use Rattle.std.specs.Prelude.{◌≡◌, ◌≢◌, ◌⊎◌, [], true, false, List, Some}
use Rattle.e3_play.specs.Delivered.{Delivers}
use Rattle.e3_play.specs.Entering.{AfterInput}
use Rattle.e3_types.specs.declared.entries.Entry.{Entry}
use Rattle.e3_types.specs.declared.entries.Input.TheVariants as input
use Rattle.e3_types.specs.declared.scenarios.Scenario.{Scenario}
use Rattle.e3_world.specs.Items.{RecoveryRound, due_round, is_up_at}
use Rattle.e3_world.specs.Packets.{lines, pending}
use Rattle.e3_world.specs.Progress.{Delivering}

-- The sites stand within a step that delivers, nothing is pending, and the round is due, if its elector is up.
pub record IsAtTurn {S : Type 0} (stands : S → Type 0) (scenario_in : S → Scenario) (entries_in : S → List Entry) (sites : S) (r : RecoveryRound) : Type 0 where
  pub standing : stands sites
  pub delivering : Delivering (scenario_in sites) (entries_in sites)
  pub begun : lines (entries_in sites) ≢ 0
  pub settled : pending (scenario_in sites) (entries_in sites) ≡ []
  pub turn : is_up_at (entries_in sites) r.elector ≡ true → due_round (scenario_in sites) (entries_in sites) ≡ Some r

-- a round was made: its elector was up and elected, or fell over it, and then no packet was left
pub record IsMade (sc : Scenario) (history : List Entry) (r : RecoveryRound) (more : List Entry) : Type 0 where
  pub up : is_up_at history r.elector ≡ true
  pub elected : List Entry
  pub entered : AfterInput sc history r.elector (input.Elect r.txn r.members) elected
  pub delivered : Delivers sc elected more
  pub settled : pending sc more ≡ []

-- a round was passed over, since its elector was down
pub record IsPassed (history : List Entry) (r : RecoveryRound) (more : List Entry) : Type 0 where
  pub down : is_up_at history r.elector ≡ false
  pub same : more ≡ history

-- what comes of a round at its turn
abbrev pub AfterRound : Scenario → List Entry → RecoveryRound → List Entry → Type 0
AfterRound sc history r more = IsMade sc history r more ⊎ IsPassed history r more
