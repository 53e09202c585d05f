-- What workers make of a fleet in a step.
use Rattle.std.specs.Prelude.{◌≡◌, ◌≢◌, [], ℕ, true, List, OnOk, Result, Err}
use Rattle.e3_disk.specs.Meaning.{Meaning}
use Rattle.e3_disk.specs.Meters.{Meters}
use Rattle.e3_fleet.specs.Fleets.{FleetIsHeld, HaveKept, IsFleetOn, nodes_of}
use Rattle.e3_fleet.specs.declared.fleet.Fleet.{Fleet}
use Rattle.e3_play.specs.Delivered.{IsFullBefore, IsItemOrPacket}
use Rattle.e3_play.specs.Settled.{StaysInStep, is_asking}
use Rattle.e3_play.specs.declared.sites.RunFault.{RunFault}
use Rattle.e3_play.specs.declared.sites.RunFault.TheVariants.{HistoryFull}
use Rattle.e3_types.specs.declared.entries.Entry.{Entry}
use Rattle.e3_types.specs.declared.scenarios.Scenario.{Scenario}
use Rattle.e3_wire.specs.Marks.{entries_of, most_of, scenario_of}
use Rattle.e3_world.specs.Items.{plan_of, taken_at}
use Rattle.e3_world.specs.Packets.{lines, pending, present_items}
use Rattle.e3_world.specs.Progress.{Delivering}
use Rattle.e3_world.specs.declared.names.Addressed.{Addressed}

module _ {D : Type 0} where
  -- the scenario that a fleet plays, its history so far, and how many entries that may have
  abbrev pub scenario_in : Fleet D → Scenario
  scenario_in f = scenario_of f.held.shared

  abbrev pub history_in : Fleet D → List Entry
  history_in f = entries_of f.held.shared

  abbrev pub most_in : Fleet D → ℕ
  most_in f = most_of f.held.shared

module _ {D : Type 0} (meaning : Meaning D) where
  -- it stands, and the driver holds what its sites share
  abbrev pub Stands : Fleet D → Type 0
  Stands f = FleetIsHeld meaning f.wire f.pass f.held.shared (nodes_of f.held.workers.items)

  -- A fleet behind the line of a step, and its parts, that asks these inputs of sites which took nothing of them yet.
  pub record CanSettle (f : Fleet D) (inputs : List Addressed) : Type 0 where
    pub standing : Stands f
    pub begun : lines (history_in f) ≢ 0
    pub form : is_asking (present_items (scenario_in f) (history_in f)) ≡ true
    pub asked : inputs ≡ plan_of (scenario_in f) (history_in f)
    pub fresh : (site : ℕ) → taken_at (history_in f) site ≡ []

  -- What came of it: the step went on, and with Ok all that it asks is done and nothing is pending.
  pub record HasSettled (was now : Fleet D) (answer : Result (Unit {0}) RunFault) : Type 0 where
    pub stands : Stands now
    pub on : IsFleetOn meaning was.held.shared now.held.shared (nodes_of was.held.workers.items) (nodes_of now.held.workers.items)
    pub grown : StaysInStep (history_in was) (history_in now)
    pub delivering : OnOk answer (Delivering (scenario_in was) (history_in now))
    pub settled : OnOk answer (pending (scenario_in was) (history_in now) ≡ [])
    pub full : answer ≡ Err HistoryFull → IsFullBefore IsItemOrPacket (scenario_in was) (history_in now) (most_in was)

-- the second fleet's disks came to what they are from those of the first
abbrev pub Since : {D : Type 0} → (D → Meters) → Fleet D → Fleet D → Type 0
Since meters start f = HaveKept meters (scenario_in f) (history_in f) (nodes_of start.held.workers.items) (nodes_of f.held.workers.items)
