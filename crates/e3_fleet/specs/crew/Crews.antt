-- All workers, while their passes are with the driver.
use Rattle.std.specs.Prelude.{◌≡◌, ◌≢◌, ◌+◌, ◌<◌, ℕ, false, List, length, Ok, Err, slice_index_or}
use Rattle.atomic_table.specs.Seated.{TableId}
use Rattle.e3_fleet.specs.crew.Turns.{WentOn}
use Rattle.e3_fleet.specs.declared.crew.worker.Worker.{Worker}
use Rattle.e3_disk.specs.Meaning.{Meaning}
use Rattle.e3_disk.specs.Meters.{Meters}
use Rattle.e3_node.specs.NodeStands.{NodeStands}
use Rattle.e3_node.specs.NodeView.{disk_of}
use Rattle.e3_node.specs.Turns.{history_seen, scenario_seen}
use Rattle.e3_play.specs.Settled.{StaysInStep}
use Rattle.e3_play.specs.declared.sites.RunFault.{RunFault}
use Rattle.e3_turn.specs.Passes.{IsIdle, OwnsAll, last_of, seen_by}
use Rattle.e3_types.specs.declared.entries.Entry.{Entry}
use Rattle.e3_types.specs.declared.scenarios.Scenario.{Scenario}
use Rattle.e3_wire.specs.Claims.{APass}
use Rattle.e3_wire.specs.declared.marks.Mark.{Mark}
use Rattle.e3_wire.specs.Marks.{NothingIsPromised, entries_of, last_owner, most_of, scenario_of}
use Rattle.e3_wire.specs.Wires.{IsPlayed}
use Rattle.e3_world.specs.Packets.{is_calm, lines, present_items}
use Rattle.e3_world.specs.Progress.{Delivering}

-- a worker whose node is that of the site at its place, and stands for it
pub record IsAtRest {D : Type 0} (meaning : Meaning D) (sc : Scenario) (history : List Entry) (at : ℕ) (w : Worker D) : Type 0 where
  pub site : w.node.site ≡ at + 1
  pub stands : NodeStands meaning sc history w.node

-- A pass of this wire rests and owns all, neither a place nor room is promised, and no recover step is on. There is a worker for each site.
pub record IsCrew {D : Type 0} (meaning : Meaning D) (wire : TableId) (p : APass) (workers : List (Worker D)) : Type 0 where
  pub idle : IsIdle wire p
  pub all : OwnsAll p
  pub last : last_of p ≡ length workers
  pub count : last_owner (seen_by p) ≡ length workers
  pub played : IsPlayed (seen_by p)
  pub restless : is_calm (present_items (scenario_seen p) (history_seen p)) ≡ false
  pub none : NothingIsPromised (seen_by p)
  pub each : (i : ℕ) (d : Worker D) → i < length workers → IsAtRest meaning (scenario_seen p) (history_seen p) i (slice_index_or workers i d)

-- What a crew came to within a step: the scenario and the bound stay, the step goes on, and each site and its disk went on.
pub record HasGoneOn {D : Type 0} (meters : D → Meters) (before : List Mark) (olds : List (Worker D)) (marks : List Mark) (news : List (Worker D)) : Type 0 where
  pub scenario : scenario_of marks ≡ scenario_of before
  pub most : most_of marks ≡ most_of before
  pub count : length news ≡ length olds
  pub grown : StaysInStep (entries_of before) (entries_of marks)
  pub went : (i : ℕ) (d : Worker D) → i < length olds → WentOn (scenario_of before) (i + 1) (entries_of before) (meters (disk_of (slice_index_or olds i d).node.state))
      (entries_of marks) (meters (disk_of (slice_index_or news i d).node.state))

-- a crew behind the line of a step whose items are through
pub record IsDelivering {D : Type 0} (meaning : Meaning D) (wire : TableId) (p : APass) (workers : List (Worker D)) : Type 0 where
  pub crew : IsCrew meaning wire p workers
  pub begun : lines (history_seen p) ≢ 0
  pub delivering : Delivering (scenario_seen p) (history_seen p)

-- What such a crew came to: the same step goes on, and its items are still through.
pub record HasDelivered {D : Type 0} (meaning : Meaning D)
    (wire : TableId) (p : APass) (olds : List (Worker D)) (q : APass) (news : List (Worker D)) : Type 0 where
  pub crew : IsCrew meaning wire q news
  pub on : HasGoneOn meaning.meters (seen_by p) olds (seen_by q) news
  pub delivering : Delivering (scenario_seen p) (history_seen q)

-- none of the workers was refused
abbrev pub AllEndedWell : {D : Type 0} → List (Worker D) → Type 0
AllEndedWell {D} workers = (i : ℕ) (d : Worker D) → i < length workers → (slice_index_or workers i d).ended ≡ Ok tt

-- one of them was refused for this fault
pub record OneWasRefused {D : Type 0} (workers : List (Worker D)) (fault : RunFault) : Type 0 where
  pub at : ℕ
  pub within : at < length workers
  pub is : (d : Worker D) → (slice_index_or workers at d).ended ≡ Err fault
