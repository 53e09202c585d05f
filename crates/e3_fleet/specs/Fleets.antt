-- The nodes of all sites, and what is always true of them.
use Rattle.std.specs.Prelude.{◌≡◌, ◌+◌, ◌≤◌, ◌<◌, ◌↔◌, ◌++◌, ◌∷◌, [], ℕ, suc, false, List, length, map, slice_get, Option, Some, Result, Ok, Err, OnOk, OnErr}
use Rattle.atomic_table.specs.Seated.{TableId}
use Rattle.e3_fleet.specs.declared.crew.worker.Worker.{Worker}
use Rattle.e3_disk.specs.Meaning.{Meaning}
use Rattle.e3_disk.specs.Meters.{Meters, LAST}
use Rattle.e3_fleet.specs.Over.{HadNoRooms, HasServed}
use Rattle.e3_fleet.specs.declared.held.Held.{Held}
use Rattle.e3_fleet.specs.Stops.{Arm, PayFor, arm_by, arms_of, is_over}
use Rattle.e3_node.specs.NodeStands.{NodeStands}
use Rattle.e3_node.specs.declared.fault.CutFault.{CutFault}
use Rattle.e3_node.specs.declared.fault.CutFault.TheVariants as cut_fault
use Rattle.e3_node.specs.declared.fault.InputFault.{InputFault}
use Rattle.e3_node.specs.declared.fault.InputFault.TheVariants as input_fault
use Rattle.e3_node.specs.declared.fault.RiseFault.{RiseFault}
use Rattle.e3_node.specs.declared.fault.RiseFault.TheVariants as rise_fault
use Rattle.e3_play.specs.declared.sites.RunFault.{RunFault}
use Rattle.e3_play.specs.declared.sites.RunFault.TheVariants as run_fault
use Rattle.e3_node.specs.NodeView.{NodeView, disk_of}
use Rattle.e3_node.specs.SharedStands.{SharedStands}
use Rattle.e3_turn.specs.Passes.{HasTurn, OwnsAll, last_of, seen_by}
use Rattle.e3_types.specs.declared.entries.Act.{Act}
use Rattle.e3_types.specs.declared.entries.Entry.{Entry}
use Rattle.e3_types.specs.declared.scenarios.Scenario.{Scenario}
use Rattle.e3_wire.specs.Claims.{APass, HaveGrown}
use Rattle.e3_wire.specs.Marks.{entries_of, last_owner, most_of, scenario_of}
use Rattle.e3_wire.specs.Wires.{IsPlayed}
use Rattle.e3_wire.specs.declared.fault.WireFault.{WireFault}
use Rattle.e3_wire.specs.declared.fault.WireFault.TheVariants as wire_fault
use Rattle.e3_wire.specs.declared.marks.Mark.{Mark}

-- the node at this place, counted from 0, is that of the next site, and stands for it
pub record Seated {D : Type 0} (meaning : Meaning D) (sc : Scenario) (history : List Entry) (at : ℕ) (node : NodeView D) : Type 0 where
  pub site : node.site ≡ suc at
  pub stands : NodeStands meaning sc history node
  pub rooms : HadNoRooms sc history (suc at) (meaning.meters (disk_of node.state)).capacity

-- the nodes of workers, in their order
abbrev pub nodes_of : {D : Type 0} → List (Worker D) → List (NodeView D)
nodes_of workers = map (λ w. w.node) workers

-- the disks of nodes, in their order
abbrev pub disks_of : {D : Type 0} → List (NodeView D) → List D
disks_of nodes = map (λ n. disk_of n.state) nodes

-- these are the nodes of the first sites
abbrev pub AreSeated : {D : Type 0} → Meaning D → Scenario → List Entry → List (NodeView D) → Type 0
AreSeated {D} meaning sc history nodes =
    (at : ℕ) (node : NodeView D) → slice_get nodes at ≡ Some node → Seated meaning sc history at node

-- what the sites share stands, and there is a node for each of them
pub record FleetStands {D : Type 0} (meaning : Meaning D) (shared : List Mark) (nodes : List (NodeView D)) : Type 0 where
  pub shared_stands : SharedStands shared
  pub count : length nodes ≡ length (scenario_of shared).weights
  pub seated : AreSeated meaning (scenario_of shared) (entries_of shared) nodes

-- The driver's pass has the turn of this wire and owns all. Behind what it had seen only owners' marks were put into what was
-- taken, so it may be put back.
pub record IsTaken (wire : TableId) (p : APass) (shared : List Mark) : Type 0 where
  pub turn : HasTurn wire p
  pub all : OwnsAll p
  pub last : last_of p ≡ last_owner (seen_by p)
  pub played : IsPlayed (seen_by p)
  pub grown : HaveGrown (seen_by p) shared

-- a fleet stands, and the driver holds what its sites share
pub record FleetIsHeld {D : Type 0} (meaning : Meaning D) (wire : TableId) (p : APass) (shared : List Mark) (nodes : List (NodeView D)) : Type 0 where
  pub fleet : FleetStands meaning shared nodes
  pub taken : IsTaken wire p shared

-- While a stop may still come: where no entry behind the line of a stop ended its arm, the disk is armed, and what pays for
-- these entries, with room for so many steps more in their frames, and the calls that are left are together no more than the
-- calls of that arm.
abbrev pub StopWaits : ℕ → Scenario → List Entry → ℕ → Meters → Type 0
StopWaits spare sc history site now = (before after : List Entry) (e : Entry) (arm : Arm) → history ≡ before ++ e ∷ after →
    arm_by sc site e ≡ arm ∷ [] → is_over sc site after ≡ false →
    (0 < now.calls_left) × ((calls : ℕ) × PayFor spare sc site after calls × (calls + now.calls_left ≤ arm.calls))

-- What the numbers of a site's disk came to so far, from where nothing had happened: each stop that came had an arm of its
-- own, while the disk is armed one arm is left, and no stop is passed over. Within a batch its frame has room for more steps.
pub record HasKeptWith (spare : ℕ) (sc : Scenario) (history : List Entry) (site : ℕ) (start now : Meters) : Type 0 where
  pub served : HasServed sc history site start now
  pub spent : now.stops < LAST → now.stops ≤ start.stops + length (arms_of sc history site)
  pub left : now.stops < LAST → 0 < now.calls_left → now.stops < start.stops + length (arms_of sc history site)
  pub waits : StopWaits spare sc history site now

abbrev pub HasKept : Scenario → List Entry → ℕ → Meters → Meters → Type 0
HasKept sc history site start now = HasKeptWith 0 sc history site start now

-- so did the disks of all these nodes
pub record HaveKept {D : Type 0} (meters : D → Meters) (sc : Scenario) (history : List Entry) (starts nows : List (NodeView D)) : Type 0 where
  pub count : length nows ≡ length starts
  pub each : (at : ℕ) (start now : NodeView D) → slice_get starts at ≡ Some start → slice_get nows at ≡ Some now →
      HasKept sc history (suc at) (meters (disk_of start.state)) (meters (disk_of now.state))

-- the disks of these nodes are not armed
abbrev pub AreUnarmed : {D : Type 0} → (D → Meters) → List (NodeView D) → Type 0
AreUnarmed {D} meters nodes = (at : ℕ) (node : NodeView D) → slice_get nodes at ≡ Some node → (meters (disk_of node.state)).calls_left ≡ 0

-- What a call made of a fleet: it still stands, it plays the same scenario within the same bound, and its disks
-- kept on.
pub record IsFleetOn {D : Type 0} (meaning : Meaning D) (was now : List Mark) (olds news : List (NodeView D)) : Type 0 where
  pub stands : FleetStands meaning now news
  pub scenario : scenario_of now ≡ scenario_of was
  pub most : most_of now ≡ most_of was
  pub kept : (starts : List (NodeView D)) → HaveKept meaning.meters (scenario_of was) (entries_of was) starts olds → HaveKept meaning.meters (scenario_of now) (entries_of now) starts news

-- what the driver holds came to this, and what was put into it is the owners'
pub record HeldWentOn {D : Type 0} (meaning : Meaning D) (was now : Held D) : Type 0 where
  pub on : IsFleetOn meaning was.shared now.shared (nodes_of was.workers.items) (nodes_of now.workers.items)
  pub grew : HaveGrown was.shared now.shared

-- The driver entered this act, or was refused and entered nothing: what the sites share still stands. It is refused for a full
-- history exactly where there are as many entries as there may be.
pub record HasDriven (act : Act) (was now : List Mark) (answer : Result (Unit {0}) RunFault) : Type 0 where
  pub stands : SharedStands now
  pub grew : HaveGrown was now
  pub same : (scenario_of now ≡ scenario_of was) × (most_of now ≡ most_of was)
  pub entered : OnOk answer (entries_of now ≡ entries_of was ++ record { owner = 0; act = act } ∷ [])
  pub kept : OnErr answer (entries_of now ≡ entries_of was)
  pub full : (answer ≡ Err run_fault.HistoryFull) ↔ (most_of was ≤ length (entries_of was))

-- What a rise is to the run: one that failed or was missed is entered, and the run goes on. A site that is up does not rise, so
-- of that fault nothing is told here.
abbrev pub rise_answer : Result ℕ RiseFault → Result (Unit {0}) RunFault
rise_answer (Ok inc) = Ok tt
rise_answer (Err rise_fault.HistoryFull) = Err run_fault.HistoryFull
rise_answer (Err rise_fault.NoMemory) = Err run_fault.NoMemory
rise_answer (Err fault) = Ok tt

-- What an input is to the run: a site that fell over it has an entry, and the run goes on. A site that is down takes none.
abbrev pub input_answer : Result (Unit {0}) InputFault → Result (Unit {0}) RunFault
input_answer (Ok done) = Ok tt
input_answer (Err input_fault.HistoryFull) = Err run_fault.HistoryFull
input_answer (Err input_fault.NoMemory) = Err run_fault.NoMemory
input_answer (Err fault) = Ok tt

-- what a cut is to the run: a site that is down has none
abbrev pub cut_answer : Result (Unit {0}) CutFault → Result (Unit {0}) RunFault
cut_answer (Ok done) = Ok tt
cut_answer (Err cut_fault.HistoryFull) = Err run_fault.HistoryFull
cut_answer (Err cut_fault.NoMemory) = Err run_fault.NoMemory
cut_answer (Err fault) = Ok tt

-- what an answer of the wire is to the run
abbrev pub wire_answer : Result (Unit {0}) WireFault → Result (Unit {0}) RunFault
wire_answer (Ok done) = Ok done
wire_answer (Err wire_fault.HistoryFull) = Err run_fault.HistoryFull
wire_answer (Err wire_fault.NoMemory) = Err run_fault.NoMemory

-- and that of a drop
abbrev pub drop_answer : Result (Option ℕ) WireFault → Result (Unit {0}) RunFault
drop_answer (Ok number) = Ok tt
drop_answer (Err fault) = wire_answer (Err fault)
