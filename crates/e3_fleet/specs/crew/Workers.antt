-- What workers have, know and do.
use Rattle.std.specs.Prelude.{◌≡◌, ◌≤◌, ◌++◌, ◌∷◌, [], ℕ, true, false, List, length, Option, Some, None, Result, Err, OnErr, OnOk}
use Rattle.std.specs.List.{list_any}
use Rattle.atomic_table.specs.Seated.{TableId}
use Rattle.e3_fleet.specs.crew.Turns.{AreDone, HasTaken, WentOn}
use Rattle.e3_fleet.specs.declared.crew.worker.Worker.{Worker}
use Rattle.e3_disk.specs.Meaning.{Meaning}
use Rattle.e3_laws.specs.local.Least.{IsLeastTo, queue_to}
use Rattle.e3_node.specs.NodeStands.{NodeStands}
use Rattle.e3_node.specs.NodeView.{NodeView, disk_of}
use Rattle.e3_node.specs.Places.{HasGivenNoneBack}
use Rattle.e3_node.specs.Turns.{Meanwhile}
use Rattle.e3_play.specs.declared.sites.RunFault.{RunFault}
use Rattle.e3_play.specs.declared.sites.RunFault.TheVariants.{HistoryFull}
use Rattle.e3_turn.specs.Passes.{IsIdle, owners_of, seen_by}
use Rattle.e3_types.specs.declared.entries.Input.{Input}
use Rattle.e3_types.specs.declared.messages.Packet.{Packet}
use Rattle.e3_wire.specs.Claims.{APass}
use Rattle.e3_wire.specs.declared.marks.Mark.{Mark}
use Rattle.e3_wire.specs.declared.marks.Note.{Note}
use Rattle.e3_wire.specs.Marks.{AreForeign, entries_of, most_of, note_of, nothing, scenario_of, used_of}
use Rattle.e3_wire.specs.Wires.{IsPlayed}
use Rattle.e3_world.specs.Items.{inputs_to, is_delivery, is_up_at}
use Rattle.e3_world.specs.Legal.{IsNextItem}
use Rattle.e3_world.specs.Packets.{is_calm, present_items}
use Rattle.e3_world.specs.Progress.{Through}
use Rattle.e3_world.specs.declared.names.Addressed.{Addressed}

-- a pass of this wire that speaks for one site
pub record IsPassFor (wire : TableId) (site : ℕ) (p : APass) : Type 0 where
  pub idle : IsIdle wire p
  pub owner_is : owners_of p ≡ site ∷ []

abbrev pub HasPass : {D : Type 0} → TableId → Worker D → Type 0
HasPass wire w = (p : APass) × (w.pass ≡ Some p) × IsPassFor wire w.node.site p

abbrev pub seen_in : Option APass → List Mark
seen_in None = []
seen_in (Some p) = seen_by p

-- what the worker's pass has seen
abbrev pub seen_of : {D : Type 0} → Worker D → List Mark
seen_of w = seen_in w.pass

-- What is true of a node and the marks that the pass for its site has seen: the node stands for their history, no recover
-- step is on, and this is promised to the site.
pub record KnowsWith {D : Type 0} (meaning : Meaning D) (promise : Note)
    (marks : List Mark) (node : NodeView D) : Type 0 where
  pub played : IsPlayed marks
  pub restless : is_calm (present_items (scenario_of marks) (entries_of marks)) ≡ false
  pub promised : note_of node.site marks ≡ promise
  pub stands : NodeStands meaning (scenario_of marks) (entries_of marks) node

-- the same, and neither a place nor room is promised to the site
abbrev pub Knows : {D : Type 0} → Meaning D → List Mark → NodeView D → Type 0
Knows meaning marks node = KnowsWith meaning nothing marks node

-- what a node and the marks that its pass has seen came to, while all sites worked, and what is promised to the site then
pub record HasWorkedWith {D : Type 0} (meaning : Meaning D) (promise : Note)
    (before : List Mark) (old : NodeView D) (marks : List Mark) (new : NodeView D) : Type 0 where
  pub knows : KnowsWith meaning promise marks new
  pub site : new.site ≡ old.site
  pub scenario : scenario_of marks ≡ scenario_of before
  pub most : most_of marks ≡ most_of before
  pub grew : Meanwhile 0 (entries_of before) (entries_of marks)
  pub went : WentOn (scenario_of before) old.site (entries_of before) (meaning.meters (disk_of old.state)) (entries_of marks) (meaning.meters (disk_of new.state))

-- the same, and neither a place nor room is promised to the site then
abbrev pub HasWorked : {D : Type 0} → Meaning D → List Mark → NodeView D → List Mark → NodeView D → Type 0
HasWorked meaning before old marks new = HasWorkedWith meaning nothing before old marks new

-- a place for each of so many entries, and no room
abbrev pub places_alone : ℕ → Note
places_alone n = record { places = n; room = 0 }

-- What an input that a worker gave to its node came to: the site took it, or was down; or it was refused, which only a site
-- that is up was.
pub record HasGiven {D : Type 0} (meaning : Meaning D)
    (before : List Mark) (old : NodeView D) (i : Input) (marks : List Mark) (new : NodeView D) (answer : Result (Unit {0}) RunFault) : Type 0 where
  pub worked : HasWorked meaning before old marks new
  pub taken : OnOk answer (HasTaken (scenario_of before) old.site i (entries_of before) (entries_of marks))
  pub kept : OnErr answer (Meanwhile old.site (entries_of before) (entries_of marks))
  pub up : OnErr answer (is_up_at (entries_of before) old.site ≡ true)
  pub full : answer ≡ Err HistoryFull → most_of marks ≤ used_of marks
  pub none_back : HasGivenNoneBack old.site before marks

-- The next item of a site that is up is due, and the history is full.
pub record ItemHadNoRoom (marks : List Mark) (site : ℕ) : Type 0 where
  pub full : most_of marks ≤ used_of marks
  pub up : is_up_at (entries_of marks) site ≡ true
  pub item : Input
  pub due : IsNextItem (scenario_of marks) (entries_of marks) site item

-- These are the first packets to a site that is up, eight at most.
pub record AreTheFirst (marks : List Mark) (site : ℕ) (few : List Packet) : Type 0 where
  pub up : is_up_at (entries_of marks) site ≡ true
  pub most : length few ≤ 8
  pub rest : List Packet
  pub queue : queue_to (scenario_of marks) (entries_of marks) site ≡ few ++ rest

-- no packet to the site is pending, where it is up
abbrev pub NonePending : List Mark → ℕ → Type 0
NonePending marks site = is_up_at (entries_of marks) site ≡ true → (p : Packet) → IsLeastTo (scenario_of marks) (entries_of marks) site p → ⊥

-- a worker with a pass and with items of which none is done
pub record CanTakeItems {D : Type 0} (meaning : Meaning D) (wire : TableId) (w : Worker D) : Type 0 where
  pub pass : HasPass wire w
  pub knows : Knows meaning (seen_of w) w.node
  pub no_packets : list_any is_delivery w.items ≡ false
  pub begun : AreDone (scenario_of (seen_of w)) (entries_of (seen_of w)) w.node.site w.items 0

-- It gave its items to its node, all of them where it was not refused. Its site gave no promised place back.
pub record HasTakenItems {D : Type 0} (meaning : Meaning D) (wire : TableId) (before after : Worker D) : Type 0 where
  pub pass : HasPass wire after
  pub worked : HasWorked meaning (seen_of before) before.node (seen_of after) after.node
  pub done : OnOk after.ended (AreDone (scenario_of (seen_of before)) (entries_of (seen_of after)) before.node.site before.items (length before.items))
  pub full : after.ended ≡ Err HistoryFull → ItemHadNoRoom (seen_of after) before.node.site
  pub none_back : HasGivenNoneBack before.node.site (seen_of before) (seen_of after)

-- a worker with a pass, behind all items of all sites
pub record CanTakePackets {D : Type 0} (meaning : Meaning D) (wire : TableId) (w : Worker D) : Type 0 where
  pub pass : HasPass wire w
  pub knows : Knows meaning (seen_of w) w.node
  pub through : Through (scenario_of (seen_of w)) (entries_of (seen_of w))

-- It gave packets to its node, until none was pending where it was not refused. Where it was, the driver looks whether the
-- history is full.
pub record HasTakenPackets {D : Type 0} (meaning : Meaning D) (wire : TableId) (before after : Worker D) : Type 0 where
  pub pass : HasPass wire after
  pub worked : HasWorked meaning (seen_of before) before.node (seen_of after) after.node
  pub done : OnOk after.ended (NonePending (seen_of after) before.node.site)

-- behind these marks others than the owner put some
abbrev pub AddedByOthers : ℕ → List Mark → List Mark → Type 0
AddedByOthers owner before now = (since : List Mark) × (now ≡ before ++ since) × AreForeign owner since

-- the worker was given a pass that has seen these marks
pub record IsDealt {D : Type 0} (wire : TableId) (marks : List Mark) (before after : Worker D) : Type 0 where
  pub pass : HasPass wire after
  pub seen : seen_of after ≡ marks
  pub node : after.node ≡ before.node
  pub items : after.items ≡ before.items

-- it was given those of the inputs that go to its site
pub record HasItems {D : Type 0} (inputs : List Addressed) (before after : Worker D) : Type 0 where
  pub node : after.node ≡ before.node
  pub items : after.items ≡ inputs_to before.node.site inputs

-- what a worker has but for its pass is as it was
pub record KeepsItsOwn {D : Type 0} (before after : Worker D) : Type 0 where
  pub node : after.node ≡ before.node
  pub items : after.items ≡ before.items
  pub ended : after.ended ≡ before.ended
