-- What entries of others leave, and what a node that stands tells of its disk.
use Rattle.std.specs.Prelude.{◌≡◌, ◌≢◌, ◌++◌, ◌∷◌, [], ℕ, List}
use Rattle.e3_disk.specs.Meaning.{Meaning}
use Rattle.e3_laws.specs.local.Others.{AreOthers}
use Rattle.e3_node.specs.Bodies.{DiskStands}
use Rattle.e3_node.specs.NodeStands.{NodeStands}
use Rattle.e3_node.specs.NodeView.{NodeView, disk_of, is_up_in}
use Rattle.e3_turn.specs.Passes.{GrewByOthers, Owns, seen_by}
use Rattle.e3_types.specs.declared.entries.Entry.{Entry}
use Rattle.e3_types.specs.declared.scenarios.Scenario.{Scenario}
use Rattle.e3_wire.specs.Claims.{APass}
use Rattle.e3_wire.specs.Marks.{belongs, entries_of, scenario_of}
use Rattle.e3_wire.specs.Wires.{IsPlayed}
use Rattle.e3_wire.specs.declared.marks.Mark.{Mark}
use Rattle.e3_world.specs.Items.{is_up_at}
use Rattle.e3_world.specs.Moves.{moves_of}

-- a node that stands for a history stands for it with an entry of another owner
abbrev pub NodesKept : {D : Type 0} → Meaning D → Type 0
NodesKept {D} meaning =
    (sc : Scenario) (h : List Entry) (e : Entry) (node : NodeView D) → NodeStands meaning sc h node →
    e.owner ≢ node.site → NodeStands meaning sc (h ++ e ∷ []) node

-- and with more entries of others
abbrev pub NodesKeptByOthers : {D : Type 0} → Meaning D → Type 0
NodesKeptByOthers {D} meaning =
    (sc : Scenario) (h more : List Entry) (node : NodeView D) → NodeStands meaning sc h node →
    AreOthers node.site more → NodeStands meaning sc (h ++ more) node

-- so it does behind what others put while a pass of the site rested
abbrev pub NodesStandBehindOthers : {D : Type 0} → Meaning D → Type 0
NodesStandBehindOthers {D} meaning =
    (p : APass) (marks : List Mark) (node : NodeView D) → Owns p node.site → GrewByOthers belongs p marks → IsPlayed (seen_by p) → IsPlayed marks →
    NodeStands meaning (scenario_of (seen_by p)) (entries_of (seen_by p)) node →
    NodeStands meaning (scenario_of marks) (entries_of marks) node

-- what a site did stays behind entries of others
abbrev pub MovesStay : Type 0
MovesStay = (sc : Scenario) (site : ℕ) (h more : List Entry) → AreOthers site more → moves_of sc (h ++ more) site ≡ moves_of sc h site

-- so does a disk
abbrev pub DisksKept : {D : Type 0} → Meaning D → Type 0
DisksKept {D} meaning =
    (sc : Scenario) (h : List Entry) (e : Entry) (site : ℕ) (disk : D) → DiskStands meaning sc h site disk →
    e.owner ≢ site → DiskStands meaning sc (h ++ e ∷ []) site disk

-- the disk of a node that stands for a history stands for its site there
abbrev pub NodesDisks : {D : Type 0} → Meaning D → Type 0
NodesDisks {D} meaning =
    (sc : Scenario) (h : List Entry) (node : NodeView D) → NodeStands meaning sc h node →
    DiskStands meaning sc h node.site (disk_of node.state)

-- it is up exactly where the history has its site up
abbrev pub NodesUp : {D : Type 0} → Meaning D → Type 0
NodesUp {D} meaning =
    (sc : Scenario) (h : List Entry) (node : NodeView D) → NodeStands meaning sc h node →
    is_up_in node.state ≡ is_up_at h node.site
