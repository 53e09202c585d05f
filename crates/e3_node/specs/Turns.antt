-- What a call of a site makes of what its pass has seen, while other sites go on.
use Rattle.std.specs.Prelude.{◌≡◌, ◌≤◌, ◌++◌, ◌∷◌, [], ℕ, false, List, Result, Ok, Err}
use Rattle.atomic_table.specs.Seated.{TableId}
use Rattle.e3_disk.specs.Meaning.{Meaning}
use Rattle.e3_laws.specs.local.Least.{AreOfSites}
use Rattle.e3_laws.specs.local.Others.{AreOthers}
use Rattle.e3_node.specs.Ends.{FellOver}
use Rattle.e3_node.specs.NodeStands.{IsFallen, IsIn, NodeStands}
use Rattle.e3_node.specs.NodeView.{NodeView, disk_of}
use Rattle.e3_node.specs.declared.fault.InputFault.{InputFault}
use Rattle.e3_node.specs.declared.fault.InputFault.TheVariants.{Fell, HistoryFull, NoMemory}
use Rattle.e3_node.specs.declared.state.State.{State}
use Rattle.e3_turn.specs.Passes.{GrewByOthers, IsIdle, Owns, SameOwners, seen_by}
use Rattle.e3_types.specs.declared.entries.Entry.{Entry}
use Rattle.e3_types.specs.declared.entries.Input.{Input}
use Rattle.e3_types.specs.declared.entries.Why.{Why}
use Rattle.e3_types.specs.declared.scenarios.Scenario.{Scenario}
use Rattle.e3_wire.specs.Claims.{APass}
use Rattle.e3_wire.specs.Marks.{belongs, entries_of, last_owner, most_of, note_of, scenario_of, used_of}
use Rattle.e3_wire.specs.Wires.{IsPlayed}
use Rattle.e3_wire.specs.declared.marks.Mark.{Mark}
use Rattle.e3_wire.specs.declared.marks.Mark.TheVariants as mark
use Rattle.e3_world.specs.Legal.{entry_of}
use Rattle.e3_world.specs.Packets.{is_calm, present_items}

-- the scenario and the history of the marks that a pass has seen
abbrev pub scenario_seen : APass → Scenario
scenario_seen p = scenario_of (seen_by p)

abbrev pub history_seen : APass → List Entry
history_seen p = entries_of (seen_by p)

-- A call of the site may take turns by this pass: it rests and speaks for the site, one of the scenario, outside of a recover step.
pub record MayTakeTurns (lock : TableId) (site : ℕ) (p : APass) : Type 0 where
  pub idle : IsIdle lock p
  pub owns : Owns p site
  pub played : IsPlayed (seen_by p)
  pub some : 1 ≤ site
  pub exists : site ≤ last_owner (seen_by p)
  pub restless : is_calm (present_items (scenario_seen p) (history_seen p)) ≡ false

-- behind the first history other sites than this entered something, and nobody else
pub record Meanwhile (site : ℕ) (before now : List Entry) : Type 0 where
  pub others : List Entry
  pub of_others : AreOthers site others
  pub of_sites : AreOfSites others
  pub is : now ≡ before ++ others

-- what the first pass had seen is the beginning of what the second has
abbrev pub HasSeenMore : APass → APass → Type 0
HasSeenMore p q = (more : List Mark) × (seen_by q ≡ seen_by p ++ more)

-- what a call of the site made of its pass
pub record HasTurned (lock : TableId) (p q : APass) : Type 0 where
  pub idle : IsIdle lock q
  pub same : SameOwners p q
  pub played : IsPlayed (seen_by q)
  pub seen : HasSeenMore p q

-- it did so, and no place and no room are promised to the site that were not before
pub record HasKeptPromises (lock : TableId) (site : ℕ) (p q : APass) : Type 0 where
  pub turned : HasTurned lock p q
  pub promised : (note_of site (seen_by q)).places ≡ (note_of site (seen_by p)).places
  pub room : (note_of site (seen_by q)).room ≤ (note_of site (seen_by p)).room

-- behind what others put, a place that was left is claimed for the site, and room for so many packets
pub record HasClaimed (site outs : ℕ) (p q : APass) : Type 0 where
  pub between : List Mark
  pub grew : GrewByOthers belongs p between
  pub played : IsPlayed between
  pub left : most_of between ≤ used_of between → ⊥
  pub is : seen_by q ≡ between ++ mark.Place site outs ∷ []

-- want of memory, or a full history
abbrev pub IsRefusal : InputFault → Type 0
IsRefusal NoMemory = Unit {0}
IsRefusal HistoryFull = Unit {0}
IsRefusal _ = ⊥

module _ {D : Type 0} (meaning : Meaning D) where
  -- A call of a node may take turns by this pass: it rests and speaks for the node's site, and the node stands for what it has
  -- seen, outside of a recover step.
  pub record NodeMayTakeTurns (lock : TableId) (p : APass) (node : NodeView D) : Type 0 where
    pub idle : IsIdle lock p
    pub owns : Owns p node.site
    pub played : IsPlayed (seen_by p)
    pub stands : NodeStands meaning (scenario_seen p) (history_seen p) node
    pub restless : is_calm (present_items (scenario_seen p) (history_seen p)) ≡ false

  -- the site made the step of an input behind what others entered
  pub record HasStepped (sc : Scenario) (before more : List Entry) (site : ℕ) (i : Input) (new : State D) : Type 0 where
    pub now : List Entry
    pub meanwhile : Meanwhile site before now
    pub entered : more ≡ now ++ entry_of sc now site i ∷ []
    pub stands : IsIn meaning sc more site new

  -- it fell over the input
  pub record HasFallen (sc : Scenario) (before more : List Entry) (site : ℕ) (i : Input) (why : Why) (new : State D) : Type 0 where
    pub now : List Entry
    pub meanwhile : Meanwhile site before now
    pub fell : FellOver sc now site i why more
    pub stands : IsFallen meaning sc more site new

  -- or it did nothing
  pub record IsStill (sc : Scenario) (before more : List Entry) (site : ℕ) (old new : State D) : Type 0 where
    pub meanwhile : Meanwhile site before more
    pub disk : disk_of new ≡ disk_of old
    pub stands : IsIn meaning sc more site new

  -- how an input of the site ended
  abbrev pub EndsSo : Scenario → List Entry → List Entry → ℕ → Input → State D → State D → Result (Unit {0}) InputFault → Type 0
  EndsSo sc before more site i old new (Ok done) = HasStepped sc before more site i new
  EndsSo sc before more site i old new (Err (Fell why)) = HasFallen sc before more site i why new
  EndsSo sc before more site i old new (Err fault) = IsStill sc before more site old new
