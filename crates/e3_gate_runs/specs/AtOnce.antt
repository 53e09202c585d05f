-- What a node is asked to take in one call.
use Rattle.std.specs.Prelude.{◌≡◌, ◌≤◌, true, false, List, length}
use Rattle.e3_disk.specs.Meaning.{Meaning}
use Rattle.e3_laws.specs.local.Drafts.{MayTakeAll}
use Rattle.e3_laws.specs.local.Least.{AreFirstTo}
use Rattle.e3_node.specs.NodeStands.{NodeStands}
use Rattle.e3_node.specs.NodeView.{NodeView}
use Rattle.e3_node.specs.Turns.{history_seen, scenario_seen}
use Rattle.e3_turn.specs.Passes.{Owns, seen_by}
use Rattle.e3_types.specs.declared.entries.Input.{Input}
use Rattle.e3_wire.specs.Claims.{APass}
use Rattle.e3_wire.specs.Marks.{note_of}
use Rattle.e3_wire.specs.Wires.{IsPlayed}
use Rattle.e3_world.specs.Items.{is_up_at}
use Rattle.e3_world.specs.Packets.{is_calm, present_items}

-- The node stands for what its pass has seen, and these are the first packets to its site, eight at most, with a place for each.
pub record MayTakeAtOnce {D : Type 0} (meaning : Meaning D) (p : APass) (node : NodeView D) (inputs : List Input) : Type 0 where
  pub owns : Owns p node.site
  pub played : IsPlayed (seen_by p)
  pub stands : NodeStands meaning (scenario_seen p) (history_seen p) node
  pub restless : is_calm (present_items (scenario_seen p) (history_seen p)) ≡ false
  pub few : (1 ≤ length inputs) × (length inputs ≤ 8)
  pub due : is_up_at (history_seen p) node.site ≡ true → MayTakeAll (scenario_seen p) (history_seen p) node.site inputs
  pub first : is_up_at (history_seen p) node.site ≡ true → AreFirstTo (scenario_seen p) (history_seen p) node.site inputs
  pub places : is_up_at (history_seen p) node.site ≡ true → length inputs ≤ (note_of node.site (seen_by p)).places
