-- Two nodes over what they share, which one holder gives inputs.
use Rattle.std.specs.Prelude.{◌≢◌, List}
use Rattle.e3_disk.specs.Meaning.{Meaning}
use Rattle.e3_node.specs.NodeStands.{NodeStands}
use Rattle.e3_node.specs.NodeView.{NodeView}
use Rattle.e3_node.specs.SharedStands.{SharedStands}
use Rattle.e3_wire.specs.Claims.{HaveGrown}
use Rattle.e3_wire.specs.declared.marks.Mark.{Mark}
use Rattle.e3_wire.specs.Marks.{entries_of, scenario_of}

-- what is shared stands, and each of both nodes stands for its own site in the history
pub record AreTwo {D : Type 0} (meaning : Meaning D) (marks : List Mark) (x y : NodeView D) : Type 0 where
  pub stands : SharedStands marks
  pub node : NodeStands meaning (scenario_of marks) (entries_of marks) x
  pub other : NodeStands meaning (scenario_of marks) (entries_of marks) y
  pub apart : x.site ≢ y.site

-- so they do behind further marks of owners
pub record HaveGoneOn {D : Type 0} (meaning : Meaning D) (before now : List Mark) (x y : NodeView D) : Type 0 where
  pub two : AreTwo meaning now x y
  pub grown : HaveGrown before now
