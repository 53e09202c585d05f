use Rattle.std.proofs.Common.{[], sym, subst}
use Rattle.e3_node.specs.NodeStands.{NodeStands}
use Rattle.e3_types.specs.declared.scenarios.Scenario.{Scenario}
use Rattle.e3_world.specs.Given.{IsGiven}
use Rattle.e3_gate_runs.proofs.at_once.nodes.plays_copy.Goals as goal

pub plays_scenario-requires-clause-given : goal.plays_scenario-requires-clause-given
plays_scenario-requires-clause-given g c = subst (λ (sc : Scenario). IsGiven sc) (sym c.in-Ok.ensures) c.requires.given

pub plays_scenario-requires-clause-node : goal.plays_scenario-requires-clause-node
plays_scenario-requires-clause-node g c = subst (λ (sc : Scenario). NodeStands g.D.Disk.meaning sc [] c.args.node.now) (sym c.in-Ok.ensures) c.requires.node

pub plays_scenario-requires-clause-other : goal.plays_scenario-requires-clause-other
plays_scenario-requires-clause-other g c = subst (λ (sc : Scenario). NodeStands g.D.Disk.meaning sc [] c.args.other.now) (sym c.in-Ok.ensures) c.requires.other
