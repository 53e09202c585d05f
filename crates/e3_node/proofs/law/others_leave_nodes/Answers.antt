use Rattle.e3_node.proofs.Waiting.{moves_stay, node_behind, node_others}
use Rattle.e3_node.proofs.law.others_leave_nodes.Goals as goal

pub returns-clause-nodes : goal.returns-clause-nodes
returns-clause-nodes g c = node_others g.D.Disk.meaning

pub returns-clause-turns : goal.returns-clause-turns
returns-clause-turns g c = node_behind g.D.Disk.meaning

pub returns-clause-moves : goal.returns-clause-moves
returns-clause-moves g c = moves_stay
