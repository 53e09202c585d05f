use Rattle.e3_node.proofs.Keeping.{disks_kept, node_kept}
use Rattle.e3_node.proofs.law.other_entries_keep_nodes.Goals as goal

pub returns-clause-nodes : goal.returns-clause-nodes
returns-clause-nodes g c = node_kept g.D.Disk.meaning

pub returns-clause-disks : goal.returns-clause-disks
returns-clause-disks g c = disks_kept g.D.Disk.meaning
