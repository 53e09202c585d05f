use Rattle.e3_node.proofs.Keeping.{node_disk, node_up}
use Rattle.e3_node.proofs.law.a_node_tells_of_its_disk.Goals as goal

pub returns-clause-disks : goal.returns-clause-disks
returns-clause-disks g c = node_disk g.D.Disk.meaning

pub returns-clause-up : goal.returns-clause-up
returns-clause-up g c = node_up g.D.Disk.meaning
