use Rattle.std.proofs.Common.{◌≡◌, ◌∙◌, ap, sym, subst}
use Rattle.e3_node.specs.Bodies.{DiskStands}
use Rattle.e3_node.specs.NodeView.{NodeView, disk_of}
use Rattle.e3_node.proofs.Keeping.{node_disk}
use Rattle.e3_node.proofs.node.Node.into_disk.Goals as goal

pub returns-clause-stands : goal.returns-clause-stands
returns-clause-stands g c = λ sc h was.
    let is : c.into_disk.result ≡ disk_of c.args.self.state = c.into_disk.ensures ∙ ap (λ (n : NodeView _). disk_of n.state) c.self.view_is in
    subst (λ (d : _). DiskStands g.D.Disk.meaning sc h c.args.self.site d) (sym is)
    (node_disk g.D.Disk.meaning sc h c.args.self was)
