use Rattle.std.proofs.Common.{ap, refl, subst, sym}
use Rattle.e3_node.specs.NodeStands.{IsIn}
use Rattle.e3_node.specs.NodeView.{NodeView}
use Rattle.e3_node.proofs.Steps.{node_with}
use Rattle.e3_node.proofs.node.Node.stop.Goals as goal

pub returns-clause-stands : goal.returns-clause-stands
returns-clause-stands g c = λ sc h was.
    let before : IsIn g.D.Disk.meaning sc h c.self.inside.site c.self.inside.state =
    subst (λ (x : NodeView _). IsIn g.D.Disk.meaning sc h x.site x.state) (sym c.self.view_is) was.state in
    let behind = c.arm.ensures.stands sc h c.self.inside.site before in
    node_with g.D.Disk.meaning sc sc h h c.args.self.now _ c.arm.new.state was refl
    (subst (λ (x : NodeView _). IsIn g.D.Disk.meaning sc h x.site c.arm.new.state) c.self.view_is behind)
    (ap (λ (x : NodeView _). let n : NodeView _ = record { site = x.site; weights = x.weights; rows = x.rows; state = c.arm.new.state } in n) c.self.view_is)
