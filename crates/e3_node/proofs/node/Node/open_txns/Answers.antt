use Rattle.std.proofs.Common.{◌≡◌, [], fold, subst, sym}
use Rattle.std.specs.Prelude.{IfOk}
use Rattle.e3_node.specs.NodeStands.{IsIn, IsUp}
use Rattle.e3_node.specs.NodeView.{NodeView}
use Rattle.e3_node.specs.declared.state.State.{State}
use Rattle.e3_world.specs.Items.{add_txn, open_at}
use Rattle.e3_node.proofs.Steps.{open_by}
use Rattle.e3_node.proofs.node.Node.open_txns.Goals as goal

pub returns-in-Up-clause-up : goal.returns-in-Up-clause-up
returns-in-Up-clause-up g c = λ sc h was up.
    let inside : IsIn g.D.Disk.meaning sc h c.self.inside.site c.self.inside.state =
    subst (λ (x : NodeView _). IsIn g.D.Disk.meaning sc h x.site x.state) (sym c.self.view_is) was.state in
    let here : IsUp g.D.Disk.meaning sc h c.self.inside.site c.in-Up.site c.in-Up.field-1 c.in-Up.field-2 c.in-Up.field-3 =
    subst (λ (s : State _). IsIn g.D.Disk.meaning sc h c.self.inside.site s) c.in-Up.is inside in
    subst (λ (x : NodeView _). IfOk c.open_txns.result (λ txns. txns ≡ fold add_txn [] (open_at sc h x.site))) c.self.view_is
    (open_by sc h c.self.inside.site c.in-Up.site c.open_txns.result here.stands c.open_txns.ensures.listed)
