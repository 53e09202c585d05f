use Rattle.std.proofs.Common.{sym, subst}
use Rattle.e3_node.specs.NodeStands.{IsFallen}
use Rattle.e3_node.specs.NodeView.{disk_of}
use Rattle.e3_node.specs.Rising.{RiseMakes}
use Rattle.e3_node.specs.declared.state.State.{State}
use Rattle.e3_node.proofs.rising.risen.Goals as goal

pub returns-clause-makes : goal.returns-clause-makes
returns-clause-makes g c = λ sc h may fallen.
    let site = c.args.wish.site in
    subst (λ (s : State _). RiseMakes g.D.Disk.meaning sc h site (disk_of s) c.raise.result.0 c.raise.result.1) (sym c.in-Down.is)
    (c.raise.ensures.makes sc h may (subst (λ (s : State _). IsFallen g.D.Disk.meaning sc h site s) c.in-Down.is fallen))
