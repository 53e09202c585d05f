use Rattle.std.proofs.Common.{rules, ◌≡◌, true}
use Rattle.e3_gate_runs.proofs.Going.{on_more}
use Rattle.e3_gate_runs.proofs.at_once.nodes.two.takes_all.Goals as goal

pub loop-item-preserved : goal.loop-item-preserved
loop-item-preserved g c =
    let well : c.takes.result ≡ true = search rules in
    on_more g.D.Disk.meaning c.args.shared.now c.loop-item.shared c.takes.new.shared c.loop-item.node c.args.other.now c.takes.new.node c.args.other.now
    c.requires.stands.played c.loop-item.invariant (c.takes.ensures well)
