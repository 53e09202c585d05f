use Rattle.std.proofs.Common.{rules, ◌≡◌, true}
use Rattle.e3_gate_runs.proofs.Going.{on_more}
use Rattle.e3_gate_runs.proofs.at_once.nodes.two.begins.Goals as goal

pub returns-in-Ok : goal.returns-in-Ok
returns-in-Ok g c = λ is.
    let well : c.enters_line.result ≡ true = search rules in
    on_more g.D.Disk.meaning c.args.shared.now c.enters_line.new.shared c.takes_all.new.shared c.args.node.now c.args.other.now c.takes_all.new.node c.args.other.now
    c.requires.stands.played (c.enters_line.ensures well) (c.takes_all.ensures is)
