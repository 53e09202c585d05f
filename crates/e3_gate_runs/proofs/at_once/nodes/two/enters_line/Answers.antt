use Rattle.std.proofs.Common.{refl}
use Rattle.e3_gate_runs.proofs.Going.{entered_line, ok_of}
use Rattle.e3_gate_runs.proofs.at_once.nodes.two.enters_line.Goals as goal

pub returns-in-Ok : goal.returns-in-Ok
returns-in-Ok g c = λ is.
    entered_line g.D.Disk.meaning c.other_entries_keep_nodes.ensures.nodes c.args.shared.now c.line-entered.new.self _ c.args.node.now c.args.other.now
    c.requires refl c.tell.ensures (ok_of c.line-entered.result _ _ c.in-Ok.is c.line-entered.ensures.entered)
