use Rattle.std.proofs.Common.{refl}
use Rattle.e3_gate_runs.proofs.Going.{entered_own}
use Rattle.e3_gate_runs.proofs.at_once.nodes.two.rises.Goals as goal

pub returns-in-Ok : goal.returns-in-Ok
returns-in-Ok g c = λ is.
    entered_own g.D.Disk.meaning c.other_entries_keep_nodes.ensures.nodes c.args.shared.now c.rise.new.shared _ c.args.node.now c.args.other.now c.rise.new.self
    c.requires refl c.rise.ensures.shared.stands c.rise.ensures.shared.grew c.rise.ensures.shared.scenario c.in-Ok.ensures.rose.entered c.rise.ensures.stands c.rise.ensures.site
