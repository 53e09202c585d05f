use Rattle.std.proofs.Common.{refl}
use Rattle.e3_gate_runs.proofs.Going.{entered_own}
use Rattle.e3_gate_runs.proofs.at_once.nodes.two.takes.Goals as goal

pub returns-in-Ok : goal.returns-in-Ok
returns-in-Ok g c = λ is.
    entered_own g.D.Disk.meaning c.other_entries_keep_nodes.ensures.nodes c.args.shared.now c.input.new.shared _ c.args.node.now c.args.other.now c.input.new.self
    c.requires.two refl c.input.ensures.shared.stands c.input.ensures.shared.grew c.input.ensures.shared.scenario c.in-Ok.ensures.stepped c.input.ensures.stands c.input.ensures.site
