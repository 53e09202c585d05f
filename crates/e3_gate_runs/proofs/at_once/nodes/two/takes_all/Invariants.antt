use Rattle.e3_gate_runs.specs.TwoNodes.{HaveGoneOn}
use Rattle.e3_gate_runs.proofs.at_once.nodes.two.takes_all.Given as goal

abbrev pub invariant-loop-item : goal.invariant-loop-item
invariant-loop-item g l = HaveGoneOn g.D.Disk.meaning l.fn.shared l.shared l.node l.other
