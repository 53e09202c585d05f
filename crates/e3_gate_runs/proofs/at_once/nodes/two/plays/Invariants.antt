use Rattle.e3_gate_runs.specs.TwoNodes.{HaveGoneOn}
use Rattle.e3_gate_runs.proofs.at_once.nodes.two.plays.Given as goal

abbrev pub invariant-loop-number : goal.invariant-loop-number
invariant-loop-number g l = HaveGoneOn g.D.Disk.meaning l.fn.shared l.shared l.node l.other
