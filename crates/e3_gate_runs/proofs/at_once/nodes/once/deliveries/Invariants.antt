use Rattle.std.proofs.Common.{◌≡◌, map}
use Rattle.e3_types.specs.declared.entries.Input.TheVariants as input
use Rattle.e3_gate_runs.proofs.at_once.nodes.once.deliveries.Given as goal

abbrev pub invariant-loop-packet : goal.invariant-loop-packet
invariant-loop-packet l = l.inputs ≡ map input.Deliver l.yielded
