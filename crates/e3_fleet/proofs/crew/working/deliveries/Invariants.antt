use Rattle.std.proofs.Common.{◌≡◌, ◌≤◌, length, map, take, vec_capacity}
use Rattle.e3_types.specs.declared.entries.Input.TheVariants as input
use Rattle.e3_fleet.proofs.crew.working.deliveries.Given as goal

abbrev pub invariant-loop-packet : goal.invariant-loop-packet
invariant-loop-packet l = record {
  items : l.inputs.items ≡ map input.Deliver (take l.packet-index l.few);
  enough : length l.few ≤ vec_capacity l.inputs;
}
