use Rattle.std.proofs.Common.{◌≡◌, ◌++◌, take}
use Rattle.std.specs.List.{flat_map}
use Rattle.e3_world.specs.Operations.{answer_told, answer_sent}
use Rattle.e3_readings.proofs.operations.add_answers.Given as goal

abbrev pub invariant-loop-e : goal.invariant-loop-e
invariant-loop-e l = l.out ≡ l.initial.out ++ flat_map (answer_told l.a) (take l.e-index l.e-items)

abbrev pub invariant-loop-packet : goal.invariant-loop-packet
invariant-loop-packet l = l.out ≡ l.initial.out ++ flat_map (answer_sent l.a) (take l.packet-index l.packet-items)
