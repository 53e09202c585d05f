use Rattle.std.proofs.Common.{◌≡◌, ◌++◌, take}
use Rattle.std.specs.List.{flat_map}
use Rattle.e3_world.specs.Operations.{answer_told, answer_sent}
use Rattle.e3_readings.proofs.operations.answers.Given as goal

abbrev pub invariant-loop-m : goal.invariant-loop-m
invariant-loop-m l = l.out ≡ flat_map (λ m. flat_map (answer_told l.a) m.told ++ flat_map (answer_sent l.a) m.outs) (take l.m-index l.steps)
