use Rattle.std.proofs.Common.{◌≡◌, take}
use Rattle.std.specs.List.{flat_map}
use Rattle.e3_world.specs.Operations.{reason_in}
use Rattle.e3_readings.proofs.operations.kept_reason.Given as goal

abbrev pub invariant-loop-m : goal.invariant-loop-m
invariant-loop-m l = l.out ≡ flat_map (λ m. flat_map (reason_in l.t) m.told) (take l.m-index l.steps)
