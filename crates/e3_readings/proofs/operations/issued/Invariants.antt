use Rattle.std.proofs.Common.{◌≡◌, take}
use Rattle.std.specs.List.{flat_map}
use Rattle.e3_world.specs.Operations.{issued_in}
use Rattle.e3_readings.proofs.operations.issued.Given as goal

abbrev pub invariant-loop-m : goal.invariant-loop-m
invariant-loop-m l = l.out ≡ flat_map (λ m. issued_in l.t m.input m.told) (take l.m-index l.steps)
