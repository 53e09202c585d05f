use Rattle.std.proofs.Common.{◌≡◌, take, fold}
use Rattle.e3_world.specs.Operations.{expected_by}
use Rattle.e3_readings.proofs.operations.expected.Given as goal

abbrev pub invariant-loop-m : goal.invariant-loop-m
invariant-loop-m l = l.e ≡ fold (expected_by l.t l.site) (record { inc = 0; count = 0 }) (take l.m-index l.steps)
