use Rattle.std.proofs.Common.{◌≡◌, ◌++◌, take}
use Rattle.std.specs.List.{flat_map}
use Rattle.e3_world.specs.Items.{began_in}
use Rattle.e3_readings.proofs.opens.add_begun.Given as goal

abbrev pub invariant-loop-m : goal.invariant-loop-m
invariant-loop-m l = l.txns ≡ l.initial.txns ++ flat_map (λ m. flat_map began_in m.told) (take l.m-index l.steps)
