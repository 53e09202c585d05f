use Rattle.std.proofs.Common.{◌≡◌, ◌++◌, take}
use Rattle.std.specs.List.{flat_map}
use Rattle.e3_world.specs.Items.{began_in}
use Rattle.e3_readings.proofs.opens.add_began.Given as goal

abbrev pub invariant-loop-event : goal.invariant-loop-event
invariant-loop-event l = l.txns ≡ l.initial.txns ++ flat_map began_in (take l.event-index l.told)
