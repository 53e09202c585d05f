use Rattle.std.proofs.Common.{◌≡◌, ◌++◌, take}
use Rattle.std.specs.List.{flat_map}
use Rattle.e3_world.specs.Items.{txn_of_record}
use Rattle.e3_readings.proofs.opens.add_logged.Given as goal

abbrev pub invariant-loop-r : goal.invariant-loop-r
invariant-loop-r l = l.txns ≡ l.initial.txns ++ flat_map txn_of_record (take l.r-index l.log)
