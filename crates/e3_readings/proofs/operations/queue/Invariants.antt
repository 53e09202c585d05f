use Rattle.std.proofs.Common.{◌≡◌, take}
use Rattle.std.specs.List.{flat_map}
use Rattle.e3_world.specs.Logs.{lock_on}
use Rattle.e3_readings.proofs.operations.queue.Given as goal

abbrev pub invariant-loop-a : goal.invariant-loop-a
invariant-loop-a l = l.out ≡ flat_map (λ a. lock_on l.name a.txn a.op) (take l.a-index l.asked)
