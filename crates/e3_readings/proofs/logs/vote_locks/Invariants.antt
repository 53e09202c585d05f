use Rattle.std.proofs.Common.{◌≡◌, ◌++◌, take}
use Rattle.std.specs.List.{flat_map}
use Rattle.e3_world.specs.Logs.{lock_on}
use Rattle.e3_readings.proofs.logs.vote_locks.Given as goal

abbrev pub invariant-loop-o : goal.invariant-loop-o
invariant-loop-o l = l.out ≡ l.initial.out ++ flat_map (λ o. lock_on l.name l.txn o.op) (take l.o-index l.o-items)
