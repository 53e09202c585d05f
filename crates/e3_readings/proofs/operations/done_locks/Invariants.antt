use Rattle.std.proofs.Common.{◌≡◌, ◌&&◌, take, filter}
use Rattle.std.specs.List.{flat_map}
use Rattle.e3_world.specs.Logs.{is_undecided, lock_on}
use Rattle.e3_world.specs.Operations.{is_answered}
use Rattle.e3_readings.proofs.operations.done_locks.Given as goal

abbrev pub invariant-loop-a : goal.invariant-loop-a
invariant-loop-a l = l.out ≡ flat_map (λ a. lock_on l.name a.txn a.op) (filter (λ a. is_undecided a.txn l.log && is_answered l.steps a) (take l.a-index l.a-items))
