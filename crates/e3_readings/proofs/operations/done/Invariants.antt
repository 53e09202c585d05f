use Rattle.std.proofs.Common.{◌≡◌, take, filter}
use Rattle.std.specs.List.{flat_map}
use Rattle.e3_types.specs.Same.{same_txn}
use Rattle.e3_world.specs.Operations.{performed_by}
use Rattle.e3_readings.proofs.operations.done.Given as goal

abbrev pub invariant-loop-a : goal.invariant-loop-a
invariant-loop-a l = l.out ≡ flat_map (performed_by l.steps) (filter (λ a. same_txn l.t a.txn) (take l.a-index l.a-items))
