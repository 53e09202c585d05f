use Rattle.std.proofs.Common.{◌≡◌, ◌&&◌, not, take, filter}
use Rattle.e3_world.specs.Logs.{is_undecided}
use Rattle.e3_world.specs.Operations.{is_answered}
use Rattle.e3_readings.proofs.operations.waiting.Given as goal

abbrev pub invariant-loop-a : goal.invariant-loop-a
invariant-loop-a l = l.out ≡ filter (λ a. is_undecided a.txn l.log && not (is_answered l.steps a)) (take l.a-index l.a-items)
