use Rattle.std.proofs.Common.{◌≡◌, ◌++◌, take, map}
use Rattle.e3_readings.proofs.opens.add_arrived.Given as goal

abbrev pub invariant-loop-a : goal.invariant-loop-a
invariant-loop-a l = l.txns ≡ l.initial.txns ++ map (λ a. a.txn) (take l.a-index l.a-items)
