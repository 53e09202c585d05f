use Rattle.std.proofs.Common.{◌≡◌, take, fold, []}
use Rattle.e3_world.specs.Items.{add_txn}
use Rattle.e3_readings.proofs.opens.in_order.Given as goal

abbrev pub invariant-loop-t : goal.invariant-loop-t
invariant-loop-t l = l.out.items ≡ fold add_txn [] (take l.t-index l.txns)
