-- those passed come first, and the transaction is none of them
use Rattle.std.proofs.Common.{◌≡◌, ◌++◌, take, drop}
use Rattle.e3_world.specs.Items.{add_txn}
use Rattle.e3_locks.proofs.waits.place_among.Given as goal

abbrev pub invariant-loop-k : goal.invariant-loop-k
invariant-loop-k l = add_txn l.txns l.new ≡ take l.k l.txns ++ add_txn (drop l.k l.txns) l.new
