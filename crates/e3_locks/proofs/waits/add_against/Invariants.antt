-- those in the way so far
use Rattle.std.proofs.Common.{◌≡◌, fold, take}
use Rattle.e3_types.specs.Locks.{against}
use Rattle.e3_world.specs.Items.{add_txn}
use Rattle.e3_locks.proofs.waits.add_against.Given as goal

abbrev pub invariant-loop-lock : goal.invariant-loop-lock
invariant-loop-lock l = l.out.items ≡ fold add_txn l.initial.out.items (against l.wanted (take l.lock-index l.ahead))
