-- what is left of the queue adds the rest
use Rattle.std.proofs.Common.{◌≡◌, ◌≤◌, ◌-◌, fold, length, take, drop}
use Rattle.e3_world.specs.Items.{add_txn}
use Rattle.e3_locks.specs.Waiting.{awaited}
use Rattle.e3_locks.proofs.waits.add_awaited.Given as goal

abbrev pub invariant-waiters : goal.invariant-waiters
invariant-waiters l = record {
  few : l.k ≤ length l.locks;
  rest : fold add_txn l.initial.out.items (awaited l.t (take l.held l.locks) (drop l.held l.locks))
      ≡ fold add_txn l.out.items (awaited l.t (take l.k l.locks) (drop l.k l.locks));
}

abbrev pub decreases-waiters : goal.decreases-waiters
decreases-waiters l = length l.locks - l.k
