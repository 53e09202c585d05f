-- one name more
use Rattle.std.proofs.Common.{List, ℕ, arith}
use Rattle.e3_types.specs.declared.transactions.Txn.{Txn}
use Rattle.e3_locks.specs.LockLists.{place}
use Rattle.e3_locks.specs.Waiting.{awaited_at}
use Rattle.e3_locks.proofs.Awaiting.{next_awaited}
use Rattle.e3_locks.proofs.waits.all_awaited.Goals as goal

pub loop-name-preserved : goal.loop-name-preserved
loop-name-preserved c =
    let f : List ℕ → List Txn = λ n. awaited_at c.args.t.now (place n (record { held = c.args.held.now; queue = c.args.queue.now; room = 0 })) in
    next_awaited f c.as_slice-name-items.result.now c.loop-name.name-index c.name-item.result c.loop-name.out.items c.add_awaited_on.new.out.items
    (omega arith) c.name-item.is c.loop-name.invariant c.in_ok-add_awaited_on.ensures
