-- those waited for on the names so far
use Rattle.std.proofs.Common.{◌≡◌, [], fold, take}
use Rattle.std.specs.List.{flat_map}
use Rattle.e3_world.specs.Items.{add_txn}
use Rattle.e3_locks.specs.LockLists.{place}
use Rattle.e3_locks.specs.Waiting.{awaited_at}
use Rattle.e3_locks.proofs.waits.all_awaited.Given as goal

abbrev pub invariant-loop-name : goal.invariant-loop-name
invariant-loop-name l =
    l.out.items ≡ fold add_txn [] (flat_map (λ n. awaited_at l.t (place n (record { held = l.held; queue = l.queue; room = 0 }))) (take l.name-index l.name-items))
