-- what one name more gets
use Rattle.std.proofs.Common.{◌++◌, ◌∙◌, ap, sym, List, arith}
use Rattle.e3_locks.specs.declared.granted.Granted.{Granted}
use Rattle.e3_locks.specs.LockLists.{grants_on}
use Rattle.e3_locks.proofs.Requests.{flat_more}
use Rattle.e3_locks.proofs.fronts.all_fronts.Goals as goal

pub loop-name-preserved : goal.loop-name-preserved
loop-name-preserved c =
    c.in_ok-push_front.ensures
    ∙ ap (λ (out : List Granted). out ++ grants_on c.args.t.now (record { held = c.args.held.now; queue = c.args.queue.now; room = 0 }) c.name-item.result) c.loop-name.invariant
    ∙ sym (flat_more (grants_on c.args.t.now (record { held = c.args.held.now; queue = c.args.queue.now; room = 0 })) c.as_slice-name-items.result.now c.loop-name.name-index c.name-item.result (omega arith) c.name-item.is)
