-- the locks of each name behind the request
use Rattle.std.proofs.Common.{◌≡◌, ◌∙◌, ap, subst}
use Rattle.std.specs.Prelude.{OnOk}
use Rattle.e3_locks.specs.declared.granted.Granted.{Granted}
use Rattle.e3_locks.specs.LockLists.{on, held_with, queue_with}
use Rattle.e3_locks.proofs.Requests.{requested_lists}
use Rattle.e3_locks.proofs.list_locks.ListLocksLocks.request.Goals as goal

pub returns-in-Ok-clause-ok : goal.returns-in-Ok-clause-ok
returns-in-Ok-clause-ok c = λ n.
    let x : Granted = record { txn = c.args.txn; name = c.args.name.now; mode = c.args.mode } in
    let grant = c.grant_on-grant.result in
    let old = c.args.self.now in
    let h : c.put.new.self.held ≡ held_with grant c.of-asked.result old.held = subst (λ r. OnOk r (c.put.new.self.held ≡ held_with grant c.of-asked.result old.held)) c.in-Ok.is c.put.ensures.held in
    let q : c.put.new.self.queue ≡ queue_with grant c.of-asked.result old.queue = subst (λ r. OnOk r (c.put.new.self.queue ≡ queue_with grant c.of-asked.result old.queue)) c.in-Ok.is c.put.ensures.queue in
    let hx = h ∙ ap (λ (y : Granted). held_with grant y old.held) c.of-asked.ensures in
    let qx = q ∙ ap (λ (y : Granted). queue_with grant y old.queue) c.of-asked.ensures in
    (λ i. record { held = on n (hx i); queue = on n (qx i) }) ∙ requested_lists old.held old.queue x grant n
