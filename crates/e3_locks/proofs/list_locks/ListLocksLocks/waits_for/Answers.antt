-- whoever is waited for is younger
use Rattle.std.proofs.Common.{◌≡◌, ◌∙◌, ap, true, rules, List}
use Rattle.std.specs.List.{list_all}
use Rattle.std.proofs.lemmas.Result.{IfOk-weaker}
use Rattle.e3_types.specs.declared.transactions.Txn.{Txn}
use Rattle.e3_types.specs.Same.{is_older}
use Rattle.e3_locks.specs.LockLists.{LockLists}
use Rattle.e3_locks.specs.Waiting.{waits_for}
use Rattle.e3_locks.proofs.Fairness.{waits_younger}
use Rattle.e3_locks.proofs.list_locks.ListLocksLocks.waits_for.Goals as goal

pub returns-clause-younger : goal.returns-clause-younger
returns-clause-younger c =
    let l : LockLists = record { held = c.self.inside.held.items; queue = c.self.inside.queue.items; room = 0 } in
    let t : Txn = c.args.txn in
    IfOk-weaker c.all_awaited.result (λ out. out ≡ waits_for t l) (λ out. list_all (is_older t) out ≡ true)
    (λ out e. ap (λ (ts : List Txn). list_all (is_older t) ts) e ∙ waits_younger t l c.self.invariant.1) (search rules)
