-- Whom a transaction waits for.
use Rattle.std.specs.Prelude.{◌&&◌, ◌++◌, ◌∷◌, [], if◌then◌else◌, Bool, true, List, fold}
use Rattle.std.specs.List.{list_all, flat_map}
use Rattle.e3_types.specs.declared.locks.Lock.{Lock}
use Rattle.e3_types.specs.declared.transactions.Txn.{Txn}
use Rattle.e3_types.specs.Locks.{against}
use Rattle.e3_types.specs.Same.{same_txn, is_older}
use Rattle.e3_world.specs.Items.{add_txn}
use Rattle.e3_locks.specs.Places.{Place}
use Rattle.e3_locks.specs.LockLists.{LockLists, place, names_of}

-- those that the transaction's requests in a queue wait for: the others that conflict among the holders and the waiters
-- ahead of each
abbrev pub awaited : Txn → List Lock → List Lock → List Txn
awaited t ahead [] = []
awaited t ahead (w ∷ queue) = (if same_txn t w.txn then against w ahead else []) ++ awaited t (ahead ++ w ∷ []) queue

-- those that the transaction waits for on a name
abbrev pub awaited_at : Txn → Place → List Txn
awaited_at t p = awaited t p.held p.queue

-- those that the transaction waits for on all names, each once, the oldest first
abbrev pub waits_for : Txn → LockLists → List Txn
waits_for t l = fold add_txn [] (flat_map (λ name. awaited_at t (place name l)) (names_of l.queue))

-- each request of a queue is older than all that it waits for
abbrev pub is_fair : List Lock → List Lock → Bool
is_fair ahead [] = true
is_fair ahead (w ∷ queue) = list_all (is_older w.txn) (against w ahead) && is_fair (ahead ++ w ∷ []) queue
