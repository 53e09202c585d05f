-- The locks of one name: who holds them and who waits, and what a request and a release make of that.
use Rattle.std.specs.Prelude.{◌++◌, ◌∷◌, [], not, List, length, filter, drop, fold, Option, None}
use Rattle.e3_types.specs.declared.locks.Grant.{Grant}
use Rattle.e3_types.specs.declared.locks.Grant.TheVariants.{Held, Waits, Dies}
use Rattle.e3_types.specs.declared.locks.Lock.{Lock}
use Rattle.e3_types.specs.declared.locks.Mode.{Mode}
use Rattle.e3_types.specs.declared.transactions.Txn.{Txn}
use Rattle.e3_types.specs.Locks.{lock_grant, front}
use Rattle.e3_types.specs.Same.{same_txn}
use Rattle.e3_world.specs.Operations.{stronger}

-- the locks of one name: those that are held, and those that are waited for, both in the order in which they came
pub record Place : Type 0 where
  pub held : List Lock
  pub queue : List Lock

-- what the lock rule answers to a request
abbrev pub would : Lock → Place → Grant
would wanted p = lock_grant wanted p.held p.queue

-- the place behind a request that was answered so: the lock is held, or waits behind all others, or nothing changes
abbrev pub requested : Lock → Grant → Place → Place
requested wanted Held p = record { held = p.held ++ wanted ∷ []; queue = p.queue }
requested wanted Waits p = record { held = p.held; queue = p.queue ++ wanted ∷ [] }
requested wanted (Dies older) p = p

-- the locks but those of the transaction
abbrev pub others_of : Txn → List Lock → List Lock
others_of t locks = filter (λ l. not (same_txn t l.txn)) locks

-- the place without the transaction's locks and requests
abbrev pub without : Txn → Place → Place
without t p = record { held = others_of t p.held; queue = others_of t p.queue }

-- the place where the longest front of its queue that the holders allow has its locks
abbrev pub advanced : Place → Place
advanced p = record { held = p.held ++ front p.held p.queue; queue = drop (length (front p.held p.queue)) p.queue }

-- the place behind a release of all that the transaction has
abbrev pub released : Txn → Place → Place
released t p = advanced (without t p)

-- the strongest mode in which a transaction holds one of these, if it does
abbrev pub mode_held : Txn → List Lock → Option Mode
mode_held t locks = fold stronger None (filter (λ l. same_txn t l.txn) locks)
