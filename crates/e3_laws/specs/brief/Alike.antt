-- What is read of a log, and which logs read alike.
use Rattle.std.specs.Prelude.{◌≡◌, ℕ, true, List, [], filter}
use Rattle.e3_types.specs.declared.locks.Lock.{Lock}
use Rattle.e3_types.specs.declared.records.Record.{Record}
use Rattle.e3_types.specs.declared.transactions.Row.{Row}
use Rattle.e3_types.specs.declared.transactions.Txn.{Txn}
use Rattle.e3_types.specs.Same.{same_txn}
use Rattle.e3_world.specs.Logs.{last_elected, last_attempt, attempted, decision, has_voted, is_undecided, logged_inc, state_of, table_of, voted_ops, voted_locks}
use Rattle.e3_world.specs.Orderly.{weights_in}
use Rattle.e3_world.specs.Brief.{born_in, txns_of}

-- Two logs read alike: they have the same birth but for its rows, the same incarnation, table and transactions; and each
-- transaction has the same counters, the same direction of its last attempt, decision and vote, and where it is undecided
-- the same operations. All else that a site's step reads of its log comes of these.
pub record ReadAlike (a b : List Record) : Type 0 where
  pub empty : a ≡ [] → b ≡ []
  pub some : b ≡ [] → a ≡ []
  pub born : (rows : List Row) → born_in rows a ≡ born_in rows b
  pub weights : weights_in a ≡ weights_in b
  pub inc : logged_inc a ≡ logged_inc b
  pub table : table_of a ≡ table_of b
  pub txns : txns_of a ≡ txns_of b
  pub elected : (t : Txn) → last_elected t a ≡ last_elected t b
  pub attempt : (t : Txn) → last_attempt t a ≡ last_attempt t b
  pub attempted : (t : Txn) → attempted t a ≡ attempted t b
  pub decided : (t : Txn) → decision t a ≡ decision t b
  pub voted : (t : Txn) → has_voted t a ≡ has_voted t b
  pub ops : (t : Txn) → is_undecided t a ≡ true → voted_ops t a ≡ voted_ops t b

-- the locks of a transaction among these, in their order
abbrev pub locks_by : Txn → List Lock → List Lock
locks_by t locks = filter (λ l. same_txn t l.txn) locks

-- Logs that read alike have the same states, and on each name each transaction has the same locks by votes, in the same
-- order. The locks of several transactions may stand in another order.
pub record StandAlike (a b : List Record) : Type 0 where
  pub state : (t : Txn) → state_of t a ≡ state_of t b
  pub undecided : (t : Txn) → is_undecided t a ≡ is_undecided t b
  pub locks : (name : List ℕ) (t : Txn) → locks_by t (voted_locks name a) ≡ locks_by t (voted_locks name b)
