-- One order: the committed transactions by their last votes, and what running them one after the other gives.
use Rattle.std.specs.Prelude.{◌≡◌, ◌&&◌, ◌++◌, ◌∷◌, [], if◌then◌else◌, ℕ, nat_lt, Bool, true, false, not, List, fold, map, filter, Some, Contains, take_while}
use Rattle.std.specs.List.{list_any, flat_map}
use Rattle.e3_types.specs.declared.transactions.Answer.{Answer}
use Rattle.e3_types.specs.declared.transactions.Answer.TheVariants.{Value}
use Rattle.e3_types.specs.declared.transactions.Dir.TheVariants.{Commit}
use Rattle.e3_types.specs.declared.transactions.Key.{Key}
use Rattle.e3_types.specs.declared.transactions.NumOp.{NumOp}
use Rattle.e3_types.specs.declared.transactions.Op.{Op}
use Rattle.e3_types.specs.declared.transactions.Op.TheVariants.{Read, Write}
use Rattle.e3_types.specs.declared.records.Record.{Record}
use Rattle.e3_types.specs.declared.scenarios.Scenario.{Scenario}
use Rattle.e3_types.specs.declared.transactions.Txn.{Txn}
use Rattle.e3_types.specs.declared.records.Record.TheVariants as log
use Rattle.e3_types.specs.declared.entries.Told.TheVariants as told
use Rattle.e3_types.specs.Same.{same_txn, same_key}
use Rattle.e3_world.specs.Logs.{is_vote, voted_ops, table_of, row_value}
use Rattle.e3_world.specs.Moves.{Did, Stepped, Move, moves_at, log_by, rows_at, Placed, all_records}
use Rattle.e3_world.specs.Operations.{issued_in, nth_op}
use Rattle.e3_world.specs.Sound.{tells}

-- the record commits the transaction
abbrev pub is_commit : Txn → Record → Bool
is_commit t (log.Decision u Commit) = same_txn t u
is_commit t _ = false

-- some log commits the transaction
abbrev pub is_committed : Txn → List Placed → Bool
is_committed t records = list_any (λ p. is_commit t p.entered) records

-- some vote of the transaction stands among these records
abbrev pub votes_among : Txn → List Placed → Bool
votes_among t records = list_any (λ p. is_vote t p.entered) records

-- the transactions that some log commits, in the order of their last votes in all logs
abbrev pub order_in : List Placed → List Placed → List Txn
order_in all [] = []
order_in all (p ∷ rest) = last_votes p.entered ++ order_in all rest
  where
    last_votes : Record → List Txn
    last_votes (log.Vote t ops) = if is_committed t all && not (votes_among t rest) then t ∷ [] else []
    last_votes _ = []

-- the order of the committed transactions
abbrev pub commit_order : List Placed → List Txn
commit_order records = order_in records records

-- the operations with one more, in the order of their numbers
abbrev pub add_op : List NumOp → NumOp → List NumOp
add_op [] new = new ∷ []
add_op (o ∷ ops) new = if nat_lt new.n o.n then new ∷ o ∷ ops else o ∷ add_op ops new

-- the operations of all votes of a transaction, in the order of their numbers
abbrev pub all_ops : Txn → List Placed → List NumOp
all_ops t records = fold add_op [] (voted_ops t (map (λ p. p.entered) records))

-- what the records of all sites are at some time, by key
abbrev pub World : Type 0
World = Key → Answer

-- at first they are the scenario's rows
abbrev pub first_world : Scenario → World
first_world sc key = row_value key.name (rows_at key.site sc.rows)

-- what the records are behind an operation
abbrev pub run_op : World → NumOp → World
run_op world o = run o.op
  where
    run : Op → World
    run (Write key val) k = if same_key k key then Value val else world k
    run (Read key) k = world k

-- what the records are behind a transaction
abbrev pub run_txn : List Placed → World → Txn → World
run_txn records world t = fold run_op world (all_ops t records)

-- the transactions run one after the other
abbrev pub replay : Scenario → List Placed → List Txn → World
replay sc records txns = fold (run_txn records) (first_world sc) txns

-- what the n-th operation of a transaction finds at a key, in the replay of all that are committed
abbrev pub found_by : Scenario → List Placed → Txn → ℕ → Key → Answer
found_by sc records t n key =
    fold run_op (replay sc records (take_while (λ u. not (same_txn t u)) (commit_order records)))
    (filter (λ o. nat_lt o.n n) (all_ops t records)) key

-- the operations that moves of the coordinator issued; the n-th has number n
abbrev pub issued_by : Txn → List Move → List Op
issued_by t moves = flat_map (λ m. by m.did) moves
  where
    by : Did → List Op
    by (Stepped s) = issued_in t s.input s.told
    by _ = []

-- the transactions of the order that this log commits
abbrev pub committed_in : List Record → List Txn → List Txn
committed_in records txns = filter (λ t. list_any (is_commit t) records) txns

-- the log has a birth
abbrev pub is_birth : Record → Bool
is_birth (log.Birth format site weights rows) = true
is_birth _ = false

-- each site's table is the replay of what its own log commits; each read of a committed transaction that was told is
-- the one of the replay
pub record IsSerial (sc : Scenario) (trail : List Move) : Type 0 where
  pub tables : (s : ℕ) (name : List ℕ) → list_any is_birth (log_by (moves_at s trail)) ≡ true →
      row_value name (table_of (log_by (moves_at s trail)))
      ≡ replay sc (all_records trail) (committed_in (log_by (moves_at s trail)) (commit_order (all_records trail)))
      (record { site = s; name = name })
  pub reads : (m : Move) (t : Txn) (n : ℕ) (answer : Answer) (key : Key) →
      Contains trail m → Contains (tells m) (told.Op t n answer) →
      nth_op n (issued_by t (moves_at t.site trail)) ≡ Some (Read key) →
      is_committed t (all_records trail) ≡ true → answer ≡ found_by sc (all_records trail) t n key
