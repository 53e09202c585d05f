-- What a log says of a transaction: counters, state, operations, and the table. A log is a list of records, the oldest first.
use Rattle.std.specs.Prelude.{◌∷◌, [], if◌then◌else◌, ℕ, max, Bool, true, false, List, fold, Option, Some, None, is_none}
use Rattle.std.specs.List.{list_any, flat_map}
use Rattle.std.specs.Ordering.{nat_cmp, match_ordering}
use Rattle.std.specs.Cmp.Lexicographic.{slice_cmp}
use Rattle.e3_types.specs.declared.transactions.Answer.{Answer}
use Rattle.e3_types.specs.declared.transactions.Answer.TheVariants.{Absent, Value}
use Rattle.e3_types.specs.declared.transactions.Dir.{Dir}
use Rattle.e3_types.specs.declared.transactions.Dir.TheVariants.{Abort, Commit}
use Rattle.e3_types.specs.declared.transactions.Key.{Key}
use Rattle.e3_types.specs.declared.locks.Lock.{Lock}
use Rattle.e3_types.specs.declared.locks.Mode.{Mode}
use Rattle.e3_types.specs.declared.locks.Mode.TheVariants.{Shared, Exclusive}
use Rattle.e3_types.specs.declared.transactions.NumOp.{NumOp}
use Rattle.e3_types.specs.declared.transactions.Op.{Op}
use Rattle.e3_types.specs.declared.transactions.Op.TheVariants.{Read, Write}
use Rattle.e3_types.specs.declared.records.Record.{Record}
use Rattle.e3_types.specs.declared.transactions.Row.{Row}
use Rattle.e3_types.specs.declared.transactions.State.{State}
use Rattle.e3_types.specs.declared.transactions.State.TheVariants.{Q, W, Pc, Pa, C, A}
use Rattle.e3_types.specs.declared.transactions.Txn.{Txn}
use Rattle.e3_types.specs.declared.records.Record.TheVariants as log
use Rattle.e3_types.specs.Same.{same_numbers, same_txn}

-- the greatest number so far, with one more record
abbrev pub last_elected_by : Txn → ℕ → Record → ℕ
last_elected_by t n (log.Join u m) = if same_txn t u then max n m else n
last_elected_by t n _ = n

-- Last_Elected of a transaction: the greatest number of an election that the site joined, and 1 if it joined none
abbrev pub last_elected : Txn → List Record → ℕ
last_elected t records = fold (last_elected_by t) 1 records

-- the greatest number so far, with one more record
abbrev pub last_attempt_by : Txn → ℕ → Record → ℕ
last_attempt_by t n (log.Attempt u m dir) = if same_txn t u then max n m else n
last_attempt_by t n _ = n

-- Last_Attempt of a transaction: the greatest number of an attempt, and 0 if there is none
abbrev pub last_attempt : Txn → List Record → ℕ
last_attempt t records = fold (last_attempt_by t) 0 records

-- the decision so far, with one more record
abbrev pub decision_by : Txn → Option Dir → Record → Option Dir
decision_by t was (log.Decision u dir) = if same_txn t u then Some dir else was
decision_by t was _ = was

-- the decision of a transaction, if there is one
abbrev pub decision : Txn → List Record → Option Dir
decision t records = fold (decision_by t) None records

-- the direction of the last attempt so far, with one more record
abbrev pub attempted_by : Txn → Option Dir → Record → Option Dir
attempted_by t was (log.Attempt u m dir) = if same_txn t u then Some dir else was
attempted_by t was _ = was

-- the direction of the last attempt of a transaction, if there is one
abbrev pub attempted : Txn → List Record → Option Dir
attempted t records = fold (attempted_by t) None records

-- a vote of the transaction stands in the log
abbrev pub is_vote : Txn → Record → Bool
is_vote t (log.Vote u ops) = same_txn t u
is_vote t _ = false

-- the log has a vote of the transaction
abbrev pub has_voted : Txn → List Record → Bool
has_voted t records = list_any (is_vote t) records

-- the state: by the decision, else by the last attempt, else by the vote
abbrev pub state_of : Txn → List Record → State
state_of t records = by_decision (decision t records)
  where
    by_vote : Bool → State
    by_vote true = W
    by_vote false = Q

    by_attempt : Option Dir → State
    by_attempt (Some Commit) = Pc
    by_attempt (Some Abort) = Pa
    by_attempt None = by_vote (has_voted t records)

    by_decision : Option Dir → State
    by_decision (Some Commit) = C
    by_decision (Some Abort) = A
    by_decision None = by_attempt (attempted t records)

-- the log has no decision of the transaction
abbrev pub is_undecided : Txn → List Record → Bool
is_undecided t records = is_none (decision t records)

-- the incarnation so far, with one more record
abbrev pub logged_inc_by : ℕ → Record → ℕ
logged_inc_by n (log.Inc m) = m
logged_inc_by n _ = n

-- the incarnation of the last Inc of a log, and 0 if there is none
abbrev pub logged_inc : List Record → ℕ
logged_inc records = fold logged_inc_by 0 records

-- the operations of a record, if it is a vote of the transaction
abbrev pub ops_of_vote : Txn → Record → List NumOp
ops_of_vote t (log.Vote u ops) = if same_txn t u then ops else []
ops_of_vote t _ = []

-- the operations of all votes of a transaction
abbrev pub voted_ops : Txn → List Record → List NumOp
voted_ops t records = flat_map (ops_of_vote t) records

-- the rows with this one set, in byte order of names
abbrev pub set_row : Row → List Row → List Row
set_row new [] = new ∷ []
set_row new (row ∷ rows) =
    match_ordering (slice_cmp nat_cmp new.name row.name) (new ∷ row ∷ rows) (new ∷ rows) (row ∷ set_row new rows)

-- the rows after one operation
abbrev pub install_op : List Row → NumOp → List Row
install_op rows op = install op.op
  where
    install : Op → List Row
    install (Write key val) = set_row (record { name = key.name; val = val }) rows
    install (Read key) = rows

-- the table so far, with one more record of the log: a birth has its rows, a commit installs the writes of its votes
abbrev pub table_by : List Record → List Row → Record → List Row
table_by all rows (log.Birth format site weights born) = born
table_by all rows (log.Decision t Commit) = fold install_op rows (voted_ops t all)
table_by all rows _ = rows

-- the table of a log: the rows of its birth, with the writes of what it commits, in the order of its decisions
abbrev pub table_of : List Record → List Row
table_of records = fold (table_by records) [] records

-- the value of a name in a table
abbrev pub row_value : List ℕ → List Row → Answer
row_value name [] = Absent
row_value name (row ∷ rows) = if same_numbers name row.name then Value row.val else row_value name rows

-- the key of an operation
abbrev pub key_of : Op → Key
key_of (Read key) = key
key_of (Write key val) = key

-- a read takes a shared lock, a write an exclusive one
abbrev pub mode_of : Op → Mode
mode_of (Read key) = Shared
mode_of (Write key val) = Exclusive

-- the lock of an operation, where it is on this name
abbrev pub lock_on : List ℕ → Txn → Op → List Lock
lock_on name t op =
    if same_numbers name (key_of op).name then record { txn = t; mode = mode_of op } ∷ [] else []

-- the locks on a name that a record's vote takes, where its transaction is undecided in this log
abbrev pub vote_locks : List ℕ → List Record → Record → List Lock
vote_locks name records (log.Vote u ops) = if is_undecided u records then flat_map (λ o. lock_on name u o.op) ops else []
vote_locks name records _ = []

-- the locks on a name of the votes of undecided transactions
abbrev pub voted_locks : List ℕ → List Record → List Lock
voted_locks name records = flat_map (vote_locks name records) records
