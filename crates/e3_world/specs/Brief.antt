-- The brief of a log: a short log that says the same.
use Rattle.std.specs.Prelude.{◌++◌, ◌∷◌, [], if◌then◌else◌, ℕ, max, nat_lt, Bool, true, false, List, fold, Option, Some, None}
use Rattle.std.specs.List.{flat_map}
use Rattle.e3_types.specs.declared.records.Record.{Record}
use Rattle.e3_types.specs.declared.records.Record.TheVariants as log
use Rattle.e3_types.specs.declared.transactions.Dir.{Dir}
use Rattle.e3_types.specs.declared.transactions.NumOp.{NumOp}
use Rattle.e3_types.specs.declared.transactions.Row.{Row}
use Rattle.e3_types.specs.declared.transactions.Txn.{Txn}
use Rattle.e3_world.specs.Items.{add_txn, txn_of_record}
use Rattle.e3_world.specs.Logs.{last_elected, last_attempt, attempted, decision, has_voted, is_undecided, logged_inc, table_of, voted_ops}

-- the transactions with a record in a log, each once, ascending
abbrev pub txns_of : List Record → List Txn
txns_of records = fold add_txn [] (flat_map txn_of_record records)

-- a birth, with these rows
abbrev pub born_by : List Row → Record → List Record
born_by rows (log.Birth format site weights was) = log.Birth format site weights rows ∷ []
born_by rows _ = []

-- the birth of a log, with these rows
abbrev pub born_in : List Row → List Record → List Record
born_in rows records = flat_map (born_by rows) records

-- the last incarnation, if there is one
abbrev pub inc_in : ℕ → List Record
inc_in inc = if nat_lt 0 inc then log.Inc inc ∷ [] else []

-- the vote, if there is one, with these operations
abbrev pub vote_in : Txn → Bool → List NumOp → List Record
vote_in t true ops = log.Vote t ops ∷ []
vote_in t false ops = []

-- the last attempt, if there is one, and before it the join that it has its number of, where that is at least 2
abbrev pub attempt_in : Txn → Option Dir → ℕ → List Record
attempt_in t None n = []
attempt_in t (Some dir) n = (if nat_lt 1 n then log.Join t n ∷ [] else []) ++ log.Attempt t n dir ∷ []

-- the last join, if there is one, where it is above the one before the attempt
abbrev pub join_in : Txn → ℕ → ℕ → List Record
join_in t attempt elected = if nat_lt (max 1 attempt) elected then log.Join t elected ∷ [] else []

-- the decision, if there is one
abbrev pub decision_in : Txn → Option Dir → List Record
decision_in t None = []
decision_in t (Some dir) = log.Decision t dir ∷ []

-- the operations of a transaction's vote where it is undecided: they keep their locks, and its commit installs their writes
abbrev pub open_ops : Txn → List Record → List NumOp
open_ops t records = if is_undecided t records then voted_ops t records else []

-- what the brief of a log has of a transaction: its vote, with its operations where it is undecided and with none where it
-- is decided; its last attempt behind the join of that number; its last join where that is a later one; its decision
abbrev pub noted : List Record → Txn → List Record
noted records t =
    vote_in t (has_voted t records) (open_ops t records)
    ++ (attempt_in t (attempted t records) (last_attempt t records)
    ++ (join_in t (last_attempt t records) (last_elected t records)
    ++ decision_in t (decision t records)))

-- The brief of a log: its birth with the rows of its table, its last incarnation, and what it has of each transaction, these
-- ascending. An empty log has the empty brief.
abbrev pub brief : List Record → List Record
brief records = born_in (table_of records) records ++ (inc_in (logged_inc records) ++ flat_map (noted records) (txns_of records))
