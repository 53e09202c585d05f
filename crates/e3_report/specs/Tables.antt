-- The table of a log, as maps keep it.
use Rattle.std.specs.Prelude.{◌++◌, [], if◌then◌else◌, ℕ, List, fold, map, unwrap_or}
use Rattle.std.specs.BTreeMap.{is_at}
use Rattle.std.specs.Cmp.Lexicographic.{slice_cmp}
use Rattle.std.specs.Ordering.{nat_cmp}
use Rattle.e3_types.specs.declared.records.Record.{Record}
use Rattle.e3_types.specs.declared.records.Record.TheVariants as log
use Rattle.e3_types.specs.declared.transactions.Dir.TheVariants.{Commit}
use Rattle.e3_types.specs.declared.transactions.NumOp.{NumOp}
use Rattle.e3_types.specs.declared.transactions.Row.{Row}
use Rattle.e3_types.specs.declared.transactions.Txn.{Txn}
use Rattle.e3_world.specs.Logs.{install_op}
use Rattle.e3_order.specs.Keys.{numbers_of, at_key}

-- the rows of a map from names to values
abbrev pub rows_of : List (List ℕ × List ℕ) → List Row
rows_of entries = map (λ e. record { name = e.0; val = e.1 }) entries

-- the operations that a map has at the numbers of a transaction
abbrev pub ops_at : List (List ℕ × List NumOp) → List ℕ → List NumOp
ops_at votes key = unwrap_or (at_key key votes) []

-- the operations of the votes of a transaction, as a map has them
abbrev pub ops_in : List (List ℕ × List NumOp) → Txn → List NumOp
ops_in votes t = ops_at votes (numbers_of t)

-- the operations at a key, with these at the key of a transaction too
abbrev pub ops_with : Txn → List NumOp → List ℕ → List NumOp → List NumOp
ops_with t ops key was = if is_at (slice_cmp nat_cmp (numbers_of t)) key then was ++ ops else was

-- the operations at a key behind one more record, which may be a vote
abbrev pub ops_by : List ℕ → List NumOp → Record → List NumOp
ops_by key was (log.Vote t ops) = ops_with t ops key was
ops_by key was _ = was

-- the table behind one more record, where these are the operations of the votes of a transaction
abbrev pub entered : (Txn → List NumOp) → List Row → Record → List Row
entered votes rows (log.Birth format site weights born) = born
entered votes rows (log.Decision t Commit) = fold install_op rows (votes t)
entered votes rows _ = rows
