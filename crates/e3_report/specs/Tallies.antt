-- Transactions that are counted once each.
use Rattle.std.specs.Prelude.{ℕ, List, fold}
use Rattle.e3_types.specs.declared.transactions.Txn.{Txn}
use Rattle.e3_order.specs.Keys.{with_txn}

-- the transactions of a set with these
abbrev pub with_txns : List (List ℕ) → List Txn → List (List ℕ)
with_txns keys txns = fold (λ ks t. with_txn t ks) keys txns
