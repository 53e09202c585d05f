-- What a transaction notes to do at a site, and what reads and the commit make of it.
use Rattle.std.specs.Prelude.{◌&&◌, ◌∷◌, [], Bool, true, not, nat_lt, ℕ, List, fold}
use Rattle.std.specs.List.{list_all, list_any}
use Rattle.e3_types.specs.declared.transactions.Answer.{Answer}
use Rattle.e3_types.specs.declared.transactions.NumOp.{NumOp}
use Rattle.e3_types.specs.declared.transactions.Row.{Row}
use Rattle.e3_types.specs.declared.transactions.Txn.{Txn}
use Rattle.e3_types.specs.Same.{same_numbers}
use Rattle.e3_world.specs.Logs.{set_row, install_op, row_value}
use Rattle.e3_world.specs.Making.{read_of}

-- a table: its rows, and room for so many names more
pub record TableRows : Type 0 where
  pub rows : List Row
  pub room : ℕ

-- what a transaction noted, and room for so many operations more
pub record Noted : Type 0 where
  pub txn : Txn
  pub ops : List NumOp
  pub room : ℕ

-- the names of these rows differ
abbrev pub names_differ : List Row → Bool
names_differ [] = true
names_differ (row ∷ rows) = not (list_any (λ r. same_numbers row.name r.name) rows) && names_differ rows

-- these rows in byte order of names
abbrev pub in_order : List Row → List Row
in_order rows = fold (λ ordered row. set_row row ordered) [] rows

-- the numbers of these operations ascend
abbrev pub ascend : List NumOp → Bool
ascend [] = true
ascend (o ∷ ops) = list_all (λ p. nat_lt o.n p.n) ops && ascend ops

-- what it reads behind one operation more
abbrev pub read_by : List ℕ → Answer → NumOp → Answer
read_by name was o = read_of name was o.op

-- what a name reads: the last write of these operations there, else the row, else absent
abbrev pub read_behind : List ℕ → List NumOp → List Row → Answer
read_behind name ops rows = fold (read_by name) (row_value name rows) ops

-- the rows behind these operations
abbrev pub installed : List NumOp → List Row → List Row
installed ops rows = fold install_op rows ops
