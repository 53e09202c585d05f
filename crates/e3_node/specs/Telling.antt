-- What makes records come back from their spelling: what they tell of themselves, and what a legal history gives.
use Rattle.std.specs.Prelude.{◌≡◌, true, ℕ}
use Rattle.std.specs.List.{AllByRecursion as Each}
use Rattle.e3_codec.specs.Fields.{IsShort, RowFits, TxnNumbersFit}
use Rattle.e3_laws.specs.steps.Bounds.{IsHere}
use Rattle.e3_types.specs.Text.{IsName, IsValue}
use Rattle.e3_types.specs.Transactions.{is_txn}
use Rattle.e3_types.specs.declared.records.Record.{Record}
use Rattle.e3_types.specs.declared.records.Record.TheVariants as log
use Rattle.e3_types.specs.declared.transactions.NumOp.{NumOp}
use Rattle.e3_types.specs.declared.transactions.Op.{Op}
use Rattle.e3_types.specs.declared.transactions.Op.TheVariants.{Read, Write}

-- the operation has a name, and a value where it writes
abbrev pub OpTold : Op → Type 0
OpTold (Read key) = IsName key.name
OpTold (Write key val) = IsName key.name × IsValue val

-- and a number
abbrev pub NumOpTold : NumOp → Type 0
NumOpTold o = IsShort o.n × OpTold o.op

-- The numbers, names and values of a record are such as their types have.
abbrev pub IsTold : Record → Type 0
IsTold (log.Birth format own weights rows) = IsShort format × (IsShort own × (Each IsShort weights × Each RowFits rows))
IsTold (log.Inc inc) = IsShort inc
IsTold (log.Vote t ops) = TxnNumbersFit t × Each NumOpTold ops
IsTold (log.Join t n) = TxnNumbersFit t × IsShort n
IsTold (log.Attempt t n dir) = TxnNumbersFit t × IsShort n
IsTold (log.Decision t dir) = TxnNumbersFit t

-- What a legal history gives of a record of a site: its transaction is one, and a vote's operations are on keys of the site.
abbrev pub IsOfSite : ℕ → Record → Type 0
IsOfSite site (log.Birth format own weights rows) = Unit {0}
IsOfSite site (log.Inc inc) = Unit {0}
IsOfSite site (log.Vote t ops) = (is_txn t ≡ true) × Each (IsHere site) ops
IsOfSite site (log.Join t n) = is_txn t ≡ true
IsOfSite site (log.Attempt t n dir) = is_txn t ≡ true
IsOfSite site (log.Decision t dir) = is_txn t ≡ true
