-- Which records have a spelling, and which can be read back from the log of a site.
use Rattle.std.specs.Prelude.{◌≡◌, ◌<◌, ◌^◌, true, ℕ, List, length}
use Rattle.std.specs.List.{AllByRecursion}
use Rattle.e3_types.specs.declared.transactions.NumOp.{NumOp}
use Rattle.e3_types.specs.declared.transactions.Op.{Op}
use Rattle.e3_types.specs.declared.transactions.Op.TheVariants.{Read, Write}
use Rattle.e3_types.specs.declared.records.Record.{Record}
use Rattle.e3_types.specs.declared.transactions.Row.{Row}
use Rattle.e3_types.specs.declared.transactions.Txn.{Txn}
use Rattle.e3_types.specs.declared.records.Record.TheVariants as log
use Rattle.e3_types.specs.Sites.{sites_of}
use Rattle.e3_types.specs.Text.{IsName, IsValue}
use Rattle.e3_types.specs.Transactions.{is_txn}

-- the number fits into four bytes
abbrev pub IsShort : ℕ → Type 0
IsShort n = n < 2 ^ 32

-- the list has fewer than 2^32 members, each of which fits
abbrev pub ListFits : {X : Type 0} → (X → Type 0) → List X → Type 0
ListFits fits xs = IsShort (length xs) × AllByRecursion fits xs

-- the sites are those of some 64 bits
abbrev pub SetFits : List ℕ → Type 0
SetFits sites = (bits : ℕ) × (bits < 2 ^ 64) × (sites ≡ sites_of bits)

-- the numbers of the transaction fit, whether or not it is one
pub record TxnNumbersFit (t : Txn) : Type 0 where
  pub site : IsShort t.site
  pub inc : IsShort t.inc
  pub seq : IsShort t.seq
  pub sites : SetFits t.sites

-- the transaction is one, and its numbers fit
pub record TxnFits (t : Txn) : Type 0 where
  pub site : IsShort t.site
  pub inc : IsShort t.inc
  pub seq : IsShort t.seq
  pub sites : SetFits t.sites
  pub is_one : is_txn t ≡ true

-- the row has a name and a value
abbrev pub RowFits : Row → Type 0
RowFits row = IsName row.name × IsValue row.val

-- the operation is on a record of the site
abbrev pub OpFits : ℕ → Op → Type 0
OpFits site (Read key) = (key.site ≡ site) × IsName key.name
OpFits site (Write key val) = (key.site ≡ site) × (IsName key.name × IsValue val)

-- and its number fits
abbrev pub NumOpFits : ℕ → NumOp → Type 0
NumOpFits site o = IsShort o.n × OpFits site o.op

-- each list of the record has fewer than 2^32 members, which the four bytes of its count can tell: only then does the
-- record have a spelling
abbrev pub HasSpelling : Record → Type 0
HasSpelling (log.Birth format own weights rows) = IsShort (length weights) × IsShort (length rows)
HasSpelling (log.Inc inc) = Unit {0}
HasSpelling (log.Vote t ops) = IsShort (length ops)
HasSpelling (log.Join t n) = Unit {0}
HasSpelling (log.Attempt t n dir) = Unit {0}
HasSpelling (log.Decision t dir) = Unit {0}

-- the record can be told by its spelling in the log of the site: it has a spelling, each field is one that its bytes can
-- tell, and the operations of a vote have keys of the site, which the spelling leaves out; a transaction may be none
abbrev pub CanBeTold : ℕ → Record → Type 0
CanBeTold site (log.Birth format own weights rows) =
    IsShort format × (IsShort own × (ListFits IsShort weights × ListFits RowFits rows))
CanBeTold site (log.Inc inc) = IsShort inc
CanBeTold site (log.Vote t ops) = TxnNumbersFit t × ListFits (NumOpFits site) ops
CanBeTold site (log.Join t n) = TxnNumbersFit t × IsShort n
CanBeTold site (log.Attempt t n dir) = TxnNumbersFit t × (IsShort n × Unit {0})
CanBeTold site (log.Decision t dir) = TxnNumbersFit t × Unit {0}

-- each of these records can be told by its spelling in the log of the site
abbrev pub AllCanBeTold : ℕ → List Record → Type 0
AllCanBeTold site records = AllByRecursion (CanBeTold site) records

-- the record can be read back from its spelling in the log of the site: it can be told by it, and its transaction
-- is one
abbrev pub CanBeReadBack : ℕ → Record → Type 0
CanBeReadBack site (log.Birth format own weights rows) =
    IsShort format × (IsShort own × (ListFits IsShort weights × ListFits RowFits rows))
CanBeReadBack site (log.Inc inc) = IsShort inc
CanBeReadBack site (log.Vote t ops) = TxnFits t × ListFits (NumOpFits site) ops
CanBeReadBack site (log.Join t n) = TxnFits t × IsShort n
CanBeReadBack site (log.Attempt t n dir) = TxnFits t × (IsShort n × Unit {0})
CanBeReadBack site (log.Decision t dir) = TxnFits t × Unit {0}

-- each of these records can be read back from the log of the site
abbrev pub AllCanBeReadBack : ℕ → List Record → Type 0
AllCanBeReadBack site records = AllByRecursion (CanBeReadBack site) records
