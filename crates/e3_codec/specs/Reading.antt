-- How a record is read: its tag, and its fields one after the other.
use Rattle.std.specs.Prelude.{◌&&◌, ℕ, zero, suc, nat_le, Bool, List, length, Option, Some, None}
use Rattle.std.specs.Int.{w16, w32, w64}
use Rattle.std.specs.List.{list_all}
use Rattle.e3_types.specs.declared.transactions.Dir.{Dir}
use Rattle.e3_types.specs.declared.transactions.Dir.TheVariants.{Abort, Commit}
use Rattle.e3_types.specs.declared.transactions.NumOp.{NumOp}
use Rattle.e3_types.specs.declared.transactions.Op.{Op}
use Rattle.e3_types.specs.declared.transactions.Op.TheVariants.{Read, Write}
use Rattle.e3_types.specs.declared.records.Record.{Record}
use Rattle.e3_types.specs.declared.transactions.Row.{Row}
use Rattle.e3_types.specs.declared.transactions.Txn.{Txn}
use Rattle.e3_types.specs.declared.records.Record.TheVariants as log
use Rattle.e3_types.specs.Sites.{sites_of}
use Rattle.e3_types.specs.Text.{is_letter}
use Rattle.e3_types.specs.Transactions.{is_txn}
use Rattle.e3_codec.specs.Reader.{Reader, ◌>>=◌, pair_at, mapped_at, tested_at, number_at, byte_at, counted_at, listed_at}

-- a number of four bytes
abbrev pub u32_at : Reader ℕ
u32_at = number_at w32

-- the transaction of four numbers, the last of which has its sites as bits
abbrev pub txn_from : ℕ × (ℕ × (ℕ × ℕ)) → Txn
txn_from p = record { site = p.0; inc = p.1.0; seq = p.1.1.0; sites = sites_of p.1.1.1 }

-- a transaction
unfoldable pub txn_at : Reader Txn
txn_at bytes = tested_at is_txn (mapped_at txn_from (pair_at u32_at (pair_at u32_at (pair_at u32_at (number_at w64))))) bytes

-- the direction of a code
unfoldable pub dir_of : ℕ → Option Dir
dir_of zero = Some Abort
dir_of (suc zero) = Some Commit
dir_of (suc (suc b)) = None

-- a direction
unfoldable pub dir_at : Reader Dir
dir_at bytes = byte_at bytes >>= λ b. dir_of b.0 >>= λ d. Some (d, b.1)

-- the bytes are a name
abbrev pub is_name : List ℕ → Bool
is_name bytes = nat_le 1 (length bytes) && nat_le (length bytes) 32 && list_all is_letter bytes

-- a name
unfoldable pub name_at : Reader (List ℕ)
name_at bytes = tested_at is_name (counted_at byte_at) bytes

-- the bytes are a value
abbrev pub is_value : List ℕ → Bool
is_value bytes = nat_le (length bytes) 256

-- a value
unfoldable pub val_at : Reader (List ℕ)
val_at bytes = tested_at is_value (counted_at (number_at w16)) bytes

-- the row of a name and a value
abbrev pub row_from : List ℕ × List ℕ → Row
row_from p = record { name = p.0; val = p.1 }

-- a row
unfoldable pub row_at : Reader Row
row_at bytes = mapped_at row_from (pair_at name_at val_at) bytes

-- a read of a record of the site, and a write
abbrev pub read_from : ℕ → List ℕ → Op
read_from site name = Read (record { site = site; name = name })

-- a write of a record of the site
abbrev pub write_from : ℕ → List ℕ × List ℕ → Op
write_from site p = Write (record { site = site; name = p.0 }) p.1

-- an operation of this kind
unfoldable pub kind_at : ℕ → ℕ → Reader Op
kind_at site zero bytes = mapped_at (read_from site) name_at bytes
kind_at site (suc zero) bytes = mapped_at (write_from site) (pair_at name_at val_at) bytes
kind_at site (suc (suc kind)) bytes = None

-- an operation: its kind, its name, and the value of a write
unfoldable pub op_at : ℕ → Reader Op
op_at site bytes = byte_at bytes >>= λ kind. kind_at site kind.0 kind.1

-- an operation with its number
abbrev pub num_op_from : ℕ × Op → NumOp
num_op_from p = record { n = p.0; op = p.1 }

-- an operation with its number
unfoldable pub num_op_at : ℕ → Reader NumOp
num_op_at site bytes = mapped_at num_op_from (pair_at u32_at (op_at site)) bytes

-- the fields of a birth, of a vote, of a join, of an attempt, and of a decision
abbrev pub birth_at : Reader (ℕ × (ℕ × (List ℕ × List Row)))
birth_at = pair_at u32_at (pair_at u32_at (pair_at (listed_at u32_at) (listed_at row_at)))

-- a vote's
abbrev pub vote_at : ℕ → Reader (Txn × List NumOp)
vote_at site = pair_at txn_at (listed_at (num_op_at site))

-- a join's
abbrev pub join_at : Reader (Txn × ℕ)
join_at = pair_at txn_at u32_at

-- an attempt's
abbrev pub attempt_at : Reader (Txn × (ℕ × Dir))
attempt_at = pair_at txn_at (pair_at u32_at dir_at)

-- a decision's
abbrev pub decision_at : Reader (Txn × Dir)
decision_at = pair_at txn_at dir_at

-- the record with this tag
unfoldable pub body_at : ℕ → ℕ → Reader Record
body_at site (suc zero) bytes = mapped_at (λ p. log.Birth p.0 p.1.0 p.1.1.0 p.1.1.1) birth_at bytes
body_at site (suc (suc zero)) bytes = mapped_at (λ n. log.Inc n) u32_at bytes
body_at site (suc (suc (suc zero))) bytes = mapped_at (λ p. log.Vote p.0 p.1) (vote_at site) bytes
body_at site (suc (suc (suc (suc zero)))) bytes = mapped_at (λ p. log.Join p.0 p.1) join_at bytes
body_at site (suc (suc (suc (suc (suc zero))))) bytes = mapped_at (λ p. log.Attempt p.0 p.1.0 p.1.1) attempt_at bytes
body_at site (suc (suc (suc (suc (suc (suc zero)))))) bytes = mapped_at (λ p. log.Decision p.0 p.1) decision_at bytes
body_at site tag bytes = None

-- a record of the site's log
unfoldable pub record_at : ℕ → Reader Record
record_at site bytes = byte_at bytes >>= λ tag. body_at site tag.0 tag.1
