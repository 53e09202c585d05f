-- How records are spelled in a log: numbers unsigned, the high byte first.
use Rattle.std.specs.Prelude.{◌%◌, ◌/◌, ◌^◌, ◌++◌, ◌∷◌, [], ℕ, zero, suc, List, length}
use Rattle.std.specs.List.{flat_map}
use Rattle.e3_types.specs.declared.transactions.Dir.{Dir}
use Rattle.e3_types.specs.declared.transactions.Dir.TheVariants.{Abort, Commit}
use Rattle.e3_types.specs.declared.transactions.NumOp.{NumOp}
use Rattle.e3_types.specs.declared.transactions.Op.{Op}
use Rattle.e3_types.specs.declared.transactions.Op.TheVariants.{Read, Write}
use Rattle.e3_types.specs.declared.records.Record.{Record}
use Rattle.e3_types.specs.declared.transactions.Row.{Row}
use Rattle.e3_types.specs.declared.transactions.Txn.{Txn}
use Rattle.e3_types.specs.declared.records.Record.TheVariants as log
use Rattle.e3_types.specs.Sites.{bits_of}

-- the k lowest bytes of a number, the high byte first
abbrev pub high_first : ℕ → ℕ → List ℕ
high_first zero n = []
high_first (suc k) n = (n / 256 ^ k % 256) ∷ high_first k n

-- a number as one byte
abbrev pub u8 : ℕ → List ℕ
u8 n = high_first 1 n

-- a number as two bytes
abbrev pub u16 : ℕ → List ℕ
u16 n = high_first 2 n

-- a number as four bytes
abbrev pub u32 : ℕ → List ℕ
u32 n = high_first 4 n

-- a name: its length in one byte, and its bytes
abbrev pub spell_name : List ℕ → List ℕ
spell_name name = u8 (length name) ++ name

-- a value: its length in two bytes, and its bytes
abbrev pub spell_val : List ℕ → List ℕ
spell_val val = u16 (length val) ++ val

-- a transaction: three numbers, and its sites as eight bytes in which bit k - 1 stands for site k
abbrev pub spell_txn : Txn → List ℕ
spell_txn t = u32 t.site ++ u32 t.inc ++ u32 t.seq ++ high_first 8 (bits_of t.sites)

-- a direction: 0 is abort, 1 is commit
abbrev pub spell_dir : Dir → List ℕ
spell_dir Abort = u8 0
spell_dir Commit = u8 1

-- an operation of a vote: its number, its kind, its name, and the value of a write; the site is the log's own
abbrev pub spell_op : NumOp → List ℕ
spell_op o = u32 o.n ++ by o.op
  where
    by : Op → List ℕ
    by (Read key) = u8 0 ++ spell_name key.name
    by (Write key val) = u8 1 ++ spell_name key.name ++ spell_val val

-- a row: its name and its value
abbrev pub spell_row : Row → List ℕ
spell_row row = spell_name row.name ++ spell_val row.val

-- a list: its length in four bytes, and its members one after the other
abbrev pub spell_list : {X : Type 0} → (X → List ℕ) → List X → List ℕ
spell_list spell xs = u32 (length xs) ++ flat_map spell xs

-- a record: its tag in one byte, and its fields
abbrev pub spell_record : Record → List ℕ
spell_record (log.Birth format site weights rows) =
    u8 1 ++ u32 format ++ u32 site ++ spell_list u32 weights ++ spell_list spell_row rows
spell_record (log.Inc inc) = u8 2 ++ u32 inc
spell_record (log.Vote t ops) = u8 3 ++ spell_txn t ++ spell_list spell_op ops
spell_record (log.Join t n) = u8 4 ++ spell_txn t ++ u32 n
spell_record (log.Attempt t n dir) = u8 5 ++ spell_txn t ++ u32 n ++ spell_dir dir
spell_record (log.Decision t dir) = u8 6 ++ spell_txn t ++ spell_dir dir

-- a list of records, one after the other
abbrev pub spelling : List Record → List ℕ
spelling records = flat_map spell_record records
