-- The fields of a trace's lines: how each is read.
use Rattle.std.specs.Prelude.{ℕ, ◌==◌, List, [], ◌∷◌, ◌++◌, codes, bytes_eq, Option, Some, None, option_map, option_and_then, if◌then◌else◌}
use Rattle.std.specs.declared.cmp.Ordering.{Ordering}
use Rattle.std.specs.Ordering.{ordering_then, nat_cmp}
use Rattle.std.specs.Map.{lookup}
use Rattle.std.specs.BTreeMap.{is_at, insert_entry}
use Rattle.e3_types.specs.declared.entries.Told.{Told}
use Rattle.e3_types.specs.declared.entries.Told.TheVariants as told
use Rattle.e3_types.specs.declared.messages.Packet.{Packet}
use Rattle.e3_types.specs.declared.transactions.Answer.{Answer}
use Rattle.e3_types.specs.declared.transactions.Answer.TheVariants.{Absent, Value, Written}
use Rattle.e3_types.specs.declared.transactions.Dir.{Dir}
use Rattle.e3_types.specs.declared.transactions.Dir.TheVariants.{Abort, Commit}
use Rattle.e3_types.specs.declared.transactions.Key.{Key}
use Rattle.e3_types.specs.declared.transactions.Op.{Op}
use Rattle.e3_types.specs.declared.transactions.Op.TheVariants.{Read, Write}
use Rattle.e3_types.specs.declared.transactions.State.{State}
use Rattle.e3_types.specs.declared.transactions.State.TheVariants.{Q, W, Pc, Pa, C, A}
use Rattle.e3_types.specs.declared.transactions.Txn.{Txn}
use Rattle.e3_types.specs.Sets.{is_set}
pub use Rattle.e3_report.specs.lines.Spelled.{is_digit, digits_from, name_of, value_of}
use Rattle.e3_trace.specs.Cuts.{cut, Form, made_of, pair_of, behind}
use Rattle.e3_report.specs.lines.Marks.{space, point, comma, bar, pieces}

-- a number from 0 to `most`, in digits without leading zeros
unfoldable pub number_of : ℕ → Form ℕ
number_of most [] = None
number_of most (b ∷ []) = digits_from most 0 (b ∷ [])
number_of most (b ∷ c ∷ text) = if b == 48 then None else digits_from most 0 (b ∷ c ∷ text)

-- a number of 32 bits
abbrev pub u32_of : Form ℕ
u32_of text = number_of 4294967295 text

-- a number of 64 bits
abbrev pub u64_of : Form ℕ
u64_of text = number_of 18446744073709551615 text

-- more members of a list, each spelled by a piece
abbrev pub list_from : {A : Type 0} → Form A → List A → List (List ℕ) → Option (List A)
list_from member list [] = Some list
list_from member list (piece ∷ more) = option_and_then (λ x. list_from member (list ++ x ∷ []) more) (member piece)

-- more numbers of a list
abbrev pub numbers_from : List ℕ → List (List ℕ) → Option (List ℕ)
numbers_from = list_from u32_of

-- one or more numbers, with commas between them
unfoldable pub numbers_of : Form (List ℕ)
numbers_of text = numbers_from [] (pieces comma text)

-- one or more sites, strictly ascending, with commas between them
unfoldable pub sites_of : Form (List ℕ)
sites_of text = option_and_then (λ sites. if is_set sites then Some sites else None) (numbers_of text)

-- more parts of the network
abbrev pub parts_from : List (List ℕ) → List (List ℕ) → Option (List (List ℕ))
parts_from = list_from sites_of

-- one or more parts of the network, with bars between them
unfoldable pub parts_of : Form (List (List ℕ))
parts_of text = parts_from [] (pieces bar text)

-- the key of a site and a name
abbrev pub key_from : ℕ × List ℕ → Key
key_from p = record { site = p.0; name = p.1 }

-- a key: a site, a point, and a name
unfoldable pub key_of : Form Key
key_of text = made_of key_from (pair_of point u32_of name_of) text

-- a direction
unfoldable pub dir_of : Form Dir
dir_of text = if bytes_eq text (codes "abort") then Some Abort else if bytes_eq text (codes "commit") then Some Commit else None

-- a state
unfoldable pub state_of : Form State
state_of text =
    if bytes_eq text (codes "q") then Some Q
    else if bytes_eq text (codes "w") then Some W
    else if bytes_eq text (codes "pc") then Some Pc
    else if bytes_eq text (codes "pa") then Some Pa
    else if bytes_eq text (codes "c") then Some C
    else if bytes_eq text (codes "a") then Some A
    else None

-- a write of the key and the value
abbrev pub write_from : Key × List ℕ → Op
write_from p = Write p.0 p.1

-- an operation of this verb
abbrev pub op_by : List ℕ → List ℕ → Option Op
op_by verb text =
    if bytes_eq verb (codes "read") then made_of Read key_of text
    else if bytes_eq verb (codes "write") then made_of write_from (pair_of space key_of value_of) text
    else None

-- an operation: `read KEY`, or `write KEY VALUE`
unfoldable pub op_of : Form Op
op_of text = option_and_then (λ p. op_by p.0 p.1) (cut space text)

-- an answer: `written`, `absent`, or `value VALUE`
unfoldable pub answer_of : Form Answer
answer_of text =
    if bytes_eq text (codes "written") then Some Written
    else if bytes_eq text (codes "absent") then Some Absent
    else made_of Value (behind (codes "value") value_of) text

-- the name of a transaction without its sites: its coordinator, the coordinator's incarnation, and its number there
abbrev pub TxnName : Type 0
TxnName = ℕ × (ℕ × ℕ)

-- a transaction's name: three numbers with points between them
unfoldable pub txn_name_of : Form TxnName
txn_name_of text = pair_of point u32_of (pair_of point u32_of u32_of) text

-- names in the order of their numbers
abbrev pub name_cmp : TxnName → TxnName → Ordering
name_cmp a b = ordering_then (nat_cmp a.0 b.0) (ordering_then (nat_cmp a.1.0 b.1.0) (nat_cmp a.1.1 b.1.1))

-- What earlier lines tell: the sites of each transaction that was told as begun, and each packet that was sent. Of two
-- with one name or one number there is the later.
pub record Known : Type 0 where
  pub begun : List (TxnName × List ℕ)
  pub sent : List (ℕ × Packet)

-- the transaction of a name and its sites
abbrev pub txn_from : TxnName → List ℕ → Txn
txn_from name sites = record { site = name.0; inc = name.1.0; seq = name.1.1; sites = sites }

-- the transaction of this name that an earlier line told as begun
unfoldable pub named : Known → TxnName → Option Txn
named known name = option_map (txn_from name) (lookup (is_at (name_cmp name)) known.begun)

-- the packet of this number that an earlier line sent
unfoldable pub packet_at : Known → ℕ → Option Packet
packet_at known number = lookup (is_at (nat_cmp number)) known.sent

-- a transaction that an earlier line told as begun
unfoldable pub txn_of : Known → Form Txn
txn_of known text = option_and_then (named known) (txn_name_of text)

-- a packet that an earlier line sent
unfoldable pub sent_of : Known → Form Packet
sent_of known text = option_and_then (packet_at known) (u64_of text)

-- what is known with a packet that is sent
abbrev pub known_sent : Known → Packet → Known
known_sent known p = record known { sent = insert_entry nat_cmp known.sent p.number p }

-- what is known with what is told: a transaction that began
unfoldable pub known_told : Known → Told → Known
known_told known (told.Began t) = record known { begun = insert_entry name_cmp known.begun (t.site, (t.inc, t.seq)) t.sites }
known_told known _ = known
