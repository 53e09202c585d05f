-- The entry whose lines are being read, and the lines behind its first.
use Rattle.std.specs.Prelude.{ℕ, ◌-◌, ◌==◌, Bool, true, false, ◌&&◌, nat_lt, List, [], ◌∷◌, ◌++◌, length, codes, bytes_eq, Option, Some, None, option_map, option_and_then, if◌then◌else◌}
use Rattle.e3_types.specs.declared.entries.Act.{Act}
use Rattle.e3_types.specs.declared.entries.Act.TheVariants as act
use Rattle.e3_types.specs.declared.entries.Entry.{Entry}
use Rattle.e3_types.specs.declared.entries.Input.{Input}
use Rattle.e3_types.specs.declared.entries.Told.{Told}
use Rattle.e3_types.specs.declared.messages.Message.{Message}
use Rattle.e3_types.specs.declared.messages.Packet.{Packet}
use Rattle.e3_types.specs.declared.records.Record.{Record}
use Rattle.e3_types.specs.declared.records.Record.TheVariants as log
use Rattle.e3_types.specs.declared.transactions.NumOp.{NumOp}
use Rattle.e3_types.specs.declared.transactions.Op.TheVariants.{Read, Write}
use Rattle.e3_types.specs.declared.transactions.Row.{Row}
use Rattle.e3_trace.specs.declared.drafts.Draft.{Draft}
use Rattle.e3_trace.specs.declared.drafts.Growing.{Growing}
use Rattle.e3_trace.specs.declared.drafts.Growing.TheVariants as growing
use Rattle.e3_trace.specs.declared.drafts.Head.{Head}
use Rattle.e3_trace.specs.declared.drafts.Head.TheVariants as head
use Rattle.e3_trace.specs.Cuts.{cut, Form, made_of, pair_of}
use Rattle.e3_report.specs.lines.Marks.{space}
use Rattle.e3_trace.specs.Events.{told_of}
use Rattle.e3_trace.specs.Fields.{Known, known_sent, known_told, u32_of, u64_of, name_of, value_of, numbers_of, dir_of, txn_of}
use Rattle.e3_trace.specs.Inputs.{input_of}
use Rattle.e3_trace.specs.Messages.{message_of}

-- the record whose lines are being read, where there is one
abbrev pub grown : ℕ → Growing → List Record
grown site growing.Nothing = []
grown site (growing.Birth format weights rows) = log.Birth format site weights rows ∷ []
grown site (growing.Vote t ops due) = log.Vote t ops ∷ []

-- the records of an entry
abbrev pub records_of : Draft → List Record
records_of d = d.records ++ grown d.owner d.growing

-- how many operations of a vote are due
abbrev pub ops_due : Growing → ℕ
ops_due (growing.Vote t ops due) = due
ops_due _ = 0

-- no line is due: neither an input of a fall nor an operation of a vote
abbrev pub is_complete : Draft → Bool
is_complete d = d.due == 0 && ops_due d.growing == 0

-- the act of these parts
abbrev pub act_by : Head → List Input → List Record → List Packet → List Told → Act
act_by (head.Step i) inputs records outs events = act.Step i records outs events
act_by (head.Fall why) inputs records outs events = act.Fall inputs records why
act_by (head.Whole a) inputs records outs events = a

-- the act of an entry
abbrev pub act_of : Draft → Act
act_of d = act_by d.head d.inputs (records_of d) d.outs d.told

-- the entry, where no line of it is due
unfoldable pub entry_from : Draft → Option Entry
entry_from d = if is_complete d then Some (record { owner = d.owner; act = act_of d }) else None

-- an input of a fall: `i INPUT`
unfoldable pub with_input : Known → Draft → Form Draft
with_input known d text =
    if nat_lt 0 d.due then made_of (λ i. record d { inputs = d.inputs ++ i ∷ []; due = d.due - 1 }) (input_of known) text else None

-- the entry is a step or a fall
abbrev pub has_records : Head → Bool
has_records (head.Whole a) = false
has_records _ = true

-- the entry is a step
abbrev pub is_step : Head → Bool
is_step (head.Step i) = true
is_step _ = false

-- records may come: behind all inputs of a fall, before the packets of a step and what it told
abbrev pub takes_records : Draft → Bool
takes_records d = has_records d.head && d.due == 0 && length d.outs == 0 && length d.told == 0

-- an entry of the owner with nothing behind its first line yet, and so many inputs due
abbrev pub draft_of : ℕ → Head → ℕ → Draft
draft_of owner h due =
    record { owner = owner; head = h; due = due; inputs = []; records = []; growing = growing.Nothing; outs = []; told = [] }

-- the entry with a record that grows behind the others
abbrev pub growing_with : Draft → Growing → Draft
growing_with d g = record d { records = records_of d; growing = g }

-- the entry with a record of one line behind the others
abbrev pub with_record : Draft → Record → Draft
with_record d r = record d { records = records_of d ++ r ∷ []; growing = growing.Nothing }

-- a row of a birth
abbrev pub row_from : List ℕ × List ℕ → Row
row_from p = record { name = p.0; val = p.1 }

-- a row: `NAME VALUE`
unfoldable pub row_of : Form Row
row_of text = made_of row_from (pair_of space name_of value_of) text

-- a row of the birth that is being read
unfoldable pub with_row : Draft → Form Draft
with_row d text = by d.growing
  where
    by : Growing → Option Draft
    by (growing.Birth format weights rows) = option_map (λ row. record d { growing = growing.Birth format weights (rows ++ row ∷ []) }) (row_of text)
    by _ = None

-- a read of the site's own record, by its number and its name
abbrev pub read_from : ℕ → ℕ × List ℕ → NumOp
read_from site p = record { n = p.0; op = Read (record { site = site; name = p.1 }) }

-- a write of it
abbrev pub write_from : ℕ → ℕ × (List ℕ × List ℕ) → NumOp
write_from site p = record { n = p.0; op = Write (record { site = site; name = p.1.0 }) p.1.1 }

-- an operation of a vote, of this verb: `read N NAME`, `write N NAME VALUE`; the site is the log's own
unfoldable pub vote_op_by : ℕ → List ℕ → Form NumOp
vote_op_by site verb text =
    if bytes_eq verb (codes "read") then made_of (read_from site) (pair_of space u32_of name_of) text
    else if bytes_eq verb (codes "write") then made_of (write_from site) (pair_of space u32_of (pair_of space name_of value_of)) text
    else None

-- an operation of a vote
unfoldable pub vote_op_of : ℕ → Form NumOp
vote_op_of site text = option_and_then (λ p. vote_op_by site p.0 p.1) (cut space text)

-- the record that grows: a birth, `birth FORMAT WEIGHTS`
unfoldable pub birth_of : Form Growing
birth_of text = made_of (λ p. growing.Birth p.0 p.1 []) (pair_of space u32_of numbers_of) text

-- a vote: `vote T COUNT`
unfoldable pub votes_of : Known → Form Growing
votes_of known text = made_of (λ p. growing.Vote p.0 [] p.1) (pair_of space (txn_of known) u64_of) text

-- a record of one line, of this verb
unfoldable pub record_by : Known → List ℕ → Form Record
record_by known verb text =
    if bytes_eq verb (codes "inc") then made_of log.Inc u32_of text
    else if bytes_eq verb (codes "join") then made_of (λ p. log.Join p.0 p.1) (pair_of space (txn_of known) u32_of) text
    else if bytes_eq verb (codes "attempt") then made_of (λ p. log.Attempt p.0 p.1.0 p.1.1) (pair_of space (txn_of known) (pair_of space u32_of dir_of)) text
    else if bytes_eq verb (codes "decision") then made_of (λ p. log.Decision p.0 p.1) (pair_of space (txn_of known) dir_of) text
    else None

-- the first line of a record, or a row, of this verb
unfoldable pub first_by : Known → Draft → List ℕ → Form Draft
first_by known d verb text =
    if bytes_eq verb (codes "row") then with_row d text
    else if bytes_eq verb (codes "birth") then made_of (growing_with d) birth_of text
    else if bytes_eq verb (codes "vote") then made_of (growing_with d) (votes_of known) text
    else made_of (with_record d) (record_by known verb) text

-- an operation of the vote that is being read
unfoldable pub with_op : Draft → Form Draft
with_op d text = by d.growing
  where
    by : Growing → Option Draft
    by (growing.Vote t ops due) = option_map (λ o. record d { growing = growing.Vote t (ops ++ o ∷ []) (due - 1) }) (vote_op_of d.owner text)
    by _ = None

-- the first line of a record, or a row
unfoldable pub first_of : Known → Draft → Form Draft
first_of known d text = option_and_then (λ p. first_by known d p.0 p.1) (cut space text)

-- a line of a record: `r LINE`
unfoldable pub with_record_line : Known → Draft → Form Draft
with_record_line known d text =
    if takes_records d then (if nat_lt 0 (ops_due d.growing) then with_op d text else first_of known d text) else None

-- a packet of the site, to a site
abbrev pub packet_from : ℕ → ℕ × (ℕ × Message) → Packet
packet_from site p = record { number = p.0; «from» = site; to = p.1.0; msg = p.1.1 }

-- a packet: `NUMBER TO MESSAGE`
unfoldable pub packet_of : Known → ℕ → Form Packet
packet_of known site text = made_of (packet_from site) (pair_of space u64_of (pair_of space u32_of (message_of known))) text

-- packets may come: behind the records of a step, before what it told
abbrev pub takes_packets : Draft → Bool
takes_packets d = is_step d.head && is_complete d && length d.told == 0

-- the entry with a packet that it sent
abbrev pub with_packet : Draft → Packet → Draft
with_packet d p = record d { outs = d.outs ++ p ∷ [] }

-- the entry with what it told
abbrev pub with_told : Draft → Told → Draft
with_told d event = record d { told = d.told ++ event ∷ [] }

-- what a step told may come: behind its records and packets
abbrev pub takes_told : Draft → Bool
takes_told d = is_step d.head && is_complete d

-- a packet that a step sent, `o NUMBER TO MESSAGE`: it is known from here on
unfoldable pub packet_line : Known → Draft → Form (Known × Draft)
packet_line known d text =
    if takes_packets d then made_of (λ p. (known_sent known p, with_packet d p)) (packet_of known d.owner) text else None

-- what a step told, `t ` and what is told: a transaction that began is known from here on
unfoldable pub told_line : Known → Draft → Form (Known × Draft)
told_line known d text =
    if takes_told d then made_of (λ event. (known_told known event, with_told d event)) (told_of known) text else None

-- a line behind the first of an entry, by the word that marks it
unfoldable pub line_behind : Known → Draft → List ℕ → Form (Known × Draft)
line_behind known d word text =
    if bytes_eq word (codes "i") then made_of (λ e. (known, e)) (with_input known d) text
    else if bytes_eq word (codes "r") then made_of (λ e. (known, e)) (with_record_line known d) text
    else if bytes_eq word (codes "o") then packet_line known d text
    else told_line known d text
