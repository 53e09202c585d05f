-- Entries whose numbers, names, values and sets are those of their types, as the entries of every history are.
use Rattle.std.specs.Prelude.{◌≡◌, true, List, length}
use Rattle.std.specs.List.{AllByRecursion as Each}
use Rattle.e3_types.specs.declared.entries.Act.{Act}
use Rattle.e3_types.specs.declared.entries.Act.TheVariants as act
use Rattle.e3_types.specs.declared.entries.Entry.{Entry}
use Rattle.e3_types.specs.declared.entries.Input.{Input}
use Rattle.e3_types.specs.declared.entries.Input.TheVariants as input
use Rattle.e3_types.specs.declared.entries.Refusal.{Refusal}
use Rattle.e3_types.specs.declared.entries.Refusal.TheVariants as refusal
use Rattle.e3_types.specs.declared.entries.Told.{Told}
use Rattle.e3_types.specs.declared.entries.Told.TheVariants as told
use Rattle.e3_types.specs.declared.messages.Message.{Message}
use Rattle.e3_types.specs.declared.messages.Message.TheVariants as msg
use Rattle.e3_types.specs.declared.messages.Packet.{Packet}
use Rattle.e3_types.specs.declared.records.Record.{Record}
use Rattle.e3_types.specs.declared.records.Record.TheVariants as log
use Rattle.e3_types.specs.declared.transactions.Answer.{Answer}
use Rattle.e3_types.specs.declared.transactions.Answer.TheVariants.{Value}
use Rattle.e3_types.specs.declared.transactions.NumOp.{NumOp}
use Rattle.e3_types.specs.declared.transactions.Op.{Op}
use Rattle.e3_types.specs.declared.transactions.Op.TheVariants.{Read, Write}
use Rattle.e3_types.specs.declared.transactions.Row.{Row}
use Rattle.e3_types.specs.declared.transactions.Txn.{Txn}
use Rattle.e3_types.specs.Sets.{is_set}
use Rattle.e3_types.specs.Text.{IsName, IsValue}
use Rattle.e3_trace.specs.Tellable.{IsShort, IsLong, IsKey, HasNumbers, IsVerdict, IsWhy}

-- a transaction
pub record IsTyped (t : Txn) : Type 0 where
  pub numbers : HasNumbers t
  pub sites : is_set t.sites ≡ true

-- an operation
abbrev pub OpTyped : Op → Type 0
OpTyped (Read key) = IsKey key
OpTyped (Write key val) = IsKey key × IsValue val

-- an operation with its number
abbrev pub NumOpTyped : NumOp → Type 0
NumOpTyped o = IsShort o.n × OpTyped o.op

-- an answer
abbrev pub AnswerTyped : Answer → Type 0
AnswerTyped (Value val) = IsValue val
AnswerTyped _ = Unit {0}

-- a message
abbrev pub MessageTyped : Message → Type 0
MessageTyped (msg.Do t n op) = IsTyped t × (IsShort n × OpTyped op)
MessageTyped (msg.Done t n inc answer) = IsTyped t × (IsShort n × (IsShort inc × AnswerTyped answer))
MessageTyped (msg.Died t n older) = IsTyped t × (IsShort n × IsTyped older)
MessageTyped (msg.Ask t call) = IsTyped t × (IsShort call.inc × IsShort call.seq)
MessageTyped (msg.LastElected t call elected) = IsTyped t × (IsShort call.inc × (IsShort call.seq × IsShort elected))
MessageTyped (msg.Elected t n) = IsTyped t × IsShort n
MessageTyped (msg.Report t n state attempt) = IsTyped t × (IsShort n × IsShort attempt)
MessageTyped (msg.VoteReq t inc count) = IsTyped t × (IsShort inc × IsShort count)
MessageTyped (msg.Vote t agreed) = IsTyped t
MessageTyped (msg.Pre t n dir) = IsTyped t × IsShort n
MessageTyped (msg.Ack t n dir) = IsTyped t × IsShort n
MessageTyped (msg.Decide t dir) = IsTyped t

-- a packet
pub record PacketTyped (p : Packet) : Type 0 where
  pub number : IsLong p.number
  pub sender : IsShort p.«from»
  pub to : IsShort p.to
  pub message : MessageTyped p.msg

-- an input
abbrev pub InputTyped : Input → Type 0
InputTyped (input.Begin sites) = is_set sites ≡ true
InputTyped (input.Do t op) = IsTyped t × OpTyped op
InputTyped (input.Commit t) = IsTyped t
InputTyped (input.Cancel t) = IsTyped t
InputTyped (input.Expire t) = IsTyped t
InputTyped (input.Elect t group) = IsTyped t × (is_set group ≡ true)
InputTyped (input.Deliver packet) = PacketTyped packet

-- a row
pub record RowTyped (row : Row) : Type 0 where
  pub name : IsName row.name
  pub val : IsValue row.val

-- a record
abbrev pub RecordTyped : Record → Type 0
RecordTyped (log.Birth format own weights rows) = IsShort format × (IsShort own × (Each IsShort weights × Each RowTyped rows))
RecordTyped (log.Inc inc) = IsShort inc
RecordTyped (log.Vote t ops) = IsTyped t × (IsLong (length ops) × Each NumOpTyped ops)
RecordTyped (log.Join t n) = IsTyped t × IsShort n
RecordTyped (log.Attempt t n dir) = IsTyped t × IsShort n
RecordTyped (log.Decision t dir) = IsTyped t

-- why a call is refused
abbrev pub RefusalTyped : Refusal → Type 0
RefusalTyped refusal.NoTxn = Unit {0}
RefusalTyped (refusal.Busy op) = IsShort op
RefusalTyped (refusal.Over dir) = Unit {0}
RefusalTyped (refusal.Died older) = IsTyped older
RefusalTyped (refusal.Doomed site had now) = IsShort site × (IsShort had × IsShort now)
RefusalTyped (refusal.TooLate attempt) = IsShort attempt

-- an event
abbrev pub EventTyped : Told → Type 0
EventTyped (told.Began t) = IsTyped t
EventTyped (told.Op t n answer) = IsTyped t × (IsShort n × AnswerTyped answer)
EventTyped (told.Ended t dir) = IsTyped t
EventTyped (told.Died t older) = IsTyped t × IsTyped older
EventTyped (told.Doomed t site had now) = IsTyped t × (IsShort site × (IsShort had × IsShort now))
EventTyped (told.Refused t why) = IsTyped t × RefusalTyped why
EventTyped (told.Kept t state) = IsTyped t
EventTyped (told.Verdict t n v) = IsTyped t × (IsShort n × IsVerdict v)

-- an act
abbrev pub ActTyped : Act → Type 0
ActTyped (act.Step i records outs events) = InputTyped i × (Each RecordTyped records × (Each PacketTyped outs × Each EventTyped events))
ActTyped (act.Fall inputs records why) = IsLong (length inputs) × (Each InputTyped inputs × (Each RecordTyped records × IsWhy why))
ActTyped (act.Rise kept inc) = IsShort inc
ActTyped (act.RiseFall kept inc why) = IsShort inc × IsWhy why
ActTyped act.Miss = Unit {0}
ActTyped act.Cut = Unit {0}
ActTyped (act.Drop packet) = IsLong packet
ActTyped (act.Parts parts) = Each (λ part. is_set part ≡ true) parts
ActTyped (act.Line number) = IsShort number

-- an entry
pub record EntryTyped (e : Entry) : Type 0 where
  pub owner : IsShort e.owner
  pub act : ActTyped e.act

-- the entries of a history
abbrev pub AreTyped : List Entry → Type 0
AreTyped history = Each EntryTyped history
