-- Which histories a trace tells: those of which each line can be read again behind the lines before it.
use Rattle.std.specs.Prelude.{◌≡◌, ◌<◌, ◌≤◌, ◌^◌, ◌==◌, ◌++◌, ℕ, Bool, true, false, not, List, [], ◌∷◌, length, Some, Ok, codes, bytes_eq}
use Rattle.std.specs.List.{flat_map, list_all, AllByRecursion as Each}
use Rattle.e3_types.specs.declared.entries.Act.{Act}
use Rattle.e3_types.specs.declared.entries.Act.TheVariants as act
use Rattle.e3_types.specs.declared.entries.Entry.{Entry}
use Rattle.e3_types.specs.declared.entries.Input.{Input}
use Rattle.e3_types.specs.declared.entries.Input.TheVariants as input
use Rattle.e3_types.specs.declared.entries.Refusal.{Refusal}
use Rattle.e3_types.specs.declared.entries.Refusal.TheVariants as refusal
use Rattle.e3_types.specs.declared.entries.Told.{Told}
use Rattle.e3_types.specs.declared.entries.Told.TheVariants as told
use Rattle.e3_types.specs.declared.entries.Why.{Why}
use Rattle.e3_types.specs.declared.entries.Why.TheVariants.{Fault, Full}
use Rattle.e3_types.specs.declared.messages.Message.{Message}
use Rattle.e3_types.specs.declared.messages.Message.TheVariants as msg
use Rattle.e3_types.specs.declared.messages.Packet.{Packet}
use Rattle.e3_types.specs.declared.records.Record.{Record}
use Rattle.e3_types.specs.declared.records.Record.TheVariants as log
use Rattle.e3_types.specs.declared.transactions.Answer.{Answer}
use Rattle.e3_types.specs.declared.transactions.Answer.TheVariants.{Value}
use Rattle.e3_types.specs.declared.transactions.Key.{Key}
use Rattle.e3_types.specs.declared.transactions.NumOp.{NumOp}
use Rattle.e3_types.specs.declared.transactions.Op.{Op}
use Rattle.e3_types.specs.declared.transactions.Op.TheVariants.{Read, Write}
use Rattle.e3_types.specs.declared.transactions.Row.{Row}
use Rattle.e3_types.specs.declared.transactions.Txn.{Txn}
use Rattle.e3_types.specs.declared.verdicts.Verdict.{Verdict}
use Rattle.e3_types.specs.declared.verdicts.Verdict.TheVariants as verdict
use Rattle.e3_types.specs.Sets.{is_set}
use Rattle.e3_types.specs.Text.{IsName, IsValue}
use Rattle.e3_report.specs.lines.Texts.{line_end}
use Rattle.e3_report.specs.lines.Entries.{trace_of}
use Rattle.e3_report.specs.lines.Marks.{feed}
use Rattle.e3_trace.specs.Fields.{Known, named, packet_at, known_sent, known_told}
use Rattle.e3_trace.specs.Trace.{history_of}

-- a number of 32 bits
abbrev pub IsShort : ℕ → Type 0
IsShort n = n < 2 ^ 32

-- a number of 64 bits
abbrev pub IsLong : ℕ → Type 0
IsLong n = n < 2 ^ 64

-- no byte of the text is this one
abbrev pub lacks : ℕ → List ℕ → Bool
lacks mark text = list_all (λ b. not (b == mark)) text

-- a set of sites that is not empty
abbrev pub is_some_set : List ℕ → Bool
is_some_set [] = false
is_some_set (site ∷ sites) = is_set (site ∷ sites)

-- a value in one line
pub record IsLine (val : List ℕ) : Type 0 where
  pub short : IsValue val
  pub one : lacks feed val ≡ true

-- a key of a site and a name
pub record IsKey (key : Key) : Type 0 where
  pub site : IsShort key.site
  pub name : IsName key.name

-- the numbers of a transaction
pub record HasNumbers (t : Txn) : Type 0 where
  pub site : IsShort t.site
  pub inc : IsShort t.inc
  pub seq : IsShort t.seq

-- a transaction that earlier lines told as begun, for these sites
pub record IsBegun (known : Known) (t : Txn) : Type 0 where
  pub numbers : HasNumbers t
  pub begun : named known (t.site, (t.inc, t.seq)) ≡ Some t

-- an operation
abbrev pub IsOp : Op → Type 0
IsOp (Read key) = IsKey key
IsOp (Write key val) = IsKey key × IsLine val

-- an answer
abbrev pub IsAnswer : Answer → Type 0
IsAnswer (Value val) = IsLine val
IsAnswer _ = Unit {0}

-- an input: its transaction was begun, and its packet was sent as it is
abbrev pub InputTells : Known → Input → Type 0
InputTells known (input.Begin sites) = is_some_set sites ≡ true
InputTells known (input.Do t op) = IsBegun known t × IsOp op
InputTells known (input.Commit t) = IsBegun known t
InputTells known (input.Cancel t) = IsBegun known t
InputTells known (input.Expire t) = IsBegun known t
InputTells known (input.Elect t group) = IsBegun known t × (is_some_set group ≡ true)
InputTells known (input.Deliver packet) = IsLong packet.number × (packet_at known packet.number ≡ Some packet)

-- a message: its transactions were begun
abbrev pub MessageTells : Known → Message → Type 0
MessageTells known (msg.Do t n op) = IsBegun known t × (IsShort n × IsOp op)
MessageTells known (msg.Done t n inc answer) = IsBegun known t × (IsShort n × (IsShort inc × IsAnswer answer))
MessageTells known (msg.Died t n older) = IsBegun known t × (IsShort n × IsBegun known older)
MessageTells known (msg.Ask t call) = IsBegun known t × (IsShort call.inc × IsShort call.seq)
MessageTells known (msg.LastElected t call elected) = IsBegun known t × (IsShort call.inc × (IsShort call.seq × IsShort elected))
MessageTells known (msg.Elected t n) = IsBegun known t × IsShort n
MessageTells known (msg.Report t n state attempt) = IsBegun known t × (IsShort n × IsShort attempt)
MessageTells known (msg.VoteReq t inc count) = IsBegun known t × (IsShort inc × IsShort count)
MessageTells known (msg.Vote t agreed) = IsBegun known t
MessageTells known (msg.Pre t n dir) = IsBegun known t × IsShort n
MessageTells known (msg.Ack t n dir) = IsBegun known t × IsShort n
MessageTells known (msg.Decide t dir) = IsBegun known t

-- a packet of the site
pub record PacketTells (known : Known) (site : ℕ) (packet : Packet) : Type 0 where
  pub number : IsLong packet.number
  pub sender : packet.«from» ≡ site
  pub to : IsShort packet.to
  pub message : MessageTells known packet.msg

-- why a call is refused
abbrev pub RefusalTells : Known → Refusal → Type 0
RefusalTells known refusal.NoTxn = Unit {0}
RefusalTells known (refusal.Busy op) = IsShort op
RefusalTells known (refusal.Over dir) = Unit {0}
RefusalTells known (refusal.Died older) = IsBegun known older
RefusalTells known (refusal.Doomed site had now) = IsShort site × (IsShort had × IsShort now)
RefusalTells known (refusal.TooLate attempt) = IsShort attempt

-- a verdict
abbrev pub IsVerdict : Verdict → Type 0
IsVerdict (verdict.Block have total) = IsLong have × IsLong total
IsVerdict _ = Unit {0}

-- what is told: a begin of a transaction, or of one that was begun
abbrev pub EventTells : Known → Told → Type 0
EventTells known (told.Began t) = HasNumbers t × (is_some_set t.sites ≡ true)
EventTells known (told.Op t n answer) = IsBegun known t × (IsShort n × IsAnswer answer)
EventTells known (told.Ended t dir) = IsBegun known t
EventTells known (told.Died t older) = IsBegun known t × IsBegun known older
EventTells known (told.Doomed t site had now) = IsBegun known t × (IsShort site × (IsShort had × IsShort now))
EventTells known (told.Refused t why) = IsBegun known t × RefusalTells known why
EventTells known (told.Kept t state) = IsBegun known t
EventTells known (told.Verdict t n v) = IsBegun known t × (IsShort n × IsVerdict v)

-- a row
pub record IsRow (row : Row) : Type 0 where
  pub name : IsName row.name
  pub val : IsLine row.val

-- an operation of a record of the site
abbrev pub IsHere : ℕ → Op → Type 0
IsHere site (Read key) = (key.site ≡ site) × IsName key.name
IsHere site (Write key val) = (key.site ≡ site) × (IsName key.name × IsLine val)

-- an operation of a vote, on a record of the site
abbrev pub IsVoteOp : ℕ → NumOp → Type 0
IsVoteOp site o = IsShort o.n × IsHere site o.op

-- one or more numbers
abbrev pub AreNumbers : List ℕ → Type 0
AreNumbers [] = ⊥
AreNumbers (n ∷ more) = IsShort n × Each IsShort more

-- a record of the site's log: its transaction was begun
abbrev pub RecordTells : Known → ℕ → Record → Type 0
RecordTells known site (log.Birth format own weights rows) = (own ≡ site) × (IsShort format × (AreNumbers weights × Each IsRow rows))
RecordTells known site (log.Inc inc) = IsShort inc
RecordTells known site (log.Vote t ops) = IsBegun known t × (IsLong (length ops) × Each (IsVoteOp site) ops)
RecordTells known site (log.Join t n) = IsBegun known t × IsShort n
RecordTells known site (log.Attempt t n dir) = IsBegun known t × IsShort n
RecordTells known site (log.Decision t dir) = IsBegun known t

-- what is known behind packets, and behind what was told
abbrev pub known_outs : Known → List Packet → Known
known_outs known [] = known
known_outs known (p ∷ outs) = known_outs (known_sent known p) outs

-- what is known behind what was told
abbrev pub known_events : Known → List Told → Known
known_events known [] = known
known_events known (e ∷ events) = known_events (known_told known e) events

-- packets, each behind those before it
abbrev pub OutsTell : Known → ℕ → List Packet → Type 0
OutsTell known site [] = Unit {0}
OutsTell known site (p ∷ outs) = PacketTells known site p × OutsTell (known_sent known p) site outs

-- what was told, each behind what was told before
abbrev pub EventsTell : Known → List Told → Type 0
EventsTell known [] = Unit {0}
EventsTell known (e ∷ events) = EventTells known e × EventsTell (known_told known e) events

-- why a site fell
abbrev pub IsWhy : Why → Type 0
IsWhy Fault = Unit {0}
IsWhy (Full need room) = IsLong need × IsLong room

-- one or more parts of the network, each a set of sites that is not empty
abbrev pub AreParts : List (List ℕ) → Type 0
AreParts [] = ⊥
AreParts (part ∷ more) = (is_some_set part ≡ true) × Each (λ p. is_some_set p ≡ true) more

-- the act of an entry of the owner
abbrev pub ActTells : Known → ℕ → Act → Type 0
ActTells known owner (act.Step i records outs events) =
    InputTells known i × (Each (RecordTells known owner) records × (OutsTell known owner outs × EventsTell (known_outs known outs) events))
ActTells known owner (act.Fall inputs records why) =
    IsWhy why × (IsLong (length inputs) × (Each (InputTells known) inputs × Each (RecordTells known owner) records))
ActTells known owner (act.Rise kept inc) = IsShort inc
ActTells known owner (act.RiseFall kept inc why) = IsShort inc × IsWhy why
ActTells known owner act.Miss = Unit {0}
ActTells known owner act.Cut = Unit {0}
ActTells known owner (act.Drop packet) = IsLong packet
ActTells known owner (act.Parts parts) = AreParts parts
ActTells known owner (act.Line number) = IsShort number

-- what is known behind an act
abbrev pub known_act : Known → Act → Known
known_act known (act.Step i records outs events) = known_events (known_outs known outs) events
known_act known _ = known

-- each entry behind those before it
abbrev pub TellsAfter : Known → List Entry → Type 0
TellsAfter known [] = Unit {0}
TellsAfter known (e ∷ history) = (IsShort e.owner × ActTells known e.owner e.act) × TellsAfter (known_act known e.act) history

-- The history is one that a trace tells: each transaction that it names was told as begun before, for the same sites;
-- each packet that is delivered was sent before, as it is; sets of sites are not empty; and values have no line's end.
abbrev pub IsTellable : List Entry → Type 0
IsTellable history = TellsAfter (record { begun = []; sent = [] }) history

-- a line before the trace: it is not the mark
abbrev pub IsBefore : List ℕ → Type 0
IsBefore line = (lacks feed line ≡ true) × (bytes_eq line (codes "#trace") ≡ false)

-- the line with its end
abbrev pub ended_line : List ℕ → List ℕ
ended_line line = line ++ line_end

-- the text that is read: lines before the mark, the mark, the trace of the history, and its end
abbrev pub text_of : List (List ℕ) → List Entry → List ℕ
text_of before history = flat_map ended_line before ++ codes "#trace\n" ++ trace_of history ++ codes "end\n"

-- Where a history is tellable, and it and its text are not too long, its text spells it.
abbrev pub TracesReadBack : Type 0
TracesReadBack = (before : List (List ℕ)) (history : List Entry) → Each IsBefore before → IsTellable history →
    length (text_of before history) ≤ 268435456 → length history ≤ 2000000 →
    history_of (text_of before history) ≡ Ok history
