-- What is typed, and mentions only what earlier lines told, is told by a line.
use Rattle.std.proofs.Common.{◌≡◌, ◌∷◌, [], ℕ, true, List, Some}
use Rattle.std.specs.List.{AllByRecursion as Each}
use Rattle.e3_types.specs.declared.entries.Input.{Input}
use Rattle.e3_types.specs.declared.entries.Input.TheVariants as input
use Rattle.e3_types.specs.declared.entries.Refusal.{Refusal}
use Rattle.e3_types.specs.declared.entries.Refusal.TheVariants as refusal
use Rattle.e3_types.specs.declared.entries.Told.{Told}
use Rattle.e3_types.specs.declared.entries.Told.TheVariants as told
use Rattle.e3_types.specs.declared.messages.Message.{Message}
use Rattle.e3_types.specs.declared.messages.Message.TheVariants as msg
use Rattle.e3_types.specs.declared.messages.Packet.{Packet}
use Rattle.e3_types.specs.declared.records.Record.{Record}
use Rattle.e3_types.specs.declared.records.Record.TheVariants as log
use Rattle.e3_types.specs.declared.transactions.Answer.{Answer}
use Rattle.e3_types.specs.declared.transactions.Answer.TheVariants.{Absent, Value, Written}
use Rattle.e3_types.specs.declared.transactions.NumOp.{NumOp}
use Rattle.e3_types.specs.declared.transactions.Op.{Op}
use Rattle.e3_types.specs.declared.transactions.Op.TheVariants.{Read, Write}
use Rattle.e3_types.specs.declared.transactions.Txn.{Txn}
use Rattle.e3_types.specs.Sets.{is_set, has_site}
use Rattle.e3_world.specs.Logs.{key_of}
use Rattle.e3_laws.specs.steps.Bounds.{SuitsLog, IsHere as OpIsHere}
use Rattle.e3_laws.proofs.steps.Operations.Tracing.{OfTxn}
use Rattle.e3_laws.proofs.steps.Each.{each-weaker}
use Rattle.e3_laws.specs.steps.Mentions.{Mention, OfTxn as Transaction, OfVal, of_op, of_answer, of_message, of_input, of_record, of_refusal, of_event}
use Rattle.e3_laws.proofs.steps.Begun.Lists.{each-unflat}
use Rattle.e3_report.specs.lines.Marks.{feed}
use Rattle.e3_trace.specs.Fields.{Known, named, packet_at, known_sent}
use Rattle.e3_trace.specs.Tellable.{IsShort, lacks, is_some_set, IsBegun, IsOp, IsAnswer, InputTells, MessageTells, RefusalTells, EventTells, IsVoteOp, RecordTells, OutsTell}
use Rattle.e3_trace.specs.verdicts.Typed.{IsTyped, OpTyped, NumOpTyped, AnswerTyped, MessageTyped, PacketTyped, InputTyped, RecordTyped, RefusalTyped, EventTyped}

-- earlier lines told it: a transaction as begun, for these sites; a value stands in one line
abbrev pub Found : Known → Mention → Type 0
Found known (Transaction t) = named known (t.site, (t.inc, t.seq)) ≡ Some t
Found known (OfVal val) = lacks feed val ≡ true

begun_from : (known : Known) (t : Txn) → IsTyped t → Found known (Transaction t) → IsBegun known t
begun_from known t typed found = record { numbers = typed.numbers; begun = found }

op_tells : (known : Known) (op : Op) → OpTyped op → Each (Found known) (of_op op) → IsOp op
op_tells known (Read key) typed found = typed
op_tells known (Write key val) typed found = (typed.0, record { short = typed.1; one = found.0 })

answer_tells : (known : Known) (answer : Answer) → AnswerTyped answer → Each (Found known) (of_answer answer) → IsAnswer answer
answer_tells known Absent typed found = tt
answer_tells known (Value val) typed found = record { short = typed; one = found.0 }
answer_tells known Written typed found = tt

pub message_tells : (known : Known) (m : Message) → MessageTyped m → Each (Found known) (of_message m) → MessageTells known m
message_tells known (msg.Do t n op) typed found = (begun_from known t typed.0 found.0, (typed.1.0, op_tells known op typed.1.1 found.1))
message_tells known (msg.Done t n inc answer) typed found =
    (begun_from known t typed.0 found.0, (typed.1.0, (typed.1.1.0, answer_tells known answer typed.1.1.1 found.1)))
message_tells known (msg.Died t n older) typed found = (begun_from known t typed.0 found.0, (typed.1.0, begun_from known older typed.1.1 found.1.0))
message_tells known (msg.Ask t call) typed found = (begun_from known t typed.0 found.0, typed.1)
message_tells known (msg.LastElected t call elected) typed found = (begun_from known t typed.0 found.0, typed.1)
message_tells known (msg.Elected t n) typed found = (begun_from known t typed.0 found.0, typed.1)
message_tells known (msg.Report t n state attempt) typed found = (begun_from known t typed.0 found.0, typed.1)
message_tells known (msg.VoteReq t inc count) typed found = (begun_from known t typed.0 found.0, typed.1)
message_tells known (msg.Vote t agreed) typed found = begun_from known t typed found.0
message_tells known (msg.Pre t n dir) typed found = (begun_from known t typed.0 found.0, typed.1)
message_tells known (msg.Ack t n dir) typed found = (begun_from known t typed.0 found.0, typed.1)
message_tells known (msg.Decide t dir) typed found = begun_from known t typed found.0

-- a set that has a site is not empty
pub some_set : (sites : List ℕ) (site : ℕ) → is_set sites ≡ true → has_site sites site ≡ true → is_some_set sites ≡ true
some_set [] site set has = absurd cc
some_set (s ∷ sites) site set has = set

-- what an input needs beside: a set that has a site, and a packet that was sent
abbrev pub InputIs : Known → ℕ → Input → Type 0
InputIs known site (input.Begin sites) = has_site sites site ≡ true
InputIs known site (input.Elect t group) = has_site group site ≡ true
InputIs known site (input.Deliver packet) = packet_at known packet.number ≡ Some packet
InputIs known site i = Unit {0}

pub input_tells : (known : Known) (site : ℕ) (i : Input) → InputTyped i → Each (Found known) (of_input i) → InputIs known site i → InputTells known i
input_tells known site (input.Begin sites) typed found is = some_set sites site typed is
input_tells known site (input.Do t op) typed found is = (begun_from known t typed.0 found.0, op_tells known op typed.1 found.1)
input_tells known site (input.Commit t) typed found is = begun_from known t typed found.0
input_tells known site (input.Cancel t) typed found is = begun_from known t typed found.0
input_tells known site (input.Expire t) typed found is = begun_from known t typed found.0
input_tells known site (input.Elect t group) typed found is = (begun_from known t typed.0 found.0, some_set group site typed.1 is)
input_tells known site (input.Deliver packet) typed found is = (typed.number, is)

refusal_tells : (known : Known) (why : Refusal) → RefusalTyped why → Each (Found known) (of_refusal why) → RefusalTells known why
refusal_tells known refusal.NoTxn typed found = tt
refusal_tells known (refusal.Busy op) typed found = typed
refusal_tells known (refusal.Over dir) typed found = tt
refusal_tells known (refusal.Died older) typed found = begun_from known older typed found.0
refusal_tells known (refusal.Doomed site had now) typed found = typed
refusal_tells known (refusal.TooLate attempt) typed found = typed

-- a begin is for sites
abbrev pub HasSites : Told → Type 0
HasSites (told.Began t) = has_site t.sites t.site ≡ true
HasSites e = Unit {0}

pub event_tells : (known : Known) (e : Told) → EventTyped e → Each (Found known) (of_event e) → HasSites e → EventTells known e
event_tells known (told.Began t) typed found has = (typed.numbers, some_set t.sites t.site typed.sites has)
event_tells known (told.Op t n answer) typed found has = (begun_from known t typed.0 found.0, (typed.1.0, answer_tells known answer typed.1.1 found.1))
event_tells known (told.Ended t dir) typed found has = begun_from known t typed found.0
event_tells known (told.Died t older) typed found has = (begun_from known t typed.0 found.0, begun_from known older typed.1 found.1.0)
event_tells known (told.Doomed t site had now) typed found has = (begun_from known t typed.0 found.0, typed.1)
event_tells known (told.Refused t why) typed found has = (begun_from known t typed.0 found.0, refusal_tells known why typed.1 found.1)
event_tells known (told.Kept t state) typed found has = begun_from known t typed found.0
event_tells known (told.Verdict t n v) typed found has = (begun_from known t typed.0 found.0, typed.1)

vote_op : (known : Known) (site : ℕ) (n : ℕ) (op : Op) → IsShort n → OpTyped op → (key_of op).site ≡ site → Each (Found known) (of_op op) →
    IsVoteOp site (record { n = n; op = op })
vote_op known site n (Read key) short typed here found = (short, (here, typed.name))
vote_op known site n (Write key val) short typed here found = (short, (here, (typed.0.name, record { short = typed.1; one = found.0 })))

vote_ops : (known : Known) (site : ℕ) (ops : List NumOp) → Each NumOpTyped ops → Each (OpIsHere site) ops → Each (λ o. Each (Found known) (of_op o.op)) ops →
    Each (IsVoteOp site) ops
vote_ops known site [] typed here found = tt
vote_ops known site (o ∷ ops) typed here found =
    (vote_op known site o.n o.op typed.0.0 typed.0.1 here.0 found.0, vote_ops known site ops typed.1 here.1 found.1)

pub record_tells : (known : Known) (weights : List ℕ) (site : ℕ) (r : Record) → RecordTyped r → OfTxn r → SuitsLog weights site r → Each (Found known) (of_record r) →
    RecordTells known site r
record_tells known weights site (log.Birth format own births rows) typed of suits found = absurd of
record_tells known weights site (log.Inc inc) typed of suits found = absurd of
record_tells known weights site (log.Vote t ops) typed of suits found =
    (begun_from known t typed.0 found.0, (typed.1.0, vote_ops known site ops typed.1.1 suits.1 (each-unflat (Found known) (λ o. of_op o.op) ops found.1)))
record_tells known weights site (log.Join t n) typed of suits found = (begun_from known t typed.0 found.0, typed.1)
record_tells known weights site (log.Attempt t n dir) typed of suits found = (begun_from known t typed.0 found.0, typed.1)
record_tells known weights site (log.Decision t dir) typed of suits found = begun_from known t typed found.0

pub records_tell : (known : Known) (weights : List ℕ) (site : ℕ) (rs : List Record) → Each RecordTyped rs → Each OfTxn rs → Each (SuitsLog weights site) rs →
    Each (λ r. Each (Found known) (of_record r)) rs → Each (RecordTells known site) rs
records_tell known weights site [] typed of suits found = tt
records_tell known weights site (r ∷ rs) typed of suits found =
    (record_tells known weights site r typed.0 of.0 suits.0 found.0, records_tell known weights site rs typed.1 of.1 suits.1 found.1)

-- a packet that is sent changes nothing of what was told as begun
found_sent : (known : Known) (p : Packet) (x : Mention) → Found known x → Found (known_sent known p) x
unfolding named
found_sent known p (Transaction t) found = found
found_sent known p (OfVal val) found = found

pub outs_tell : (known : Known) (site : ℕ) (outs : List Packet) → Each PacketTyped outs → Each (λ p. p.«from» ≡ site) outs → Each (λ p. Each (Found known) (of_message p.msg)) outs →
    OutsTell known site outs
outs_tell known site [] typed own found = tt
outs_tell known site (p ∷ outs) typed own found = (
  record { number = typed.0.number; sender = own.0; to = typed.0.to; message = message_tells known p.msg typed.0.message found.0 },
  outs_tell (known_sent known p) site outs typed.1 own.1
      (each-weaker (λ q. Each (Found known) (of_message q.msg)) (λ q. Each (Found (known_sent known p)) (of_message q.msg))
      (λ q all. each-weaker (Found known) (Found (known_sent known p)) (found_sent known p) (of_message q.msg) all) outs found.1),
)
