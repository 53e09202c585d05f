-- Elections as several histories have them: the elector asks each other site of its group, hears all of them, names a number,
-- and goes by what all report. EveryPacketLost and SplitInHalves have one packet by packet.
use Rattle.std.specs.Prelude.{◌++◌, ◌∷◌, [], ◌+◌, ◌*◌, ℕ, zero, suc, List, length, map, take, drop}
use Rattle.e3_types.specs.declared.transactions.Call.{Call}
use Rattle.e3_types.specs.declared.transactions.Dir.{Dir}
use Rattle.e3_types.specs.declared.entries.Entry.{Entry}
use Rattle.e3_types.specs.declared.messages.Message.{Message}
use Rattle.e3_types.specs.declared.messages.Packet.{Packet}
use Rattle.e3_types.specs.declared.records.Record.{Record}
use Rattle.e3_types.specs.declared.transactions.State.{State}
use Rattle.e3_types.specs.declared.entries.Told.{Told}
use Rattle.e3_types.specs.declared.transactions.Txn.{Txn}
use Rattle.e3_types.specs.declared.verdicts.Verdict.{Verdict}
use Rattle.e3_types.specs.declared.entries.Input.TheVariants as input
use Rattle.e3_types.specs.declared.messages.Message.TheVariants as msg
use Rattle.e3_types.specs.declared.records.Record.TheVariants as log
use Rattle.e3_types.specs.declared.entries.Told.TheVariants as told
use Rattle.e3_worked.specs.Entries.{packet, takes, gets}

-- what a site reports: its state, and the number of its last attempt
pub record Reported : Type 0 where
  pub state : State
  pub attempt : ℕ

-- this state and attempt
abbrev pub reported : State → ℕ → Reported
reported state attempt = record { state = state; attempt = attempt }

-- an election by the least site of its group
pub record Election : Type 0 where
  pub txn : Txn
  pub elector : ℕ
  -- the other sites of the group
  pub others : List ℕ
  pub call : Call
  -- the number of the first packet
  pub first : ℕ
  -- the number that each of the others joined last
  pub joined : List ℕ
  -- the number that is elected
  pub number : ℕ
  -- what each of the others reports
  pub states : List Reported

-- one packet to each of these sites, all with one message, numbered from here
abbrev pub to_each : ℕ → ℕ → List ℕ → Message → List Packet
to_each number sender [] message = []
to_each number sender (site ∷ rest) message = packet number sender site message ∷ to_each (suc number) sender rest message

-- one packet from each of these sites, each with its message, numbered from here
abbrev pub from_each : ℕ → List ℕ → ℕ → List Message → List Packet
from_each number (site ∷ rest) receiver (message ∷ more) = packet number site receiver message ∷ from_each (suc number) rest receiver more
from_each number sites receiver messages = []

-- each of these sites gets its packet and writes these records
abbrev pub each_gets : List Packet → List Record → List Entry
each_gets packets records = map (λ p. gets p.to p records [] []) packets

-- each of these sites gets its packet, writes these records, and answers with the packet that stands at the same place
abbrev pub each_answers : List Packet → List Record → List Packet → List Entry
each_answers (p ∷ rest) records (answer ∷ more) = gets p.to p records (answer ∷ []) [] ∷ each_answers rest records more
each_answers packets records back = []

-- a site gets these packets, and nothing comes of them but of the one that makes up this count
abbrev pub at_count : ℕ → List Packet → (Packet → Entry) → List Entry
at_count zero packets entry = each_gets packets []
at_count (suc before) packets entry =
    each_gets (take before packets) [] ++
    map entry (take 1 (drop before packets)) ++
    each_gets (drop (suc before) packets) []

-- and nothing but of the last
abbrev pub at_the_last : List Packet → (Packet → Entry) → List Entry
at_the_last packets = at_count (length packets) packets

-- Packets are numbered kind by kind, with one to or from each of the others in turn: the first number behind so many kinds.
abbrev pub behind_kinds : ℕ → Election → ℕ
behind_kinds kinds e = e.first + kinds * length e.others

-- the elector asks
abbrev pub asks : Election → List Packet
asks e = to_each e.first e.elector e.others (msg.Ask e.txn e.call)

-- the others answer
abbrev pub answers : Election → List Packet
answers e = from_each (behind_kinds 1 e) e.others e.elector (map (λ n. msg.LastElected e.txn e.call n) e.joined)

-- the elector names the number
abbrev pub names : Election → List Packet
names e = to_each (behind_kinds 2 e) e.elector e.others (msg.Elected e.txn e.number)

-- the others report
abbrev pub reports : Election → List Packet
reports e = from_each (behind_kinds 3 e) e.others e.elector (map (λ r. msg.Report e.txn e.number r.state r.attempt) e.states)

-- the elector asks for an attempt
abbrev pub pres : Election → Dir → List Packet
pres e dir = to_each (behind_kinds 4 e) e.elector e.others (msg.Pre e.txn e.number dir)

-- the others attempt it
abbrev pub acks : Election → Dir → List Packet
acks e dir = from_each (behind_kinds 5 e) e.others e.elector (map (λ site. msg.Ack e.txn e.number dir) e.others)

-- the elector decides
abbrev pub decides : Election → Dir → List Packet
decides e dir = to_each (behind_kinds 6 e) e.elector e.others (msg.Decide e.txn dir)

-- the elector asks, the others answer, and at the last answer it joins the number and names it
abbrev pub elects : Election → List Entry
elects e =
    takes e.elector (input.Elect e.txn (e.elector ∷ e.others)) [] (asks e) [] ∷
    each_answers (asks e) [] (answers e) ++
    at_the_last (answers e) (λ p. gets e.elector p (log.Join e.txn e.number ∷ []) (names e) [])

-- behind it: the others join and report, and at the last report the elector has this verdict, writes these records, and sends
-- these packets
abbrev pub concludes : Election → List Record → List Packet → Verdict → List Entry
concludes e records outs verdict =
    each_answers (names e) (log.Join e.txn e.number ∷ []) (reports e) ++
    at_the_last (reports e) (λ p. gets e.elector p records outs (told.Verdict e.txn e.number verdict ∷ []))

-- both, where the elector attempts this direction by its verdict
abbrev pub elects_and_attempts : Election → Dir → Verdict → List Entry
elects_and_attempts e dir verdict = elects e ++ concludes e (log.Attempt e.txn e.number dir ∷ []) (pres e dir) verdict

-- behind it: the others attempt the direction too; with so many of their acks the elector has a quorum, decides, and tells
-- these events; the others decide
abbrev pub all_follow : Election → ℕ → Dir → List Told → List Entry
all_follow e count dir events =
    each_answers (pres e dir) (log.Attempt e.txn e.number dir ∷ []) (acks e dir) ++
    at_count count (acks e dir) (λ p. gets e.elector p (log.Decision e.txn dir ∷ []) (decides e dir) events) ++
    each_gets (decides e dir) (log.Decision e.txn dir ∷ [])
