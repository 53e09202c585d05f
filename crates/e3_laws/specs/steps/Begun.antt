-- What every legal history mentions.
use Rattle.std.specs.Prelude.{◌≡◌, ◌++◌, ◌∷◌, ℕ, true, List, Contains}
use Rattle.std.specs.List.{AllByRecursion as Each}
use Rattle.e3_types.specs.declared.entries.Entry.{Entry}
use Rattle.e3_types.specs.declared.entries.Input.{Input}
use Rattle.e3_types.specs.declared.messages.Packet.{Packet}
use Rattle.e3_types.specs.declared.records.Record.{Record}
use Rattle.e3_types.specs.declared.scenarios.Scenario.{Scenario}
use Rattle.e3_types.specs.declared.transactions.Txn.{Txn}
use Rattle.e3_types.specs.Transactions.{is_txn}
use Rattle.e3_world.specs.Given.{IsGiven}
use Rattle.e3_world.specs.Legal.{IsLegal, IsDue, entry_of}
use Rattle.e3_world.specs.Orderly.{is_among}
use Rattle.e3_world.specs.Packets.{sent, outs_of}
use Rattle.e3_laws.specs.steps.Trails.{records_at}
use Rattle.e3_laws.specs.steps.Mentions.{Stands, WasBegun, of_act, of_input, of_message, of_record}

-- Each entry mentions only transactions that an earlier entry of their coordinator told as begun, and values of the
-- scenario.
abbrev pub EntriesMentionWhatStands : Type 0
EntriesMentionWhatStands = (sc : Scenario) (before rest : List Entry) (e : Entry) → IsLegal sc (before ++ e ∷ rest) →
    Each (Stands sc before) (of_act e.act)

-- So does what is due at a site.
abbrev pub DueMentionsWhatStands : Type 0
DueMentionsWhatStands = (sc : Scenario) (h : List Entry) (site : ℕ) (i : Input) → IsLegal sc h → IsDue sc h site i →
    Each (Stands sc h) (of_input i)

-- So does the step that a site would make.
abbrev pub StepsMentionWhatStands : Type 0
StepsMentionWhatStands = (sc : Scenario) (h : List Entry) (site : ℕ) (i : Input) → IsLegal sc h → IsDue sc h site i →
    Each (Stands sc h) (of_act (entry_of sc h site i).act)

-- So do the records of a site's log, and those that may be on its disk.
abbrev pub RecordsMentionWhatStands : Type 0
RecordsMentionWhatStands = (sc : Scenario) (h : List Entry) (site : ℕ) (r : Record) → IsLegal sc h → Contains (records_at sc h site) r →
    Each (Stands sc h) (of_record r)

-- So do the packets that were sent.
abbrev pub PacketsMentionWhatStands : Type 0
PacketsMentionWhatStands = (sc : Scenario) (h : List Entry) (p : Packet) → IsLegal sc h → Contains (sent h) p →
    Each (Stands sc h) (of_message p.msg)

-- A transaction that was begun has numbers from 1 on, and its coordinator is one of its sites, all of which the scenario
-- has.
abbrev pub BegunAreTransactions : Type 0
BegunAreTransactions = (sc : Scenario) (h : List Entry) (t : Txn) → IsGiven sc → IsLegal sc h → WasBegun h t →
    (is_txn t ≡ true) × (is_among t.site sc.weights t.sites ≡ true)

-- The packets of an entry come from its owner.
abbrev pub PacketsAreTheirOwners : Type 0
PacketsAreTheirOwners = (sc : Scenario) (before rest : List Entry) (e : Entry) → IsLegal sc (before ++ e ∷ rest) →
    Each (λ p. p.«from» ≡ e.owner) (outs_of e.act)
