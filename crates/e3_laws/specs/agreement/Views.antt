-- What a site's records and packets say of one transaction: the notes and the words of its protocol.
use Rattle.std.specs.Prelude.{◌∷◌, [], if◌then◌else◌, ℕ, Bool, true, false, List, map, Option, Some, None}
use Rattle.std.specs.List.{flat_map}
use Rattle.e3_types.specs.declared.entries.Input.{Input}
use Rattle.e3_types.specs.declared.entries.Input.TheVariants as input
use Rattle.e3_types.specs.declared.messages.Message.{Message}
use Rattle.e3_types.specs.declared.messages.Message.TheVariants as msg
use Rattle.e3_types.specs.declared.messages.Packet.{Packet}
use Rattle.e3_types.specs.declared.records.Record.{Record}
use Rattle.e3_types.specs.declared.records.Record.TheVariants as log
use Rattle.e3_types.specs.declared.transactions.Dir.{Dir}
use Rattle.e3_types.specs.declared.transactions.Txn.{Txn}
use Rattle.e3_types.specs.Same.{same_txn}
use Rattle.e3_laws.specs.agreement.Logs.{Note, Vote, Join, Attempt, Decision}
use Rattle.e3_laws.specs.agreement.Rules.{Letter, letter, Word, Yes, No, Elected, Report, Pre, Ack, Decide, Other}
use Rattle.e3_laws.specs.agreement.Verdicts.{status_in}

-- the note that a record is, where it is one of the transaction; a join is for this leader
abbrev pub note_of : Txn → ℕ → Record → List Note
note_of t e (log.Vote u ops) = if same_txn t u then Vote ∷ [] else []
note_of t e (log.Join u n) = if same_txn t u then Join n e ∷ [] else []
note_of t e (log.Attempt u n d) = if same_txn t u then Attempt n d ∷ [] else []
note_of t e (log.Decision u d) = if same_txn t u then Decision d ∷ [] else []
note_of t e _ = []

-- the notes of records, in their order
abbrev pub notes_of : Txn → ℕ → List Record → List Note
notes_of t e records = flat_map (note_of t e) records

-- the leader of an election that a step at the site joins: who sent the number, else the site itself
abbrev pub leader_of : ℕ → Input → ℕ
leader_of site (input.Deliver packet) = by packet.msg
  where
    by : Message → ℕ
    by (msg.Elected u n) = packet.«from»
    by _ = site
leader_of site _ = site

-- the word, where the message is of the transaction
abbrev pub word_if : Bool → Word → List Word
word_if true w = w ∷ []
word_if false w = []

-- what a message says of the transaction in its protocol; that a request died says that its site aborted; the answer to an
-- operation says nothing
abbrev pub words_of : Txn → Message → List Word
words_of t (msg.Vote u true) = word_if (same_txn t u) Yes
words_of t (msg.Vote u false) = word_if (same_txn t u) No
words_of t (msg.Died u n older) = word_if (same_txn t u) No
words_of t (msg.Elected u n) = word_if (same_txn t u) (Elected n)
words_of t (msg.Report u n st attempt) = word_if (same_txn t u) (Report n (status_in st) attempt)
words_of t (msg.Pre u n dir) = word_if (same_txn t u) (Pre n dir)
words_of t (msg.Ack u n dir) = word_if (same_txn t u) (Ack n dir)
words_of t (msg.Decide u dir) = word_if (same_txn t u) (Decide dir)
words_of t (msg.Do u n op) = word_if (same_txn t u) Other
words_of t (msg.Ask u call) = word_if (same_txn t u) Other
words_of t (msg.LastElected u call elected) = word_if (same_txn t u) Other
words_of t (msg.VoteReq u inc count) = word_if (same_txn t u) Other
words_of t (msg.Done u n inc answer) = []

-- the letters of a packet
abbrev pub letters_in : Txn → Packet → List Letter
letters_in t packet = map (letter packet.«from» packet.to) (words_of t packet.msg)

-- the letters of packets
abbrev pub letters_of : Txn → List Packet → List Letter
letters_of t packets = flat_map (letters_in t) packets

-- the last decision among the notes
abbrev pub decided : List Note → Option Dir
decided [] = None
decided (Decision d ∷ l) = Some d
decided (r ∷ l) = decided l

-- the direction of the last attempt among the notes
abbrev pub tried : List Note → Option Dir
tried [] = None
tried (Attempt n d ∷ l) = Some d
tried (r ∷ l) = tried l

-- a vote is among the notes
abbrev pub has_vote : List Note → Bool
has_vote [] = false
has_vote (Vote ∷ l) = true
has_vote (r ∷ l) = has_vote l
