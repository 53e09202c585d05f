-- Short words for packets and entries, which most worked histories are written in. OneWrite has its entries in full.
use Rattle.std.specs.Prelude.{◌∷◌, [], ◌+◌, ℕ, true, false, List}
use Rattle.e3_types.specs.declared.entries.Act.TheVariants.{Step, Fall, Rise, Cut, Drop, Parts, Line}
use Rattle.e3_types.specs.declared.transactions.Answer.{Answer}
use Rattle.e3_types.specs.declared.transactions.Call.{Call}
use Rattle.e3_types.specs.declared.transactions.Dir.TheVariants.{Commit}
use Rattle.e3_types.specs.declared.entries.Entry.{Entry}
use Rattle.e3_types.specs.declared.entries.Input.{Input}
use Rattle.e3_types.specs.declared.messages.Message.{Message}
use Rattle.e3_types.specs.declared.transactions.NumOp.{NumOp}
use Rattle.e3_types.specs.declared.transactions.Op.{Op}
use Rattle.e3_types.specs.declared.messages.Packet.{Packet}
use Rattle.e3_types.specs.declared.records.Record.{Record}
use Rattle.e3_types.specs.declared.entries.Told.{Told}
use Rattle.e3_types.specs.declared.transactions.Txn.{Txn}
use Rattle.e3_types.specs.declared.entries.Why.TheVariants.{Fault}
use Rattle.e3_types.specs.declared.entries.Input.TheVariants as input
use Rattle.e3_types.specs.declared.messages.Message.TheVariants as msg
use Rattle.e3_types.specs.declared.records.Record.TheVariants as log
use Rattle.e3_types.specs.declared.entries.Told.TheVariants as told
use Rattle.e3_world.specs.Logs.{key_of}

-- a packet: its number, its sender, its receiver, and what it says
abbrev pub packet : ℕ → ℕ → ℕ → Message → Packet
packet number sender receiver message = record { number = number; «from» = sender; to = receiver; msg = message }

-- the call of an election: the elector's incarnation, and how many elections it called there
abbrev pub call : ℕ → ℕ → Call
call inc seq = record { inc = inc; seq = seq }

-- an operation with its number in its transaction
abbrev pub operation : ℕ → Op → NumOp
operation n op = record { n = n; op = op }

-- the driver comes to this line of the scenario
abbrev pub line : ℕ → Entry
line number = record { owner = 0; act = Line number }

-- the driver parts the network
abbrev pub parts : List (List ℕ) → Entry
parts groups = record { owner = 0; act = Parts groups }

-- the driver drops the packet of this number, whose receiver is down
abbrev pub drops : ℕ → Entry
drops number = record { owner = 0; act = Drop number }

-- a site rises with this incarnation, and no tail of its log is kept
abbrev pub rises : ℕ → ℕ → Entry
rises site inc = record { owner = site; act = Rise false inc }

-- a site rises with this incarnation, and the tail of its log is kept
abbrev pub rises_kept : ℕ → ℕ → Entry
rises_kept site inc = record { owner = site; act = Rise true inc }

-- a site's power is cut
abbrev pub cut : ℕ → Entry
cut site = record { owner = site; act = Cut }

-- a site falls over an input, in the frame of these records
abbrev pub falls : ℕ → Input → List Record → Entry
falls site i records = record { owner = site; act = Fall (i ∷ []) records Fault }

-- a site takes an input: it writes these records, sends these packets, and tells these events
abbrev pub takes : ℕ → Input → List Record → List Packet → List Told → Entry
takes site i records outs events = record { owner = site; act = Step i records outs events }

-- a site gets a packet: it writes these records, sends these packets, and tells these events
abbrev pub gets : ℕ → Packet → List Record → List Packet → List Told → Entry
gets site p = takes site (input.Deliver p)

-- the coordinator begins its transaction
abbrev pub begins : Txn → Entry
begins t = takes t.site (input.Begin t.sites) [] [] (told.Began t ∷ [])

-- the coordinator does an operation on a record of its own, and tells the answer
abbrev pub local_operation : Txn → ℕ → Op → Answer → Entry
local_operation t n op answer = takes t.site (input.Do t op) [] [] (told.Op t n answer ∷ [])

-- The coordinator has another site do an operation, and tells the answer: two packets, of which the first has this number. The
-- other site is in its first incarnation.
abbrev pub remote_operation : Txn → ℕ → Op → Answer → ℕ → List Entry
remote_operation t n op answer first =
    let other = (key_of op).site in
    let asks = packet first t.site other (msg.Do t n op) in
    let done = packet (first + 1) other t.site (msg.Done t n 1 answer) in
    takes t.site (input.Do t op) [] (asks ∷ []) [] ∷
    gets other asks [] (done ∷ []) [] ∷
    gets t.site done [] [] (told.Op t n answer ∷ []) ∷
    []

-- the coordinator votes for the operations that it did, and asks the others for their votes
abbrev pub asks_votes : Txn → List NumOp → List Packet → Entry
asks_votes t ops requests = takes t.site (input.Commit t) (log.Vote t ops ∷ []) requests []

-- the coordinator, which is the only site, votes for the operations that it did, and commits, in one frame
abbrev pub commits_alone : Txn → List NumOp → Entry
commits_alone t ops = takes t.site (input.Commit t) (log.Vote t ops ∷ log.Attempt t 1 Commit ∷ log.Decision t Commit ∷ []) [] (told.Ended t Commit ∷ [])
