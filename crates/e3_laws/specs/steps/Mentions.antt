-- What the entries of a history mention: transactions, and values of records; and what may be mentioned behind entries.
use Rattle.std.specs.Prelude.{◌++◌, ◌∷◌, [], ℕ, List, Contains, map}
use Rattle.std.specs.List.{flat_map}
use Rattle.e3_types.specs.declared.entries.Act.{Act}
use Rattle.e3_types.specs.declared.entries.Act.TheVariants.{Step, Fall}
use Rattle.e3_types.specs.declared.entries.Entry.{Entry}
use Rattle.e3_types.specs.declared.entries.Input.{Input}
use Rattle.e3_types.specs.declared.entries.Input.TheVariants as input
use Rattle.e3_types.specs.declared.entries.Refusal.{Refusal}
use Rattle.e3_types.specs.declared.entries.Refusal.TheVariants as refusal
use Rattle.e3_types.specs.declared.entries.Told.{Told}
use Rattle.e3_types.specs.declared.entries.Told.TheVariants as told
use Rattle.e3_types.specs.declared.messages.Message.{Message}
use Rattle.e3_types.specs.declared.messages.Message.TheVariants as msg
use Rattle.e3_types.specs.declared.records.Record.{Record}
use Rattle.e3_types.specs.declared.records.Record.TheVariants as log
use Rattle.e3_types.specs.declared.scenarios.Item.{Item}
use Rattle.e3_types.specs.declared.scenarios.Item.TheVariants as item
use Rattle.e3_types.specs.declared.scenarios.Scenario.{Scenario}
use Rattle.e3_types.specs.declared.transactions.Answer.{Answer}
use Rattle.e3_types.specs.declared.transactions.Answer.TheVariants.{Value}
use Rattle.e3_types.specs.declared.transactions.Op.{Op}
use Rattle.e3_types.specs.declared.transactions.Op.TheVariants.{Read, Write}
use Rattle.e3_types.specs.declared.transactions.Txn.{Txn}
use Rattle.e3_world.specs.Items.{began_in}
use Rattle.e3_world.specs.Moves.{own_entries}

-- a transaction, or a value of a record
pub data Mention : Type 0 where
  OfTxn : Txn → Mention
  OfVal : List ℕ → Mention

-- what an operation mentions
abbrev pub of_op : Op → List Mention
of_op (Read key) = []
of_op (Write key val) = OfVal val ∷ []

-- what an answer mentions
abbrev pub of_answer : Answer → List Mention
of_answer (Value val) = OfVal val ∷ []
of_answer _ = []

-- what a message mentions
abbrev pub of_message : Message → List Mention
of_message (msg.Do t n op) = OfTxn t ∷ of_op op
of_message (msg.Done t n inc answer) = OfTxn t ∷ of_answer answer
of_message (msg.Died t n older) = OfTxn t ∷ OfTxn older ∷ []
of_message (msg.Ask t call) = OfTxn t ∷ []
of_message (msg.LastElected t call elected) = OfTxn t ∷ []
of_message (msg.Elected t n) = OfTxn t ∷ []
of_message (msg.Report t n state attempt) = OfTxn t ∷ []
of_message (msg.VoteReq t inc count) = OfTxn t ∷ []
of_message (msg.Vote t agreed) = OfTxn t ∷ []
of_message (msg.Pre t n dir) = OfTxn t ∷ []
of_message (msg.Ack t n dir) = OfTxn t ∷ []
of_message (msg.Decide t dir) = OfTxn t ∷ []

-- what an input mentions
abbrev pub of_input : Input → List Mention
of_input (input.Begin sites) = []
of_input (input.Do t op) = OfTxn t ∷ of_op op
of_input (input.Commit t) = OfTxn t ∷ []
of_input (input.Cancel t) = OfTxn t ∷ []
of_input (input.Expire t) = OfTxn t ∷ []
of_input (input.Elect t group) = OfTxn t ∷ []
of_input (input.Deliver packet) = of_message packet.msg

-- what a record mentions
abbrev pub of_record : Record → List Mention
of_record (log.Birth format site weights rows) = map (λ row. OfVal row.val) rows
of_record (log.Inc inc) = []
of_record (log.Vote t ops) = OfTxn t ∷ flat_map (λ o. of_op o.op) ops
of_record (log.Join t n) = OfTxn t ∷ []
of_record (log.Attempt t n dir) = OfTxn t ∷ []
of_record (log.Decision t dir) = OfTxn t ∷ []

-- what a refusal mentions
abbrev pub of_refusal : Refusal → List Mention
of_refusal (refusal.Died older) = OfTxn older ∷ []
of_refusal _ = []

-- what an event mentions: a begin mentions nothing, it is where its transaction comes from
abbrev pub of_event : Told → List Mention
of_event (told.Began t) = []
of_event (told.Op t n answer) = OfTxn t ∷ of_answer answer
of_event (told.Ended t dir) = OfTxn t ∷ []
of_event (told.Died t older) = OfTxn t ∷ OfTxn older ∷ []
of_event (told.Doomed t site had now) = OfTxn t ∷ []
of_event (told.Refused t why) = OfTxn t ∷ of_refusal why
of_event (told.Kept t state) = OfTxn t ∷ []
of_event (told.Verdict t n v) = OfTxn t ∷ []

-- what an act mentions
abbrev pub of_act : Act → List Mention
of_act (Step i records outs events) =
    of_input i ++ flat_map of_record records ++ flat_map (λ p. of_message p.msg) outs ++ flat_map of_event events
of_act (Fall inputs records why) = flat_map of_input inputs ++ flat_map of_record records
of_act _ = []

-- the transactions that an act tells as begun
abbrev pub begun_in : Act → List Txn
begun_in (Step i records outs events) = flat_map began_in events
begun_in _ = []

-- an entry of the transaction's coordinator told it as begun
abbrev pub WasBegun : List Entry → Txn → Type 0
WasBegun h t = Contains (flat_map (λ e. begun_in e.act) (own_entries t.site h)) t

-- the values that an item writes
abbrev pub values_in : Item → List (List ℕ)
values_in (item.Write name key val) = val ∷ []
values_in _ = []

-- the values of a scenario: those of its first rows, and those that its items write
abbrev pub values_of : Scenario → List (List ℕ)
values_of sc = map (λ row. row.val) sc.rows ++ flat_map (λ items. flat_map values_in items) sc.steps

-- what may be mentioned behind these entries: a transaction that was begun, a value of the scenario
abbrev pub Stands : Scenario → List Entry → Mention → Type 0
Stands sc h (OfTxn t) = WasBegun h t
Stands sc h (OfVal val) = Contains (values_of sc) val
