-- What a step of a site comes to: its rule, the requests that a decision grants, and the own answers that it tells.
use Rattle.std.specs.Prelude.{◌≡◌, ◌⊎◌, ◌==◌, ◌||◌, ◌++◌, ◌∷◌, [], ℕ, suc, true, false, List, Some, None, length}
use Rattle.std.specs.List.{list_any, AllByRecursion as Each}
use Rattle.e3_types.specs.declared.entries.Input.TheVariants as input
use Rattle.e3_types.specs.declared.entries.Told.{Told}
use Rattle.e3_types.specs.declared.entries.Told.TheVariants as told
use Rattle.e3_types.specs.declared.locks.Grant.TheVariants.{Held}
use Rattle.e3_types.specs.declared.messages.Message.{Message}
use Rattle.e3_types.specs.declared.messages.Message.TheVariants as msg
use Rattle.e3_types.specs.declared.messages.Packet.{Packet}
use Rattle.e3_types.specs.declared.records.Record.{Record}
use Rattle.e3_types.specs.declared.records.Record.TheVariants as log
use Rattle.e3_types.specs.declared.transactions.Answer.{Answer}
use Rattle.e3_types.specs.declared.transactions.Dir.{Dir}
use Rattle.e3_types.specs.declared.transactions.Op.{Op}
use Rattle.e3_types.specs.declared.transactions.State.TheVariants.{Q}
use Rattle.e3_types.specs.declared.transactions.Txn.{Txn}
use Rattle.e3_types.specs.Locks.{lock_grant}
use Rattle.e3_laws.specs.agreement.Logs.{IsIn}
use Rattle.e3_world.specs.declared.lives.At.{At}
use Rattle.e3_world.specs.declared.lives.Made.{Made}
use Rattle.e3_world.specs.Logs.{has_voted, key_of, mode_of}
use Rattle.e3_world.specs.Making.{nothing, steps_now, log_now, state_now, open_now, and_record, and_tell, and_send, and_vote, and_do, and_grants, is_coordinator, is_present}
use Rattle.e3_world.specs.Operations.{same_asked, answers, waiting, holders, queue, expected, issued, nth_op, unanswered}
use Rattle.e3_world.specs.Steps.{refuse, and_ask}
use Rattle.e3_world.specs.VoteRules.{vote_rule}

-- a record that is a join or an attempt
abbrev pub IsNote : Record → Type 0
IsNote (log.Join t n) = Unit {0}
IsNote (log.Attempt t n dir) = Unit {0}
IsNote r = ⊥

-- an event that is no answer and no refusal
abbrev pub IsNews : Told → Type 0
IsNews (told.Op t n answer) = ⊥
IsNews (told.Refused t why) = ⊥
IsNews e = Unit {0}

-- a message that is no answer, asks for no vote, and is no operation
abbrev pub IsWord : Message → Type 0
IsWord (msg.Done t n inc answer) = ⊥
IsWord (msg.VoteReq t inc count) = ⊥
IsWord (msg.Do t n op) = ⊥
IsWord m = Unit {0}

-- the step takes a commit that is not refused
pub record Commits (a : At) (t : Txn) : Type 0 where
  pub takes : a.input ≡ input.Commit t
  pub allowed : refuse a t false nothing ≡ None

-- the step takes a request for a vote, and may say yes
pub record IsAsked (a : At) (t : Txn) : Type 0 where
  pub packet : Packet
  pub takes : a.input ≡ input.Deliver packet
  pub inc : ℕ
  pub count : ℕ
  pub says : packet.msg ≡ msg.VoteReq t inc count
  pub rule : vote_rule a t inc count nothing ≡ true

-- the step takes the answer that the coordinator waits for, from the site of the operation, under the incarnation of its
-- earlier answers
pub record Hearing (a : At) (t : Txn) (n : ℕ) (answer : Answer) : Type 0 where
  pub packet : Packet
  pub takes : a.input ≡ input.Deliver packet
  pub inc : ℕ
  pub says : packet.msg ≡ msg.Done t n inc answer
  pub coordinator : is_coordinator a t ≡ true
  pub present : is_present a t ≡ true
  pub unanswered : unanswered t (log_now a nothing) (steps_now a nothing) ≡ Some n
  pub op : Op
  pub nth : nth_op n (issued t (steps_now a nothing)) ≡ Some op
  pub there : ((key_of op).site == packet.«from») ≡ true
  pub same : ((expected a.site a.life.inc t a.life.steps packet.«from»).count == 0 || (expected a.site a.life.inc t a.life.steps packet.«from»).inc == inc) ≡ true

-- the operation comes to the site in this step: in a packet of another site, or by an input that is not refused
pub record Comes (a : At) (t : Txn) (n : ℕ) (op : Op) : Type 0 where
  pub how : ((packet : Packet) × (a.input ≡ input.Deliver packet) × (packet.msg ≡ msg.Do t n op))
      ⊎ ((a.input ≡ input.Do t op) × (refuse a t false nothing ≡ None) × (n ≡ suc (length (issued t a.life.steps))) × ((key_of op).site ≡ a.site))

-- an operation of a transaction without a record that was neither answered nor waits gets its lock
pub record Locking (a : At) (t : Txn) (n : ℕ) (op : Op) : Type 0 where
  pub comes : Comes a t n op
  pub idle : state_now a t nothing ≡ Q
  pub unanswered : answers (record { txn = t; n = n; op = op }) a.life.steps ≡ []
  pub absent : list_any (same_asked (record { txn = t; n = n; op = op })) (waiting a.site (log_now a nothing) a.life.steps) ≡ false
  pub held : lock_grant (record { txn = t; mode = mode_of op }) (holders a.site (key_of op).name (log_now a nothing) a.life.steps)
      (queue (key_of op).name (waiting a.site (log_now a nothing) a.life.steps)) ≡ Held

-- an operation that was answered is answered again
pub record Repeating (a : At) (t : Txn) (n : ℕ) (answer : Answer) : Type 0 where
  pub op : Op
  pub comes : Comes a t n op
  pub idle : state_now a t nothing ≡ Q
  pub more : List Answer
  pub answered : answers (record { txn = t; n = n; op = op }) a.life.steps ≡ answer ∷ more

-- what a rule may make of an input that is not refused, apart from answers
pub data Ruled (a : At) : Made → Type 0 where
  Start : Ruled a nothing
  Notes : (r : Record) (made : Made) → IsNote r → Ruled a made → Ruled a (and_record r made)
  Decides : (t : Txn) (dir : Dir) (made : Made) → open_now a t made ≡ true → Ruled a made → Ruled a (and_record (log.Decision t dir) made)
  Votes : (t : Txn) → state_now a t nothing ≡ Q → Commits a t ⊎ IsAsked a t → Ruled a (and_vote a t nothing)
  Tells : (e : Told) (made : Made) → IsNews e → Ruled a made → Ruled a (and_tell e made)
  Says : (to : ℕ) (m : Message) (made : Made) → (to == a.site) ≡ false → IsWord m → Ruled a made → Ruled a (and_send a to m made)
  Asks : (to : ℕ) (t : Txn) (made : Made) → (to == a.site) ≡ false → Commits a t → has_voted t made.records ≡ true → Ruled a made → Ruled a (and_ask a t made to)
  Issues : (to : ℕ) (t : Txn) (op : Op) → (to == a.site) ≡ false → a.input ≡ input.Do t op → refuse a t false nothing ≡ None →
      Ruled a (and_send a to (msg.Do t (suc (length (issued t a.life.steps))) op) nothing)

-- what a rule makes: an operation that gets its lock, one that is answered again, an answer that is told, or none of these
pub data Rule (a : At) : Made → Type 0 where
  Otherwise : (made : Made) → Ruled a made → Rule a made
  Hears : (t : Txn) (n : ℕ) (answer : Answer) → Hearing a t n answer → Rule a (and_tell (told.Op t n answer) nothing)
  Locks : (t : Txn) (n : ℕ) (op : Op) → Locking a t n op → Rule a (and_do a t n op nothing)
  Repeats : (t : Txn) (n : ℕ) (answer : Answer) → Repeating a t n answer → Rule a (and_send a t.site (msg.Done t n a.life.inc answer) nothing)

-- the event tells an answer that the step has for its own site
abbrev pub TellsOwn : List Message → Told → Type 0
TellsOwn own e = (t : Txn) × (n inc : ℕ) × (answer : Answer) × (e ≡ told.Op t n answer) × IsIn (msg.Done t n inc answer) own

-- what a step comes to: what a rule makes, the requests that its decision grants, and own answers that are told
pub record Shaped (a : At) (made : Made) : Type 0 where
  pub rule : Made
  pub ruled : Rule a rule
  pub events : List Told
  pub from_own : Each (TellsOwn (and_grants a 0 rule).own) events
  pub records : made.records ≡ (and_grants a 0 rule).records
  pub outs : made.outs ≡ (and_grants a 0 rule).outs
  pub told : made.told ≡ (and_grants a 0 rule).told ++ events
