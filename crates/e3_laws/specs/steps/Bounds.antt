-- What the packets, inputs and records of a legal history meet, whatever came before them.
use Rattle.std.specs.Prelude.{◌≡◌, ◌≤◌, ◌==◌, ℕ, true, false, List}
use Rattle.std.specs.List.{AllByRecursion as Each}
use Rattle.e3_types.specs.declared.entries.Input.{Input}
use Rattle.e3_types.specs.declared.entries.Input.TheVariants as input
use Rattle.e3_types.specs.declared.entries.Told.{Told}
use Rattle.e3_types.specs.declared.entries.Told.TheVariants as told
use Rattle.e3_types.specs.declared.messages.Message.{Message}
use Rattle.e3_types.specs.declared.messages.Message.TheVariants as msg
use Rattle.e3_types.specs.declared.messages.Packet.{Packet}
use Rattle.e3_types.specs.declared.records.Record.{Record}
use Rattle.e3_types.specs.declared.records.Record.TheVariants as log
use Rattle.e3_types.specs.declared.transactions.NumOp.{NumOp}
use Rattle.e3_types.specs.Sets.{has_site, is_within}
use Rattle.e3_world.specs.Logs.{key_of}
use Rattle.e3_world.specs.Orderly.{is_among}
use Rattle.e3_world.specs.Sound.{txn_in}

-- a Do comes from its coordinator to the site of its operation's key, and has a number
abbrev pub AsksWell : ℕ → ℕ → Message → Type 0
AsksWell site f (msg.Do t n op) = (f ≡ t.site) × ((key_of op).site ≡ site) × (1 ≤ n)
AsksWell site f m = Unit {0}

-- the site may hear this message from site f: both are sites of its transaction, all of whose sites have a weight
pub record MayHear (weights : List ℕ) (site f : ℕ) (m : Message) : Type 0 where
  pub among : is_among site weights (txn_in m).sites ≡ true
  pub sender : has_site (txn_in m).sites f ≡ true
  pub asked : AsksWell site f m

-- the packet goes from a site of its transaction to another of them
pub record GoesBetween (weights : List ℕ) (packet : Packet) : Type 0 where
  pub heard : MayHear weights packet.to packet.«from» packet.msg
  pub other : (packet.«from» == packet.to) ≡ false

-- the input suits the site: its transaction and its sites are such as the site may have to do with
abbrev pub Suits : List ℕ → ℕ → Input → Type 0
Suits weights site (input.Begin sites) = is_among site weights sites ≡ true
Suits weights site (input.Do t op) =
    (is_among site weights t.sites ≡ true) × (t.site ≡ site) × (has_site t.sites (key_of op).site ≡ true)
Suits weights site (input.Commit t) = (is_among site weights t.sites ≡ true) × (t.site ≡ site)
Suits weights site (input.Cancel t) = (is_among site weights t.sites ≡ true) × (t.site ≡ site)
Suits weights site (input.Expire t) = is_among site weights t.sites ≡ true
Suits weights site (input.Elect t group) =
    (is_among site weights t.sites ≡ true) × (has_site group site ≡ true) × (is_within group t.sites ≡ true)
Suits weights site (input.Deliver packet) =
    (packet.to ≡ site) × ((packet.«from» == site) ≡ false) × MayHear weights site packet.«from» packet.msg

-- the operation is on a key of this site
abbrev pub IsHere : ℕ → NumOp → Type 0
IsHere site o = (key_of o.op).site ≡ site

-- the record suits the site's log: its transaction is one of the site's, and a vote's operations are on its own keys
abbrev pub SuitsLog : List ℕ → ℕ → Record → Type 0
SuitsLog weights site (log.Vote t ops) = (is_among site weights t.sites ≡ true) × Each (IsHere site) ops
SuitsLog weights site (log.Join t n) = is_among site weights t.sites ≡ true
SuitsLog weights site (log.Attempt t n dir) = is_among site weights t.sites ≡ true
SuitsLog weights site (log.Decision t dir) = is_among site weights t.sites ≡ true
SuitsLog weights site r = Unit {0}

-- a transaction that is told as begun is the site's own
abbrev pub BeginsOwn : List ℕ → ℕ → Told → Type 0
BeginsOwn weights site (told.Began t) = (is_among site weights t.sites ≡ true) × (t.site ≡ site)
BeginsOwn weights site e = Unit {0}
