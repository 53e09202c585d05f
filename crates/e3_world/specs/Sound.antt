-- Sound trails: what each move of a trail meets over the moves before it. The trail of a legal history is sound.
use Rattle.e3_world.specs.declared.lives.Performed.{Performed}
use Rattle.e3_world.specs.declared.lives.Made.{Made}
use Rattle.e3_world.specs.declared.lives.Life.{Life}
use Rattle.e3_world.specs.declared.lives.Asked.{Asked}
use Rattle.std.specs.Prelude.{◌≡◌, ◌<◌, ◌≤◌, ◌==◌, ◌&&◌, ◌||◌, ◌++◌, ◌∷◌, [], ℕ, suc, nat_lt, Bool, true, false, List, length, fold, map, filter, slice_get, is_none, Contains}
use Rattle.std.specs.List.{list_any, list_all, flat_map}
use Rattle.e3_types.specs.declared.entries.Input.{Input}
use Rattle.e3_types.specs.declared.transactions.Key.{Key}
use Rattle.e3_types.specs.declared.messages.Message.{Message}
use Rattle.e3_types.specs.declared.transactions.Op.{Op}
use Rattle.e3_types.specs.declared.messages.Packet.{Packet}
use Rattle.e3_types.specs.declared.records.Record.{Record}
use Rattle.e3_types.specs.declared.scenarios.Scenario.{Scenario}
use Rattle.e3_types.specs.declared.transactions.State.TheVariants.{Q}
use Rattle.e3_types.specs.declared.entries.Told.{Told}
use Rattle.e3_types.specs.declared.transactions.Txn.{Txn}
use Rattle.e3_types.specs.declared.entries.Input.TheVariants as input
use Rattle.e3_types.specs.declared.messages.Message.TheVariants as msg
use Rattle.e3_types.specs.Same.{same_txn}
use Rattle.e3_types.specs.Sets.{has_site, others, is_within}
use Rattle.e3_world.specs.Lives.{incarnation_of, life_at}
use Rattle.e3_world.specs.Logs.{state_of, logged_inc, key_of}
use Rattle.e3_world.specs.Moves.{Did, Stepped, Silent, Rose, Move, moves_at, recorded, log_by, rise_records, unnumbered, unnumbered_input}
use Rattle.e3_world.specs.Operations.{issued, done, waiting}
use Rattle.e3_world.specs.Orderly.{is_among}
use Rattle.e3_world.specs.Steps.{step_of}

-- the transaction of a message
abbrev pub txn_in : Message → Txn
txn_in (msg.Do t n op) = t
txn_in (msg.Done t n inc answer) = t
txn_in (msg.Died t n older) = t
txn_in (msg.Ask t call) = t
txn_in (msg.LastElected t call elected) = t
txn_in (msg.Elected t n) = t
txn_in (msg.Report t n st attempt) = t
txn_in (msg.VoteReq t inc count) = t
txn_in (msg.Vote t agrees) = t
txn_in (msg.Pre t n dir) = t
txn_in (msg.Ack t n dir) = t
txn_in (msg.Decide t dir) = t

-- the operation waits at the site, or was answered there in the present incarnation; or it is the next: none of the
-- transaction waits, and its number is above all that were answered
abbrev pub is_in_turn : ℕ → Txn → ℕ → Life → Bool
is_in_turn site t n life =
    list_any (λ p. p.n == n) answered || list_any (λ q. q.n == n) waits || (is_none (slice_get waits 0) && list_all (λ p. nat_lt p.n n) answered)
  where
    answered : List Performed
    answered = done site t life.steps

    waits : List Asked
    waits = filter (λ q. same_txn t q.txn) (waiting site life.log life.steps)

-- a Do packet comes from the coordinator, has a key of this site and a number from 1 to 64; in q it comes in turn
pub record FitsDo (site : ℕ) (life : Life) («from» : ℕ) (t : Txn) (n : ℕ) (op : Op) : Type 0 where
  pub coordinator : «from» ≡ t.site
  pub here : (key_of op).site ≡ site
  pub low : 1 ≤ n
  pub high : n ≤ 64
  pub turn : state_of t life.log ≡ Q → is_in_turn site t n life ≡ true

-- what a message has to meet beyond its packet
abbrev pub FitsMessage : ℕ → Life → ℕ → Message → Type 0
FitsMessage site life f (msg.Do t n op) = FitsDo site life f t n op
FitsMessage site life f m = Unit {0}

-- a packet is for this site, and comes from another site of its transaction
pub record FitsPacket (weights : List ℕ) (site : ℕ) (life : Life) (packet : Packet) : Type 0 where
  pub among : is_among site weights (txn_in packet.msg).sites ≡ true
  pub to : packet.to ≡ site
  pub sender : has_site (others site (txn_in packet.msg).sites) packet.«from» ≡ true
  pub message : FitsMessage site life packet.«from» packet.msg

-- a Do input is at the coordinator, for a key of one of the transaction's sites, with fewer than 64 issued before
pub record FitsIssue (weights : List ℕ) (site : ℕ) (life : Life) (t : Txn) (key : Key) : Type 0 where
  pub among : is_among site weights t.sites ≡ true
  pub coordinator : t.site ≡ site
  pub there : has_site t.sites key.site ≡ true
  pub few : length (issued t life.steps) < 64

-- the input fits the site: it is one that the site may be given
abbrev pub Fits : List ℕ → ℕ → Life → Input → Type 0
Fits weights site life (input.Begin sites) = is_among site weights sites ≡ true
Fits weights site life (input.Do t op) = FitsIssue weights site life t (key_of op)
Fits weights site life (input.Commit t) = (is_among site weights t.sites ≡ true) × (t.site ≡ site)
Fits weights site life (input.Cancel t) = (is_among site weights t.sites ≡ true) × (t.site ≡ site)
Fits weights site life (input.Expire t) = is_among site weights t.sites ≡ true
Fits weights site life (input.Elect t group) =
    (is_among site weights t.sites ≡ true) × (has_site group site ≡ true) × (is_within group t.sites ≡ true)
Fits weights site life (input.Deliver packet) = FitsPacket weights site life packet

-- the packets that a move sends: a silent move and a rise send none
abbrev pub sends : Move → List Packet
sends m = by m.did
  where
    by : Did → List Packet
    by (Stepped s) = s.outs
    by _ = []

-- the events that a move tells
abbrev pub tells : Move → List Told
tells m = by m.did
  where
    by : Did → List Told
    by (Stepped s) = s.told
    by _ = []

-- a delivered packet was sent by an earlier move
abbrev pub WasSent : List Move → Input → Type 0
WasSent before (input.Deliver packet) = Contains (flat_map sends before) packet
WasSent before i = Unit {0}

-- the move of a step that the site makes behind its own moves
abbrev pub step_move : Scenario → ℕ → List Move → Input → Move
step_move sc site mine i = by (step_of sc.weights site (incarnation_of mine) i)
  where
    by : Made → Move
    by made = record { site = site; did = Stepped (record { input = unnumbered_input i; records = made.records; outs = map unnumbered made.outs; told = made.told }) }

-- the site's last move that is no step is a rise
abbrev pub has_risen : List Move → Bool
has_risen mine = fold (λ was m. by was m.did) false mine
  where
    by : Bool → Did → Bool
    by was (Stepped s) = was
    by was (Silent inputs records) = false
    by was (Rose inc records) = true

-- a step behind a rise: its input fits and was sent, and what it records, sends and tells is what the input makes
pub record IsSoundStep (sc : Scenario) (before : List Move) (m : Move) (i : Input) : Type 0 where
  pub risen : has_risen (moves_at m.site before) ≡ true
  pub fits : Fits sc.weights m.site (life_at (moves_at m.site before)) i
  pub was_sent : WasSent before i
  pub made : m ≡ step_move sc m.site (moves_at m.site before) i

-- inputs that fit, one after the other behind the steps that they would make
abbrev pub FitInTurn : Scenario → List Move → ℕ → List Move → List Input → Type 0
FitInTurn sc before site mine [] = Unit {0}
FitInTurn sc before site mine (i ∷ inputs) =
    Fits sc.weights site (life_at mine) i × WasSent before i
    × FitInTurn sc before site (mine ++ step_move sc site mine i ∷ []) inputs

-- the records of the steps that inputs would make, one after the other
abbrev pub records_in_turn : Scenario → ℕ → List Move → List Input → List Record
records_in_turn sc site mine [] = []
records_in_turn sc site mine (i ∷ inputs) =
    recorded (step_move sc site mine i) ++ records_in_turn sc site (mine ++ step_move sc site mine i ∷ []) inputs

-- a silent move with inputs has the records of the steps that they would make; nothing is sent or told
pub record IsSoundTail (sc : Scenario) (before : List Move) (site : ℕ) (inputs : List Input) (records : List Record) : Type 0 where
  pub risen : has_risen (moves_at site before) ≡ true
  pub fits : FitInTurn sc before site (moves_at site before) inputs
  pub made : records ≡ records_in_turn sc site (moves_at site before) inputs

-- the records of a rise, also of one that failed: an incarnation one above the last, with the birth where the log is empty
pub record IsSoundRise (sc : Scenario) (before : List Move) (site inc : ℕ) (records : List Record) : Type 0 where
  pub next : inc ≡ suc (logged_inc (log_by (moves_at site before)))
  pub made : records ≡ rise_records sc site inc (log_by (moves_at site before))

-- what a move meets over the moves before it
abbrev pub IsSoundMove : Scenario → List Move → Move → Type 0
IsSoundMove sc before m = by m.did
  where
    by : Did → Type 0
    by (Stepped s) = IsSoundStep sc before m s.input
    by (Silent [] records) = (inc : ℕ) × IsSoundRise sc before m.site inc records
    by (Silent (i ∷ inputs) records) = IsSoundTail sc before m.site (i ∷ inputs) records
    by (Rose inc records) = IsSoundRise sc before m.site inc records

-- each of these moves is sound over those before it
abbrev pub SoundAfter : Scenario → List Move → List Move → Type 0
SoundAfter sc before [] = Unit {0}
SoundAfter sc before (m ∷ rest) = IsSoundMove sc before m × SoundAfter sc (before ++ m ∷ []) rest

-- the trail is sound
abbrev pub IsSound : Scenario → List Move → Type 0
IsSound sc trail = SoundAfter sc [] trail
