-- What every legal history of a given scenario keeps.
use Rattle.std.specs.Prelude.{◌≡◌, ◌≤◌, ◌++◌, ◌∷◌, [], ℕ, nat_le, true, List, length, filter, map, Option, Some, None, Contains}
use Rattle.std.specs.List.{flat_map, list_all, AllByRecursion as Each}
use Rattle.e3_types.specs.declared.entries.Entry.{Entry}
use Rattle.e3_types.specs.declared.entries.Input.{Input}
use Rattle.e3_types.specs.declared.messages.Message.TheVariants as msg
use Rattle.e3_types.specs.declared.messages.Packet.{Packet}
use Rattle.e3_types.specs.declared.records.Record.{Record}
use Rattle.e3_types.specs.declared.records.Record.TheVariants as log
use Rattle.e3_types.specs.declared.scenarios.Scenario.{Scenario}
use Rattle.e3_types.specs.declared.transactions.NumOp.{NumOp}
use Rattle.e3_types.specs.declared.transactions.Op.{Op}
use Rattle.e3_types.specs.declared.transactions.Txn.{Txn}
use Rattle.e3_types.specs.Same.{same_txn}
use Rattle.e3_world.specs.declared.lives.Asked.{Asked}
use Rattle.e3_world.specs.declared.lives.Life.{Life}
use Rattle.e3_world.specs.Given.{IsGiven}
use Rattle.e3_world.specs.Items.{is_up_at, began_in}
use Rattle.e3_world.specs.Legal.{IsLegal, IsDue}
use Rattle.e3_world.specs.Lives.{life_at}
use Rattle.e3_world.specs.Moves.{Move, Did, Stepped, Silent, Rose, Tail, moves_at, moves_of, log_by, log_of, open_tail, trail_of}
use Rattle.e3_world.specs.Operations.{done, waiting}
use Rattle.e3_world.specs.Orderly.{ops_ascend}
use Rattle.e3_world.specs.Packets.{sent, pending}
use Rattle.e3_world.specs.Sound.{Fits, is_in_turn, tells, IsSound}
use Rattle.e3_laws.specs.steps.Bounds.{GoesBetween, Suits, SuitsLog, IsHere}

-- Each packet that was sent goes from a site of its transaction to another of them, all of which are sites of the
-- scenario; a Do goes from the coordinator to the site of its key.
abbrev pub PacketsGoBetween : Type 0
PacketsGoBetween = (sc : Scenario) (h : List Entry) (packet : Packet) → IsGiven sc → IsLegal sc h → Contains (sent h) packet →
    GoesBetween sc.weights packet

-- What is pending was sent.
abbrev pub PendingWasSent : Type 0
PendingWasSent = (sc : Scenario) (h : List Entry) (packet : Packet) → Contains (pending sc h) packet → Contains (sent h) packet

-- the records of a tail that may be on the disk
abbrev pub tail_records : Option Tail → List Record
tail_records None = []
tail_records (Some tail) = tail.records

-- the records of a site's log, and those that may be on its disk
abbrev pub records_at : Scenario → List Entry → ℕ → List Record
records_at sc h site = log_of sc h site ++ tail_records (open_tail sc h site)

-- Each record of a site's log, and each that may be on its disk, is of a transaction of that site.
abbrev pub RecordsSuitTheirSite : Type 0
RecordsSuitTheirSite = (sc : Scenario) (h : List Entry) (site : ℕ) (r : Record) → IsGiven sc → IsLegal sc h → Contains (records_at sc h site) r →
    SuitsLog sc.weights site r

-- Each operation in a vote of a site's log, or in one that may be on its disk, is on a key of that site.
abbrev pub VotesAtTheirSite : Type 0
VotesAtTheirSite = (sc : Scenario) (h : List Entry) (site : ℕ) (t : Txn) (ops : List NumOp) → IsGiven sc → IsLegal sc h →
    Contains (records_at sc h site) (log.Vote t ops) → Each (IsHere site) ops

-- What is due at a site suits it.
abbrev pub InputsSuit : Type 0
InputsSuit = (sc : Scenario) (h : List Entry) (site : ℕ) (i : Input) → IsGiven sc → IsLegal sc h → IsDue sc h site i → Suits sc.weights site i

-- An input that is due at a site that is up fits the site: it is one that a site may be given after what it did.
abbrev pub DueInputsFit : Type 0
DueInputsFit = (sc : Scenario) (h : List Entry) (site : ℕ) (i : Input) → IsGiven sc → IsLegal sc h → is_up_at h site ≡ true → IsDue sc h site i →
    Fits sc.weights site (life_at (moves_of sc h site)) i

-- The trail of a legal history is sound: each of its moves is one that its site may make behind the moves before it.
abbrev pub TrailsAreSound : Type 0
TrailsAreSound = (sc : Scenario) (h : List Entry) → IsGiven sc → IsLegal sc h → IsSound sc (trail_of sc h)

-- The log that a site's moves in the trail make is its log in the history.
abbrev pub LogsAreOfTrails : Type 0
LogsAreOfTrails = (sc : Scenario) (h : List Entry) (site : ℕ) → log_by (moves_at site (trail_of sc h)) ≡ log_of sc h site

-- the move is no step
abbrev pub IsNoStep : Did → Type 0
IsNoStep (Stepped s) = ⊥
IsNoStep (Silent inputs records) = Unit {0}
IsNoStep (Rose inc records) = Unit {0}

-- What follows a silent move of a site, among its moves, is a silent move or a rise.
abbrev pub SilentMovesEnd : Type 0
SilentMovesEnd = (sc : Scenario) (h : List Entry) (site : ℕ) (before rest : List Move) (m : Move) (inputs : List Input) (records : List Record) →
    IsGiven sc → IsLegal sc h → moves_at site (trail_of sc h) ≡ before ++ record { site = site; did = Silent inputs records } ∷ m ∷ rest → IsNoStep m.did

-- the transactions that moves tell as begun
abbrev pub begun_by : List Move → List Txn
begun_by moves = flat_map (λ m. flat_map began_in (tells m)) moves

-- the two have not one name: they differ in site, incarnation or number
abbrev pub DifferInName : Txn → Txn → Type 0
DifferInName t u = t.site ≡ u.site → t.inc ≡ u.inc → t.seq ≡ u.seq → ⊥

-- no two of these transactions have one name
abbrev pub AllDiffer : List Txn → Type 0
AllDiffer [] = Unit {0}
AllDiffer (t ∷ ts) = Each (DifferInName t) ts × AllDiffer ts

-- No two transactions that are begun in a legal history have one name.
abbrev pub NamesDiffer : Type 0
NamesDiffer = (sc : Scenario) (h : List Entry) → IsGiven sc → IsLegal sc h → AllDiffer (begun_by (trail_of sc h))

-- An operation that is on its way to a site that is up comes in turn: it waits there or was answered there, or none of
-- its transaction waits there and all that were answered have lower numbers.
abbrev pub OperationsComeInTurn : Type 0
OperationsComeInTurn = (sc : Scenario) (h : List Entry) (packet : Packet) (t : Txn) (n : ℕ) (op : Op) → IsGiven sc → IsLegal sc h →
    Contains (pending sc h) packet → packet.msg ≡ msg.Do t n op → is_up_at h packet.to ≡ true →
    is_in_turn packet.to t n (life_at (moves_of sc h packet.to)) ≡ true

-- the operations of a transaction that a site has done, as a vote lists them
abbrev pub done_ops : ℕ → Txn → Life → List NumOp
done_ops site t life = map (λ p. record { n = p.n; op = p.op }) (done site t life.steps)

-- The numbers of the operations that a site that is up has done of a transaction ascend strictly, from 1 to 64.
abbrev pub DoneNumbersAscend : Type 0
DoneNumbersAscend = (sc : Scenario) (h : List Entry) (site : ℕ) (t : Txn) → IsGiven sc → IsLegal sc h → is_up_at h site ≡ true →
    (ops_ascend 0 (done_ops site t (life_at (moves_of sc h site))) ≡ true)
    × (list_all (λ o. nat_le o.n 64) (done_ops site t (life_at (moves_of sc h site))) ≡ true)

-- the operations of a transaction that wait at a site
abbrev pub waiting_of : ℕ → Txn → Life → List Asked
waiting_of site t life = filter (λ q. same_txn t q.txn) (waiting site life.log life.steps)

-- At most one operation of a transaction waits at a site that is up.
abbrev pub OneWaits : Type 0
OneWaits = (sc : Scenario) (h : List Entry) (site : ℕ) (t : Txn) → IsGiven sc → IsLegal sc h → is_up_at h site ≡ true →
    length (waiting_of site t (life_at (moves_of sc h site))) ≤ 1
