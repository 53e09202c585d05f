-- What stands on a name at a site: the operations and the votes of undecided transactions that are on it, and its row. A
-- test picks operations: those on a name, or those of a transaction.
use Rattle.std.specs.Prelude.{◌==◌, ◌&&◌, ◌||◌, ◌++◌, ◌∷◌, [], if◌then◌else◌, ℕ, Bool, true, false, not, List, map, filter, fold, Option, Some, None}
use Rattle.std.specs.List.{list_any, list_all, flat_map}
use Rattle.e3_types.specs.declared.entries.Told.{Told}
use Rattle.e3_types.specs.declared.entries.Told.TheVariants as told
use Rattle.e3_types.specs.declared.locks.Lock.{Lock}
use Rattle.e3_types.specs.declared.messages.Message.{Message}
use Rattle.e3_types.specs.declared.messages.Message.TheVariants as msg
use Rattle.e3_types.specs.declared.messages.Packet.{Packet}
use Rattle.e3_types.specs.declared.records.Record.{Record}
use Rattle.e3_types.specs.declared.records.Record.TheVariants as log
use Rattle.e3_types.specs.declared.transactions.Answer.{Answer}
use Rattle.e3_types.specs.declared.transactions.Answer.TheVariants.{Value}
use Rattle.e3_types.specs.declared.transactions.Dir.TheVariants.{Commit}
use Rattle.e3_types.specs.declared.transactions.NumOp.{NumOp}
use Rattle.e3_types.specs.declared.transactions.Op.{Op}
use Rattle.e3_types.specs.declared.transactions.Op.TheVariants.{Read, Write}
use Rattle.e3_types.specs.declared.transactions.Txn.{Txn}
use Rattle.e3_types.specs.Same.{same_numbers, same_txn}
use Rattle.e3_world.specs.declared.lives.Asked.{Asked}
use Rattle.e3_world.specs.declared.lives.Life.{Life}
use Rattle.e3_world.specs.declared.lives.Moment.{Moment}
use Rattle.e3_world.specs.declared.lives.SiteStep.{SiteStep}
use Rattle.e3_world.specs.Elections.{is_decision}
use Rattle.e3_world.specs.Logs.{is_undecided, key_of, table_of, row_value}
use Rattle.e3_world.specs.Operations.{arrivals, is_answered, is_fresh, taken_up}
use Rattle.e3_readings.specs.Requests.{lock_for}
use Rattle.e3_places.specs.declared.places.Standing.{Standing}
use Rattle.e3_places.specs.declared.places.Claims.{Claims}
use Rattle.e3_places.specs.declared.places.Place.{Place}
use Rattle.e3_places.specs.declared.keys.TxnId.{TxnId}
use Rattle.e3_places.specs.declared.picks.Pick.{Pick}
use Rattle.e3_places.specs.declared.picks.Pick.TheVariants as pick

-- the operation is on the name
abbrev pub is_on : List ℕ → Asked → Bool
is_on name a = same_numbers name (key_of a.op).name

-- the transaction has this coordinator, incarnation and number
abbrev pub has_key : TxnId → Txn → Bool
has_key k t = k.site == t.site && k.inc == t.inc && k.seq == t.seq

-- the operation is of such a transaction
abbrev pub is_of : TxnId → Asked → Bool
is_of k a = has_key k a.txn

-- the operation is picked
abbrev pub passes : Pick → Asked → Bool
passes (pick.On name) = is_on name
passes (pick.Of k) = is_of k

-- an operation, with whether it was answered
abbrev pub stand : Asked → Bool → Standing
stand a answered = record { asked = a; answered = answered }

-- an operation that came, where it passes the test and its transaction is undecided
abbrev pub standing_one : (Asked → Bool) → List Record → List Moment → Asked → List Standing
standing_one test log steps a = if test a && is_undecided a.txn log then stand a (is_answered steps a) ∷ [] else []

-- those of the operations that came, in the order of arrival
abbrev pub standing_of : (Asked → Bool) → ℕ → Life → List Standing
standing_of test site life = flat_map (standing_one test life.log life.steps) (arrivals site life.steps)

-- an operation of a vote
abbrev pub voted : Txn → NumOp → Asked
voted t o = record { txn = t; n = o.n; op = o.op }

-- the operations of a record, if it is a vote
abbrev pub cast_in : Record → List Asked
cast_in (log.Vote t ops) = map (voted t) ops
cast_in _ = []

-- the operations of all votes of these records
abbrev pub cast_of : List Record → List Asked
cast_of rs = flat_map cast_in rs

-- the operation passes the test, and its transaction is undecided
abbrev pub is_open : (Asked → Bool) → List Record → Asked → Bool
is_open test log a = test a && is_undecided a.txn log

-- those of the operations of votes, in the order of the log
abbrev pub votes_of : (Asked → Bool) → List Record → List Asked
votes_of test log = filter (is_open test log) (cast_of log)

-- both
abbrev pub claims_of : (Asked → Bool) → ℕ → Life → Claims
claims_of test site life = record { standing = standing_of test site life; votes = votes_of test life.log }

-- what a read of the name answers by the table of the log
abbrev pub row_of : List ℕ → List Record → Answer
row_of name log = row_value name (table_of log)

-- what stands on a name
abbrev pub place_of : List ℕ → ℕ → Life → Place
place_of name site life = record { claims = claims_of (is_on name) site life; row = row_of name life.log }

-- these records decide the transaction
abbrev pub decided_in : List Record → Txn → Bool
decided_in rs t = list_any (is_decision t) rs

-- the event answers the operation
abbrev pub is_told : Asked → Told → Bool
is_told a (told.Op t n answer) = a.n == n && same_txn a.txn t
is_told a _ = false

-- the packet answers the operation
abbrev pub is_sent : Asked → Packet → Bool
is_sent a packet = by packet.msg
  where
    by : Message → Bool
    by (msg.Done t n inc answer) = a.n == n && same_txn a.txn t
    by _ = false

-- one of these events and packets answers it
abbrev pub is_heard : List Told → List Packet → Asked → Bool
is_heard events outs a = list_any (is_told a) events || list_any (is_sent a) outs

-- an operation behind a step: gone where the step decides its transaction, else perhaps answered by the step
abbrev pub again : List Record → List Told → List Packet → Standing → List Standing
again rs events outs was =
    if decided_in rs was.asked.txn then [] else stand was.asked (was.answered || is_heard events outs was.asked) ∷ []

-- the moment of a step
abbrev pub moment_of : Life → SiteStep → Moment
moment_of life s = record { before = life.log; input = s.input; records = s.records; outs = s.outs; told = s.told }

-- the operation that a step takes up, where it did not come before and its transaction is in q, with whether it was
-- answered before
abbrev pub fresh_of : ℕ → Life → SiteStep → Option Standing
fresh_of site life s = by (taken_up site life.steps (moment_of life s))
  where
    by : Option Asked → Option Standing
    by None = None
    by (Some a) = if is_fresh (arrivals site life.steps) (moment_of life s) a then Some (stand a (is_answered life.steps a)) else None

-- it, where it passes the test
abbrev pub newly : (Asked → Bool) → Option Standing → List Standing
newly test None = []
newly test (Some new) = if test new.asked then new ∷ [] else []

-- the operations behind a step
abbrev pub standing_by : (Asked → Bool) → List Standing → Option Standing → List Record → List Told → List Packet → List Standing
standing_by test was new rs events outs = flat_map (again rs events outs) (was ++ newly test new)

-- the operations of votes with those of these records
abbrev pub with_cast : (Asked → Bool) → List Asked → List Record → List Asked
with_cast test votes rs = votes ++ filter test (cast_of rs)

-- the records do not decide the transaction of the operation
abbrev pub is_left : List Record → Asked → Bool
is_left rs a = not (decided_in rs a.txn)

-- the operations of votes behind a step
abbrev pub votes_by : (Asked → Bool) → List Asked → List Record → List Asked
votes_by test votes rs = filter (is_left rs) (with_cast test votes rs)

-- both behind a step
abbrev pub claims_by : (Asked → Bool) → Claims → Option Standing → List Record → List Told → List Packet → Claims
claims_by test was new rs events outs = record {
  standing = standing_by test was.standing new rs events outs;
  votes = votes_by test was.votes rs;
}

-- what a read answers behind one more write of the name
abbrev pub written : Answer → Asked → Answer
written was a = by a.op
  where
    by : Op → Answer
    by (Write key val) = Value val
    by (Read key) = was

-- what a read of the name answers behind one more record, where these are the operations of votes on the name
abbrev pub row_with : List Asked → Answer → Record → Answer
row_with cast was (log.Decision t Commit) = fold written was (filter (λ a. same_txn t a.txn) cast)
row_with cast was _ = was

-- what a read of the name answers behind a step
abbrev pub row_by : List ℕ → Place → List Record → Answer
row_by name was rs = fold (row_with (with_cast (is_on name) was.claims.votes rs)) was.row rs

-- what stands on a name behind a step
abbrev pub place_by : List ℕ → Place → Option Standing → List Record → List Told → List Packet → Place
place_by name was new rs events outs = record {
  claims = claims_by (is_on name) was.claims new rs events outs;
  row = row_by name was rs;
}

-- a record that a step may add to a log: no birth, and no vote and no decision of a transaction that is decided
abbrev pub may_follow : List Record → Record → Bool
may_follow records (log.Birth format site weights rows) = false
may_follow records (log.Vote t ops) = is_undecided t records
may_follow records (log.Decision t dir) = is_undecided t records
may_follow records _ = true

-- so are these records
abbrev pub follow : List Record → List Record → Bool
follow records rs = list_all (may_follow records) rs

-- the lock that is held for an operation that was answered, unless these records decide its transaction
abbrev pub held_by : List Record → Standing → List Lock
held_by rs s = if s.answered && not (decided_in rs s.asked.txn) then lock_for s.asked ∷ [] else []

-- the operation, where it was not answered, unless these records decide its transaction
abbrev pub waits_by : List Record → Standing → List Asked
waits_by rs s = if not s.answered && not (decided_in rs s.asked.txn) then s.asked ∷ [] else []

-- the locks on a name that are held, where these records are made: for operations done and for votes
abbrev pub held_with : List ℕ → List Record → Claims → List Lock
held_with name rs claims = flat_map (held_by rs) claims.standing ++ map lock_for (votes_by (is_on name) claims.votes rs)

-- the operations that wait, where these records are made
abbrev pub waits_with : List Record → Claims → List Asked
waits_with rs claims = flat_map (waits_by rs) claims.standing

-- the lock that an operation waits for, if it waits
abbrev pub wanted_by : List Record → Standing → List Lock
wanted_by rs s = if not s.answered && not (decided_in rs s.asked.txn) then lock_for s.asked ∷ [] else []

-- the locks for which operations wait, where these records are made
abbrev pub wanted_with : List Record → Claims → List Lock
wanted_with rs claims = flat_map (wanted_by rs) claims.standing
