-- Operations of transactions at a site, read off its steps of the present incarnation.
use Rattle.e3_world.specs.declared.lives.Performed.{Performed}
use Rattle.e3_world.specs.declared.lives.Moment.{Moment}
use Rattle.e3_world.specs.declared.lives.Asked.{Asked}
use Rattle.e3_world.specs.declared.lives.Expected.{Expected}
use Rattle.std.specs.Prelude.{◌==◌, ◌&&◌, ◌++◌, ◌∷◌, [], if◌then◌else◌, ℕ, zero, suc, Bool, true, false, not, List, length, fold, filter, Option, Some, None, slice_get}
use Rattle.std.specs.List.{list_any, flat_map}
use Rattle.e3_types.specs.declared.transactions.Answer.{Answer}
use Rattle.e3_types.specs.declared.entries.Input.{Input}
use Rattle.e3_types.specs.declared.locks.Lock.{Lock}
use Rattle.e3_types.specs.declared.messages.Message.{Message}
use Rattle.e3_types.specs.declared.locks.Mode.{Mode}
use Rattle.e3_types.specs.declared.locks.Mode.TheVariants.{Exclusive}
use Rattle.e3_types.specs.declared.transactions.Op.{Op}
use Rattle.e3_types.specs.declared.messages.Packet.{Packet}
use Rattle.e3_types.specs.declared.records.Record.{Record}
use Rattle.e3_types.specs.declared.entries.Refusal.{Refusal}
use Rattle.e3_types.specs.declared.transactions.State.TheVariants.{Q}
use Rattle.e3_types.specs.declared.entries.Told.{Told}
use Rattle.e3_types.specs.declared.transactions.Txn.{Txn}
use Rattle.e3_types.specs.declared.entries.Input.TheVariants as input
use Rattle.e3_types.specs.declared.messages.Message.TheVariants as msg
use Rattle.e3_types.specs.declared.entries.Refusal.TheVariants as refusal
use Rattle.e3_types.specs.declared.entries.Told.TheVariants as told
use Rattle.e3_types.specs.Same.{same_txn, same_state}
use Rattle.e3_world.specs.Logs.{state_of, is_undecided, key_of, lock_on, voted_locks}

-- the event is a refusal
abbrev pub is_refusal : Told → Bool
is_refusal (told.Refused t why) = true
is_refusal _ = false

-- the operation that a Do input of the transaction issued, unless it was refused
abbrev pub issued_in : Txn → Input → List Told → List Op
issued_in t (input.Do u op) events = if same_txn t u && not (list_any is_refusal events) then op ∷ [] else []
issued_in t _ events = []

-- the operations of a transaction that these steps of its coordinator issued; the n-th has number n. They are all of
-- one incarnation: in a later one an undecided transaction is refused
abbrev pub issued : Txn → List Moment → List Op
issued t steps = flat_map (λ m. issued_in t m.input m.told) steps

-- the n-th of these operations
abbrev pub nth_op : ℕ → List Op → Option Op
nth_op zero ops = None
nth_op (suc n) ops = slice_get ops n

-- the operation that a step takes up at its site: that of a Do packet, or of a Do input for a key of its own
abbrev pub taken_up : ℕ → List Moment → Moment → Option Asked
taken_up site steps m = by m.input
  where
    by_msg : Message → Option Asked
    by_msg (msg.Do t n op) = Some (record { txn = t; n = n; op = op })
    by_msg _ = None

    by_op : Txn → Op → List Op → Option Asked
    by_op t op [] = None
    by_op t op (o ∷ os) =
        if (key_of op).site == site then Some (record { txn = t; n = suc (length (issued t steps)); op = op }) else None

    by : Input → Option Asked
    by (input.Deliver packet) = by_msg packet.msg
    by (input.Do t op) = by_op t op (issued_in t m.input m.told)
    by _ = None

-- the two are the same operation
abbrev pub same_asked : Asked → Asked → Bool
same_asked a b = a.n == b.n && same_txn a.txn b.txn

-- the operations that steps took up while their transactions were in q, in the order of their first arrival
pub record Arrived : Type 0 where
  pub steps : List Moment
  pub asked : List Asked

-- the operation is taken up now: its transaction is in q before the step, and it did not come before
abbrev pub is_fresh : List Asked → Moment → Asked → Bool
is_fresh asked m a = same_state (state_of a.txn m.before) Q && not (list_any (same_asked a) asked)

-- the arrivals with that of one more step
abbrev pub and_arrived : List Asked → Moment → Option Asked → List Asked
and_arrived asked m None = asked
and_arrived asked m (Some a) = if is_fresh asked m a then asked ++ a ∷ [] else asked

-- the arrivals behind one more step
abbrev pub arrived_by : ℕ → Arrived → Moment → Arrived
arrived_by site was m = record {
  steps = was.steps ++ m ∷ [];
  asked = and_arrived was.asked m (taken_up site was.steps m);
}

-- the operations that came to a site, each once, in the order of arrival
abbrev pub arrivals : ℕ → List Moment → List Asked
arrivals site steps = (fold (arrived_by site) (record { steps = []; asked = [] }) steps).asked

-- the answer to an operation that a step shows: an Op told (at the coordinator), or a Done packet
abbrev pub answer_told : Asked → Told → List Answer
answer_told a (told.Op t n answer) = if a.n == n && same_txn a.txn t then answer ∷ [] else []
answer_told a _ = []

-- the answer to an operation in a Done packet
abbrev pub answer_sent : Asked → Packet → List Answer
answer_sent a packet = by packet.msg
  where
    by : Message → List Answer
    by (msg.Done t n inc answer) = if a.n == n && same_txn a.txn t then answer ∷ [] else []
    by _ = []

-- all answers to an operation that these steps show
abbrev pub answers : Asked → List Moment → List Answer
answers a steps = flat_map (λ m. flat_map (answer_told a) m.told ++ flat_map (answer_sent a) m.outs) steps

-- the operation was answered in these steps
abbrev pub is_answered : List Moment → Asked → Bool
is_answered steps a = by (answers a steps)
  where
    by : List Answer → Bool
    by [] = false
    by (answer ∷ more) = true

-- the operation with its first answer, if it was answered
abbrev pub performed_by : List Moment → Asked → List Performed
performed_by steps a = by (answers a steps)
  where
    by : List Answer → List Performed
    by [] = []
    by (answer ∷ more) = record { n = a.n; op = a.op; answer = answer } ∷ []

-- the operations of a transaction that the site answered in its present incarnation
abbrev pub done : ℕ → Txn → List Moment → List Performed
done site t steps = flat_map (performed_by steps) (filter (λ a. same_txn t a.txn) (arrivals site steps))

-- the operations of undecided transactions that are not done, in the order of arrival
abbrev pub waiting : ℕ → List Record → List Moment → List Asked
waiting site records steps =
    filter (λ a. is_undecided a.txn records && not (is_answered steps a)) (arrivals site steps)

-- the locks on a name of the operations that were done for undecided transactions
abbrev pub done_locks : ℕ → List ℕ → List Record → List Moment → List Lock
done_locks site name records steps =
    flat_map (λ a. lock_on name a.txn a.op)
    (filter (λ a. is_undecided a.txn records && is_answered steps a) (arrivals site steps))

-- the locks on a name that are held: for operations done and for votes, of undecided transactions
abbrev pub holders : ℕ → List ℕ → List Record → List Moment → List Lock
holders site name records steps = done_locks site name records steps ++ voted_locks name records

-- the stronger of the mode so far and that of one more lock
abbrev pub stronger : Option Mode → Lock → Option Mode
stronger (Some Exclusive) l = Some Exclusive
stronger _ l = Some l.mode

-- the mode in which a transaction holds a name, if it does
abbrev pub holds : ℕ → Txn → List ℕ → List Record → List Moment → Option Mode
holds site t name records steps = fold stronger None (filter (λ l. same_txn t l.txn) (holders site name records steps))

-- the locks on a name for which operations wait, the first arrival first
abbrev pub queue : List ℕ → List Asked → List Lock
queue name asked = flat_map (λ a. lock_on name a.txn a.op) asked

-- the event answers this operation to the client
abbrev pub tells_op : Txn → ℕ → Told → Bool
tells_op t n (told.Op u m answer) = n == m && same_txn t u
tells_op t n _ = false

-- an Op told answers the operation
abbrev pub op_told : Txn → ℕ → List Moment → Bool
op_told t n steps = list_any (λ m. list_any (tells_op t n) m.told) steps

-- the operation that is unanswered: the last issued, where no Op told answers it and the transaction is undecided
abbrev pub unanswered : Txn → List Record → List Moment → Option ℕ
unanswered t records steps = by (length (issued t steps))
  where
    by : ℕ → Option ℕ
    by zero = None
    by (suc n) = if is_undecided t records && not (op_told t (suc n) steps) then Some (suc n) else None

-- what is expected of another site behind a message of it: a Done counts where these events tell its answer as an Op
abbrev pub expected_with : Txn → Expected → List Told → Message → Expected
expected_with t was events (msg.Done u n inc answer) =
    if same_txn t u && list_any (tells_op t n) events then record { inc = inc; count = suc was.count } else was
expected_with t was events _ = was

-- what is expected of another site behind one more step
abbrev pub expected_by : Txn → ℕ → Expected → Moment → Expected
expected_by t site was m = by m.input
  where
    by : Input → Expected
    by (input.Deliver packet) = if packet.«from» == site then expected_with t was m.told packet.msg else was
    by _ = was

-- what is expected of a site; the coordinator's own answers count with its present incarnation
abbrev pub expected : ℕ → ℕ → Txn → List Moment → ℕ → Expected
expected own inc t steps site =
    if own == site then own_answers (done own t steps)
    else fold (expected_by t site) (record { inc = 0; count = 0 }) steps
  where
    own_answers : List Performed → Expected
    own_answers [] = record { inc = 0; count = 0 }
    own_answers (p ∷ ps) = record { inc = inc; count = length (p ∷ ps) }

-- the reason that is kept: the Died or Doomed that was told
abbrev pub reason_in : Txn → Told → List Refusal
reason_in t (told.Died u older) = if same_txn t u then refusal.Died older ∷ [] else []
reason_in t (told.Doomed u site had now) = if same_txn t u then refusal.Doomed site had now ∷ [] else []
reason_in t _ = []

-- the reasons told; where there is one, it is the first
abbrev pub kept_reason : Txn → List Moment → List Refusal
kept_reason t steps = flat_map (λ m. flat_map (reason_in t) m.told) steps
