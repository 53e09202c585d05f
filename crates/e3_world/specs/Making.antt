-- How a step of a site is put together: what is read at the site, and what a rule adds to the step.
use Rattle.e3_world.specs.declared.lives.Performed.{Performed}
use Rattle.e3_world.specs.declared.lives.Moment.{Moment}
use Rattle.e3_world.specs.declared.lives.Made.{Made}
use Rattle.e3_world.specs.declared.lives.At.{At}
use Rattle.e3_world.specs.declared.lives.Asked.{Asked}
use Rattle.std.specs.Prelude.{◌==◌, ◌&&◌, ◌++◌, ◌∷◌, [], if◌then◌else◌, ℕ, nat_lt, Bool, true, false, List, length, fold, map, filter, take, drop}
use Rattle.std.specs.List.{list_any, flat_map}
use Rattle.std.specs.Ordering.{nat_cmp, match_ordering}
use Rattle.std.specs.Cmp.Lexicographic.{slice_cmp}
use Rattle.e3_types.specs.declared.transactions.Answer.{Answer}
use Rattle.e3_types.specs.declared.transactions.Answer.TheVariants.{Value, Written}
use Rattle.e3_types.specs.declared.transactions.Dir.{Dir}
use Rattle.e3_types.specs.declared.transactions.Dir.TheVariants.{Abort, Commit}
use Rattle.e3_types.specs.declared.messages.Message.{Message}
use Rattle.e3_types.specs.declared.transactions.Op.{Op}
use Rattle.e3_types.specs.declared.transactions.Op.TheVariants.{Read, Write}
use Rattle.e3_types.specs.declared.records.Record.{Record}
use Rattle.e3_types.specs.declared.transactions.State.{State}
use Rattle.e3_types.specs.declared.entries.Told.{Told}
use Rattle.e3_types.specs.declared.transactions.Txn.{Txn}
use Rattle.e3_types.specs.declared.records.Record.TheVariants as log
use Rattle.e3_types.specs.declared.messages.Message.TheVariants as msg
use Rattle.e3_types.specs.declared.entries.Told.TheVariants as told
use Rattle.e3_types.specs.Locks.{front}
use Rattle.e3_types.specs.Quorums.{is_quorum}
use Rattle.e3_types.specs.Same.{same_numbers}
use Rattle.e3_types.specs.Sets.{others}
use Rattle.e3_world.specs.Logs.{last_elected, last_attempt, has_voted, state_of, is_undecided, table_of, row_value, key_of}
use Rattle.e3_world.specs.Operations.{done, waiting, holders, queue}

-- a step that made nothing yet
abbrev pub nothing : Made
nothing = record { records = []; outs = []; told = []; own = [] }

-- the log with this step's own records
abbrev pub log_now : At → Made → List Record
log_now a made = a.life.log ++ made.records

-- the steps of the incarnation with this one, as far as it is made
abbrev pub steps_now : At → Made → List Moment
steps_now a made =
    a.life.steps ++ record { before = a.life.log; input = a.input; records = made.records; outs = made.outs; told = made.told } ∷ []

-- the state of a transaction with this step's records
abbrev pub state_now : At → Txn → Made → State
state_now a t made = state_of t (log_now a made)

-- the transaction is undecided with this step's records
abbrev pub open_now : At → Txn → Made → Bool
open_now a t made = is_undecided t (log_now a made)

-- Last_Elected with this step's records
abbrev pub elected_now : At → Txn → Made → ℕ
elected_now a t made = last_elected t (log_now a made)

-- Last_Attempt with this step's records
abbrev pub attempt_now : At → Txn → Made → ℕ
attempt_now a t made = last_attempt t (log_now a made)

-- the site is the transaction's coordinator
abbrev pub is_coordinator : At → Txn → Bool
is_coordinator a t = t.site == a.site

-- the transaction is of the present incarnation
abbrev pub is_present : At → Txn → Bool
is_present a t = t.inc == a.life.inc

-- the coordinator may abort: it is undecided and has attempted nothing
abbrev pub may_abort : At → Txn → Made → Bool
may_abort a t made = is_coordinator a t && open_now a t made && attempt_now a t made == 0

-- a decision may be recorded: none is, and a commit needs the vote
abbrev pub may_decide : At → Txn → Dir → Made → Bool
may_decide a t Abort made = open_now a t made
may_decide a t Commit made = open_now a t made && has_voted t (log_now a made)

-- an attempt may be recorded: the site is undecided, joined this number last, and has not attempted it
abbrev pub may_attempt : At → Txn → ℕ → Made → Bool
may_attempt a t n made = open_now a t made && elected_now a t made == n && nat_lt (attempt_now a t made) n

-- one more record
abbrev pub and_record : Record → Made → Made
and_record r made = record made { records = made.records ++ r ∷ [] }

-- one more event is told
abbrev pub and_tell : Told → Made → Made
and_tell e made = record made { told = made.told ++ e ∷ [] }

-- a message to a site: a packet, or one that waits in this step where it is the site itself
abbrev pub and_send : At → ℕ → Message → Made → Made
and_send a to m made =
    if to == a.site then record made { own = made.own ++ m ∷ [] }
    else record made { outs = made.outs ++ record { number = 0; «from» = a.site; to = to; msg = m } ∷ [] }

-- a message to all of these sites but the own one, in ascending order
abbrev pub and_cast : At → List ℕ → Message → Made → Made
and_cast a sites m made = fold (λ so_far to. and_send a to m so_far) made (others a.site sites)

-- a decision is recorded; the coordinator of the present incarnation tells it
abbrev pub and_decide : At → Txn → Dir → Made → Made
and_decide a t dir made =
    tell (is_coordinator a t && is_present a t) (and_record (log.Decision t dir) made)
  where
    tell : Bool → Made → Made
    tell true more = and_tell (told.Ended t dir) more
    tell false more = more

-- the coordinator aborts and sends the abort to all other sites
abbrev pub and_abort : At → Txn → Made → Made
and_abort a t made = and_cast a t.sites (msg.Decide t Abort) (and_decide a t Abort made)

-- the coordinator aborts, tells this reason in place of the end, and sends the abort to all other sites
abbrev pub and_abort_for : At → Txn → Told → Made → Made
and_abort_for a t why made =
    and_cast a t.sites (msg.Decide t Abort) (and_tell why (and_record (log.Decision t Abort) made))

-- behind an attempt: the decision at once where the site is a quorum by itself, else the pre-decision, to these sites
abbrev pub go_on : At → Txn → ℕ → Dir → List ℕ → Made → Made
go_on a t n dir to made = by (is_quorum a.weights (a.site ∷ []) t.sites)
  where
    by : Bool → Made
    by true = and_cast a to (msg.Decide t dir) (and_decide a t dir made)
    by false = and_cast a to (msg.Pre t n dir) made

-- an attempt of the site's own round
abbrev pub and_attempt : At → Txn → ℕ → Dir → List ℕ → Made → Made
and_attempt a t n dir to made = by (may_attempt a t n made)
  where
    by : Bool → Made
    by true = go_on a t n dir to (and_record (log.Attempt t n dir) made)
    by false = made

-- the vote, with the operations that the site has done
abbrev pub and_vote : At → Txn → Made → Made
and_vote a t made =
    and_record (log.Vote t (map (λ p. record { n = p.n; op = p.op }) (done a.site t a.life.steps))) made

-- what a name reads behind an operation of its transaction: a write of the name sets it, all else leaves it
abbrev pub read_of : List ℕ → Answer → Op → Answer
read_of name was (Write key val) = if same_numbers name key.name then Value val else was
read_of name was (Read key) = was

-- what a read answers: the transaction's own last write of the name here, else the row, else absent
abbrev pub own_write : List ℕ → Answer → Performed → Answer
own_write name was p = read_of name was p.op

-- the answer to an operation that is done now
abbrev pub answer_now : At → Txn → Op → Made → Answer
answer_now a t (Write key val) made = Written
answer_now a t (Read key) made =
    fold (own_write key.name) (row_value key.name (table_of (log_now a made))) (done a.site t (steps_now a made))

-- the operation is done, and its answer goes to the coordinator
abbrev pub and_do : At → Txn → ℕ → Op → Made → Made
and_do a t n op made = and_send a t.site (msg.Done t n a.life.inc (answer_now a t op made)) made

-- the names with one more, each once, in byte order
abbrev pub add_name : List (List ℕ) → List ℕ → List (List ℕ)
add_name [] new = new ∷ []
add_name (name ∷ names) new =
    match_ordering (slice_cmp nat_cmp new name) (new ∷ name ∷ names) (name ∷ names) (name ∷ add_name names new)

-- the names on which these operations are, each once, in byte order
abbrev pub names_of : List Asked → List (List ℕ)
names_of asked = fold (λ names a. add_name names (key_of a.op).name) [] asked

-- the operations that are on a name
abbrev pub asked_on : List ℕ → List Asked → List Asked
asked_on name asked = filter (λ q. same_numbers name (key_of q.op).name) asked

-- the requests on a name that are granted: the longest front of its queue that the other holders allow
abbrev pub granted_on : At → Made → List Asked → List ℕ → List Asked
granted_on a made asked name =
    take (length (front (holders a.site name (log_now a made) (steps_now a made)) (queue name (asked_on name asked)))) (asked_on name asked)

-- the requests that are granted among those that wait, name by name
abbrev pub granted : At → Made → List Asked → List Asked
granted a made asked = flat_map (granted_on a made asked) (names_of asked)

-- the requests that are granted now, where a decision has freed locks
abbrev pub grants_after : At → Made → List Asked
grants_after a made = granted a made (waiting a.site (log_now a made) (steps_now a made))

-- the record is a decision
abbrev pub decides : Record → Bool
decides (log.Decision t dir) = true
decides _ = false

-- a granted request is done
abbrev pub and_grant : At → Made → Asked → Made
and_grant a so_far q = and_do a q.txn q.n q.op so_far

-- where a rule recorded a decision behind the first so many records, the requests that this grants are done, behind
-- the rule's own messages
abbrev pub and_grants : At → ℕ → Made → Made
and_grants a seen made = by (list_any decides (drop seen made.records))
  where
    by : Bool → Made
    by true = fold (and_grant a) made (grants_after a made)
    by false = made
