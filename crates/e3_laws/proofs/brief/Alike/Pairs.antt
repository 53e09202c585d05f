-- A step at two places that are alike: what the rules read there is the same, as far as the step is made.
use Rattle.std.proofs.Common.{◌≡◌, ◌==◌, ◌&&◌, ◌++◌, ◌∷◌, [], ℕ, List, refl, sym, ap, ◌∙◌, nat_lt, take, length, fold}
use Rattle.std.specs.List.{flat_map, AllByRecursion as Each}
use Rattle.std.proofs.lemmas.List.{map-append}
use Rattle.e3_types.specs.declared.entries.Input.{Input}
use Rattle.e3_types.specs.declared.locks.Lock.{Lock}
use Rattle.e3_types.specs.declared.records.Record.{Record}
use Rattle.e3_types.specs.declared.transactions.Dir.{Dir}
use Rattle.e3_types.specs.declared.transactions.Dir.TheVariants.{Abort, Commit}
use Rattle.e3_types.specs.declared.transactions.Op.{Op}
use Rattle.e3_types.specs.declared.transactions.Op.TheVariants.{Read, Write}
use Rattle.e3_types.specs.declared.transactions.Txn.{Txn}
use Rattle.e3_types.specs.Locks.{front, lock_grant}
use Rattle.e3_world.specs.declared.lives.Asked.{Asked}
use Rattle.e3_world.specs.declared.lives.At.{At}
use Rattle.e3_world.specs.declared.lives.Made.{Made}
use Rattle.e3_world.specs.declared.lives.Moment.{Moment}
use Rattle.e3_world.specs.Items.{txn_of_record}
use Rattle.e3_world.specs.Logs.{row_value, table_of}
use Rattle.e3_world.specs.Making.{answer_now, asked_on, attempt_now, elected_now, granted, granted_on, grants_after, log_now, may_abort, may_attempt, may_decide, names_of, open_now, own_write, state_now, steps_now}
use Rattle.e3_world.specs.Operations.{done, done_locks, holders, issued, queue, unanswered, waiting}
use Rattle.e3_world.specs.Votes.{yes_votes}
use Rattle.e3_laws.proofs.brief.Lists.{flat_alike}
use Rattle.e3_world.specs.Transactions.{IsFoundByBits}
use Rattle.e3_laws.proofs.brief.Alike.Locks.{LocksAlike, alike_held, front_same, grant_alike, locks_alike}
use Rattle.e3_laws.proofs.brief.Alike.Notes.{NotesAlike, notes_more, notes_open, notes_state}
use Rattle.e3_laws.proofs.brief.Alike.Twins.{Twin, done_locks_twins, done_twins, issued_twins, left, moment, one_more, right, unanswered_twins, waiting_twins, yes_twins}

-- two places with the same input, over logs that say the same and have the same table, behind the same steps
pub record Pair : Type 0 where
  pub weights : List ℕ
  pub site : ℕ
  pub inc : ℕ
  pub mine : List Record
  pub theirs : List Record
  pub notes : NotesAlike mine theirs
  pub table : table_of mine ≡ table_of theirs
  pub known : Each IsFoundByBits (flat_map txn_of_record mine)
  pub known_too : Each IsFoundByBits (flat_map txn_of_record theirs)
  pub steps : List Twin
  pub input : Input

abbrev pub one : Pair → At
one p = record { weights = p.weights; site = p.site; life = record { log = p.mine; inc = p.inc; steps = left p.steps }; input = p.input }

abbrev pub other : Pair → At
other p = record { weights = p.weights; site = p.site; life = record { log = p.theirs; inc = p.inc; steps = right p.steps }; input = p.input }

-- the step as far as it is made
abbrev last : Pair → Made → Twin
last p made = record {
  before = p.mine;
  other = p.theirs;
  same = p.notes;
  step = record { input = p.input; records = made.records; outs = made.outs; told = made.told };
}

pub notes_now : (p : Pair) (made : Made) → NotesAlike (p.mine ++ made.records) (p.theirs ++ made.records)
notes_now p made = notes_more p.mine p.theirs made.records p.notes

-- what is read of the log and this step's records
pub open_same : (p : Pair) (t : Txn) (made : Made) → open_now (one p) t made ≡ open_now (other p) t made
open_same p t made = notes_open (p.mine ++ made.records) (p.theirs ++ made.records) (notes_now p made) t

pub state_same : (p : Pair) (t : Txn) (made : Made) → state_now (one p) t made ≡ state_now (other p) t made
state_same p t made = notes_state (p.mine ++ made.records) (p.theirs ++ made.records) (notes_now p made) t

pub elected_same : (p : Pair) (t : Txn) (made : Made) → elected_now (one p) t made ≡ elected_now (other p) t made
elected_same p t made = (notes_now p made).elected t

pub attempt_same : (p : Pair) (t : Txn) (made : Made) → attempt_now (one p) t made ≡ attempt_now (other p) t made
attempt_same p t made = (notes_now p made).attempt t

pub may_abort_same : (p : Pair) (t : Txn) (made : Made) → may_abort (one p) t made ≡ may_abort (other p) t made
may_abort_same p t made = λ i. t.site == p.site && open_same p t made i && attempt_same p t made i == 0

pub may_decide_same : (p : Pair) (t : Txn) (dir : Dir) (made : Made) → may_decide (one p) t dir made ≡ may_decide (other p) t dir made
may_decide_same p t Abort made = open_same p t made
may_decide_same p t Commit made = λ i. open_same p t made i && (notes_now p made).voted t i

pub may_attempt_same : (p : Pair) (t : Txn) (n : ℕ) (made : Made) → may_attempt (one p) t n made ≡ may_attempt (other p) t n made
may_attempt_same p t n made = λ i. open_same p t made i && elected_same p t made i == n && nat_lt (attempt_same p t made i) n

-- what is read of the steps, this one among them
pub issued_now : (p : Pair) (t : Txn) (made : Made) → issued t (steps_now (one p) made) ≡ issued t (steps_now (other p) made)
issued_now p t made = one_more (issued t) (issued_twins t) p.steps (last p made)

pub done_now : (p : Pair) (t : Txn) (made : Made) → done p.site t (steps_now (one p) made) ≡ done p.site t (steps_now (other p) made)
done_now p t made = one_more (done p.site t) (done_twins p.site t) p.steps (last p made)

pub yes_now : (p : Pair) (t : Txn) (made : Made) → yes_votes t (steps_now (one p) made) ≡ yes_votes t (steps_now (other p) made)
yes_now p t made = one_more (yes_votes t) (yes_twins t) p.steps (last p made)

lefts : (p : Pair) (made : Made) → left (p.steps ++ last p made ∷ []) ≡ steps_now (one p) made
lefts p made = map-append (λ (t : Twin). moment t.before t.step) p.steps (last p made ∷ [])

rights : (p : Pair) (made : Made) → right (p.steps ++ last p made ∷ []) ≡ steps_now (other p) made
rights p made = map-append (λ (t : Twin). moment t.other t.step) p.steps (last p made ∷ [])

pub unanswered_now : (p : Pair) (t : Txn) (made : Made) → unanswered t (log_now (one p) made) (steps_now (one p) made) ≡ unanswered t (log_now (other p) made) (steps_now (other p) made)
unanswered_now p t made =
    ap (λ (l : List Moment). unanswered t (log_now (one p) made) l) (sym (lefts p made))
    ∙ unanswered_twins t (log_now (one p) made) (log_now (other p) made) (notes_now p made) (p.steps ++ last p made ∷ [])
    ∙ ap (λ (l : List Moment). unanswered t (log_now (other p) made) l) (rights p made)

waiting_now : (p : Pair) (made : Made) → waiting p.site (log_now (one p) made) (steps_now (one p) made) ≡ waiting p.site (log_now (other p) made) (steps_now (other p) made)
waiting_now p made =
    ap (λ (l : List Moment). waiting p.site (log_now (one p) made) l) (sym (lefts p made))
    ∙ waiting_twins p.site (log_now (one p) made) (log_now (other p) made) (notes_now p made) (p.steps ++ last p made ∷ [])
    ∙ ap (λ (l : List Moment). waiting p.site (log_now (other p) made) l) (rights p made)

-- the operations that waited before this step, but those of transactions that it decided
pub waits_same : (p : Pair) (made : Made) → waiting p.site (log_now (one p) made) (left p.steps) ≡ waiting p.site (log_now (other p) made) (right p.steps)
waits_same p made = waiting_twins p.site (log_now (one p) made) (log_now (other p) made) (notes_now p made) p.steps

-- the locks that are held, over these steps
holders_of : (p : Pair) (made : Made) (name : List ℕ) (ts : List Twin) →
    LocksAlike (holders p.site name (log_now (one p) made) (left ts)) (holders p.site name (log_now (other p) made) (right ts))
holders_of p made name ts = locks_alike name p.mine p.theirs made.records p.notes p.known p.known_too
    (done_locks p.site name (log_now (one p) made) (left ts)) (done_locks p.site name (log_now (other p) made) (right ts))
    (done_locks_twins p.site name (log_now (one p) made) (log_now (other p) made) (notes_now p made) ts)

-- what the lock rule says of a request
pub grant_same : (p : Pair) (made : Made) (name : List ℕ) (wanted : Lock) →
    lock_grant wanted (holders p.site name (log_now (one p) made) (left p.steps)) (queue name (waiting p.site (log_now (one p) made) (left p.steps)))
    ≡ lock_grant wanted (holders p.site name (log_now (other p) made) (right p.steps)) (queue name (waiting p.site (log_now (other p) made) (right p.steps)))
grant_same p made name wanted =
    grant_alike wanted (holders p.site name (log_now (one p) made) (left p.steps)) (holders p.site name (log_now (other p) made) (right p.steps))
    (queue name (waiting p.site (log_now (one p) made) (left p.steps))) (holders_of p made name p.steps)
    ∙ ap (λ (l : List Asked). lock_grant wanted (holders p.site name (log_now (other p) made) (right p.steps)) (queue name l)) (waits_same p made)

-- the requests that are granted where a decision has freed locks
held_now : (p : Pair) (made : Made) (name : List ℕ) (q : List Lock) →
    front (holders p.site name (log_now (one p) made) (steps_now (one p) made)) q ≡ front (holders p.site name (log_now (other p) made) (steps_now (other p) made)) q
held_now p made name q =
    ap (λ (l : List Moment). front (holders p.site name (log_now (one p) made) l) q) (sym (lefts p made))
    ∙ front_same (holders p.site name (log_now (one p) made) (left ts)) (holders p.site name (log_now (other p) made) (right ts))
    (alike_held (holders p.site name (log_now (one p) made) (left ts)) (holders p.site name (log_now (other p) made) (right ts)) (holders_of p made name ts)) q
    ∙ ap (λ (l : List Moment). front (holders p.site name (log_now (other p) made) l) q) (rights p made)
  where
    ts : List Twin
    ts = p.steps ++ last p made ∷ []

granted_same : (p : Pair) (made : Made) (asked : List Asked) (name : List ℕ) → granted_on (one p) made asked name ≡ granted_on (other p) made asked name
granted_same p made asked name = ap (λ (l : List Lock). take (length l) (asked_on name asked)) (held_now p made name (queue name (asked_on name asked)))

pub grants_same : (p : Pair) (made : Made) → grants_after (one p) made ≡ grants_after (other p) made
grants_same p made =
    ap (λ (l : List Asked). granted (one p) made l) (waiting_now p made)
    ∙ flat_alike (granted_on (one p) made asked) (granted_on (other p) made asked) (granted_same p made asked) (names_of asked)
  where
    asked : List Asked
    asked = waiting p.site (log_now (other p) made) (steps_now (other p) made)

-- the table with this step's records is the same, and so is an answer
abbrev pub SameTable : Pair → List Record → Type 0
SameTable p records = table_of (p.mine ++ records) ≡ table_of (p.theirs ++ records)

pub answer_same : (p : Pair) (t : Txn) (op : Op) (made : Made) → SameTable p made.records → answer_now (one p) t op made ≡ answer_now (other p) t op made
answer_same p t (Write key val) made table = refl
answer_same p t (Read key) made table = λ i. fold (own_write key.name) (row_value key.name (table i)) (done_now p t made i)
