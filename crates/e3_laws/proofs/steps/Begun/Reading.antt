-- What is read off a site mentions only what its steps and its log mention.
use Rattle.std.proofs.Common.{◌≡◌, ◌==◌, ◌&&◌, ◌++◌, ◌∷◌, [], ℕ, suc, Bool, true, false, List, Option, Some, None, refl, filter, fold, length, map, if◌then◌else◌}
use Rattle.std.specs.declared.cmp.Ordering.{Ordering}
use Rattle.std.specs.declared.cmp.Ordering.TheVariants.{Less, Equal, Greater}
use Rattle.std.specs.List.{list_all, flat_map, AllByRecursion as Each}
use Rattle.std.specs.Ordering.{nat_cmp, match_ordering}
use Rattle.std.specs.Cmp.Lexicographic.{slice_cmp}
use Rattle.e3_types.specs.declared.entries.Input.{Input}
use Rattle.e3_types.specs.declared.entries.Input.TheVariants as input
use Rattle.e3_types.specs.declared.entries.Refusal.{Refusal}
use Rattle.e3_types.specs.declared.entries.Told.{Told}
use Rattle.e3_types.specs.declared.entries.Told.TheVariants as told
use Rattle.e3_types.specs.declared.locks.Grant.{Grant}
use Rattle.e3_types.specs.declared.locks.Grant.TheVariants.{Held, Waits, Dies}
use Rattle.e3_types.specs.declared.locks.Lock.{Lock}
use Rattle.e3_types.specs.declared.messages.Message.{Message}
use Rattle.e3_types.specs.declared.messages.Message.TheVariants as msg
use Rattle.e3_types.specs.declared.messages.Packet.{Packet}
use Rattle.e3_types.specs.declared.records.Record.{Record}
use Rattle.e3_types.specs.declared.records.Record.TheVariants as log
use Rattle.e3_types.specs.declared.scenarios.KeyRow.{KeyRow}
use Rattle.e3_types.specs.declared.transactions.Answer.{Answer}
use Rattle.e3_types.specs.declared.transactions.Answer.TheVariants.{Value}
use Rattle.e3_types.specs.declared.transactions.Dir.TheVariants.{Abort, Commit}
use Rattle.e3_types.specs.declared.transactions.NumOp.{NumOp}
use Rattle.e3_types.specs.declared.transactions.Op.{Op}
use Rattle.e3_types.specs.declared.transactions.Op.TheVariants.{Read, Write}
use Rattle.e3_types.specs.declared.transactions.Row.{Row}
use Rattle.e3_types.specs.declared.transactions.Txn.{Txn}
use Rattle.e3_types.specs.Locks.{is_covered, opposes, against, grant_against, lock_grant}
use Rattle.e3_types.specs.Same.{same_numbers, same_txn, is_older, oldest}
use Rattle.e3_world.specs.declared.lives.Asked.{Asked}
use Rattle.e3_world.specs.declared.lives.Moment.{Moment}
use Rattle.e3_world.specs.declared.lives.Performed.{Performed}
use Rattle.e3_world.specs.Logs.{key_of, is_undecided, ops_of_vote, voted_ops, set_row, install_op, table_by, table_of, row_value, lock_on, vote_locks, voted_locks, mode_of}
use Rattle.e3_world.specs.Making.{own_write}
use Rattle.e3_world.specs.Moves.{rows_at}
use Rattle.e3_world.specs.Operations.{Arrived, taken_up, and_arrived, is_fresh, arrived_by, arrivals, issued, issued_in, answer_told, answer_sent, answers, is_answered, performed_by, done, done_locks, holders, queue, reason_in, kept_reason}
use Rattle.e3_laws.proofs.steps.Each.{each-append, each-push, each-filter, each-flat, each-map, IfAny}
use Rattle.e3_laws.specs.steps.Mentions.{Mention, OfTxn, OfVal, of_op, of_answer, of_message, of_input, of_record, of_refusal, of_event}
use Rattle.e3_laws.proofs.steps.Begun.Lists.{each-unmap, each-unflat, each-if}

-- an operation, an answer, a record, a packet, an event, a row and a lock that mention only what may be mentioned
abbrev pub OpIs : (Mention → Type 0) → Op → Type 0
OpIs P op = Each P (of_op op)

abbrev pub AnswerIs : (Mention → Type 0) → Answer → Type 0
AnswerIs P answer = Each P (of_answer answer)

abbrev pub RecordIs : (Mention → Type 0) → Record → Type 0
RecordIs P r = Each P (of_record r)

abbrev pub MessageIs : (Mention → Type 0) → Message → Type 0
MessageIs P m = Each P (of_message m)

abbrev pub PacketIs : (Mention → Type 0) → Packet → Type 0
PacketIs P p = Each P (of_message p.msg)

abbrev pub EventIs : (Mention → Type 0) → Told → Type 0
EventIs P e = Each P (of_event e)

abbrev pub RefusalIs : (Mention → Type 0) → Refusal → Type 0
RefusalIs P why = Each P (of_refusal why)

abbrev pub RowIs : (Mention → Type 0) → Row → Type 0
RowIs P row = P (OfVal row.val)

abbrev pub LockIs : (Mention → Type 0) → Lock → Type 0
LockIs P l = P (OfTxn l.txn)

-- an operation that came to a site
abbrev pub AskedIs : (Mention → Type 0) → Asked → Type 0
AskedIs P q = P (OfTxn q.txn) × OpIs P q.op

-- a step: what it took, sent and told
pub record MomentIs (P : Mention → Type 0) (m : Moment) : Type 0 where
  pub input : Each P (of_input m.input)
  pub outs : Each (PacketIs P) m.outs
  pub told : Each (EventIs P) m.told

-- what came to a site
abbrev pub InputIs : (Mention → Type 0) → Moment → Type 0
InputIs P m = Each P (of_input m.input)

taken_is : (P : Mention → Type 0) (site : ℕ) (steps : List Moment) (m : Moment) → InputIs P m → IfAny (AskedIs P) (taken_up site steps m)
taken_is P site steps m all = by m.input refl all
  where
    said : (x : Message) (p : Packet) → m.input ≡ input.Deliver p → p.msg ≡ x → MessageIs P x → IfAny (AskedIs P) (taken_up site steps m)
    said (msg.Do t n op) p is same mentions = rw (is, same) mentions
    said x p is same mentions = rw (is, same) tt

    own : (t : Txn) (op : Op) (l : List Op) → m.input ≡ input.Do t op → issued_in t (input.Do t op) m.told ≡ l → Each P (of_input (input.Do t op)) →
        IfAny (AskedIs P) (taken_up site steps m)
    own t op [] is some mentions = rw (is, some) tt
    own t op (o ∷ os) is some mentions = rw (is, some) (here ((key_of op).site == site) refl)
      where
        here : (b : Bool) → ((key_of op).site == site) ≡ b →
            IfAny (AskedIs P) (if (key_of op).site == site then Some (record { txn = t; n = suc (length (issued t steps)); op = op }) else None)
        here true at = rw at mentions
        here false at = rw at tt

    by : (i : Input) → m.input ≡ i → Each P (of_input i) → IfAny (AskedIs P) (taken_up site steps m)
    by (input.Deliver p) is mentions = said p.msg p is refl mentions
    by (input.Do t op) is mentions = own t op (issued_in t (input.Do t op) m.told) is refl mentions
    by i is mentions = rw is tt

arrived_all : (P : Mention → Type 0) (asked : List Asked) (m : Moment) (o : Option Asked) → Each (AskedIs P) asked → IfAny (AskedIs P) o →
    Each (AskedIs P) (and_arrived asked m o)
arrived_all P asked m None all this = all
arrived_all P asked m (Some q) all this = by (is_fresh asked m q)
  where
    by : (b : Bool) → Each (AskedIs P) (if b then asked ++ q ∷ [] else asked)
    by true = each-push (AskedIs P) asked q all this
    by false = all

arrived_fold : (P : Mention → Type 0) (site : ℕ) (was : Arrived) (steps : List Moment) → Each (AskedIs P) was.asked → Each (InputIs P) steps →
    Each (AskedIs P) (fold (arrived_by site) was steps).asked
arrived_fold P site was [] all came = all
arrived_fold P site was (m ∷ steps) all came = arrived_fold P site (arrived_by site was m) steps
    (arrived_all P was.asked m (taken_up site was.steps m) all (taken_is P site was.steps m came.0)) came.1

pub arrivals_are : (P : Mention → Type 0) (site : ℕ) (steps : List Moment) → Each (InputIs P) steps → Each (AskedIs P) (arrivals site steps)
arrivals_are P site steps came = arrived_fold P site (record { steps = []; asked = [] }) steps tt came

-- what a site has done
abbrev pub DoneIs : (Mention → Type 0) → Performed → Type 0
DoneIs P p = OpIs P p.op

performed_is : (P : Mention → Type 0) (steps : List Moment) (q : Asked) → AskedIs P q → Each (DoneIs P) (performed_by steps q)
performed_is P steps q this = by (answers q steps) refl
  where
    by : (l : List Answer) → answers q steps ≡ l → Each (DoneIs P) (performed_by steps q)
    by [] is = rw is tt
    by (x ∷ xs) is = rw is (this.1, tt)

pub done_is : (P : Mention → Type 0) (site : ℕ) (t : Txn) (steps : List Moment) → Each (InputIs P) steps → Each (DoneIs P) (done site t steps)
done_is P site t steps came =
    each-flat (AskedIs P) (DoneIs P) (performed_by steps) (λ q this. performed_is P steps q this) (filter (λ q. same_txn t q.txn) (arrivals site steps))
    (each-filter (AskedIs P) (λ q. same_txn t q.txn) (arrivals site steps) (arrivals_are P site steps came))

-- the operations of a vote
pub vote_is : (P : Mention → Type 0) (site : ℕ) (t : Txn) (steps : List Moment) → Each (InputIs P) steps →
    Each P (flat_map (λ (o : NumOp). of_op o.op) (map (λ p. record { n = p.n; op = p.op }) (done site t steps)))
vote_is P site t steps came =
    each-flat (λ o. OpIs P o.op) P (λ o. of_op o.op) (λ o this. this) (map (λ p. record { n = p.n; op = p.op }) (done site t steps))
    (each-map (λ o. OpIs P o.op) (λ p. record { n = p.n; op = p.op }) (done site t steps) (done_is P site t steps came))

-- rows
set_is : (P : Mention → Type 0) (new : Row) (rows : List Row) → RowIs P new → Each (RowIs P) rows → Each (RowIs P) (set_row new rows)
set_is P new [] this all = (this, tt)
set_is P new (row ∷ rows) this all = by (slice_cmp nat_cmp new.name row.name) (set_is P new rows this all.1)
  where
    by : (o : Ordering) → Each (RowIs P) (set_row new rows) → Each (RowIs P) (match_ordering o (new ∷ row ∷ rows) (new ∷ rows) (row ∷ set_row new rows))
    by Less more = (this, all)
    by Equal more = (this, all.1)
    by Greater more = (all.0, more)

install_is : (P : Mention → Type 0) (rows : List Row) (n : ℕ) (op : Op) → Each (RowIs P) rows → OpIs P op → Each (RowIs P) (install_op rows (record { n = n; op = op }))
install_is P rows n (Read key) all this = all
install_is P rows n (Write key val) all this = set_is P (record { name = key.name; val = val }) rows this.0 all

installs_are : (P : Mention → Type 0) (rows : List Row) (ops : List NumOp) → Each (RowIs P) rows → Each (λ o. OpIs P o.op) ops → Each (RowIs P) (fold install_op rows ops)
installs_are P rows [] all these = all
installs_are P rows (o ∷ ops) all these = installs_are P (install_op rows o) ops (install_is P rows o.n o.op all these.0) these.1

voted_in : (P : Mention → Type 0) (t : Txn) (r : Record) → RecordIs P r → Each (λ o. OpIs P o.op) (ops_of_vote t r)
voted_in P t (log.Vote u ops) this = each-if (λ o. OpIs P o.op) (same_txn t u) ops (each-unflat P (λ o. of_op o.op) ops this.1)
voted_in P t r this = tt

voted_are : (P : Mention → Type 0) (t : Txn) (records : List Record) → Each (RecordIs P) records → Each (λ o. OpIs P o.op) (voted_ops t records)
voted_are P t records all = each-flat (RecordIs P) (λ o. OpIs P o.op) (ops_of_vote t) (λ r this. voted_in P t r this) records all

table_one : (P : Mention → Type 0) (records : List Record) (rows : List Row) (r : Record) → Each (RecordIs P) records → Each (RowIs P) rows → RecordIs P r →
    Each (RowIs P) (table_by records rows r)
table_one P records rows (log.Birth format site weights born) all these this = each-unmap P (λ row. OfVal row.val) born this
table_one P records rows (log.Decision t Commit) all these this = installs_are P rows (voted_ops t records) these (voted_are P t records all)
table_one P records rows (log.Decision t Abort) all these this = these
table_one P records rows (log.Inc inc) all these this = these
table_one P records rows (log.Vote t ops) all these this = these
table_one P records rows (log.Join t n) all these this = these
table_one P records rows (log.Attempt t n dir) all these this = these

table_from : (P : Mention → Type 0) (records : List Record) (rows : List Row) (rs : List Record) → Each (RecordIs P) records → Each (RowIs P) rows → Each (RecordIs P) rs →
    Each (RowIs P) (fold (table_by records) rows rs)
table_from P records rows [] all these more = these
table_from P records rows (r ∷ rs) all these more = table_from P records (table_by records rows r) rs all (table_one P records rows r all these more.0) more.1

pub table_is : (P : Mention → Type 0) (records : List Record) → Each (RecordIs P) records → Each (RowIs P) (table_of records)
table_is P records all = table_from P records [] records all tt all

pub value_is : (P : Mention → Type 0) (name : List ℕ) (rows : List Row) → Each (RowIs P) rows → AnswerIs P (row_value name rows)
value_is P name [] all = tt
value_is P name (row ∷ rows) all = by (same_numbers name row.name) (value_is P name rows all.1)
  where
    by : (b : Bool) → AnswerIs P (row_value name rows) → AnswerIs P (if b then Value row.val else row_value name rows)
    by true more = (all.0, tt)
    by false more = more

own_is : (P : Mention → Type 0) (name : List ℕ) (was : Answer) (n : ℕ) (op : Op) (answer : Answer) → AnswerIs P was → OpIs P op →
    AnswerIs P (own_write name was (record { n = n; op = op; answer = answer }))
own_is P name was n (Read key) answer before this = before
own_is P name was n (Write key val) answer before this = by (same_numbers name key.name)
  where
    by : (b : Bool) → AnswerIs P (if b then Value val else was)
    by true = (this.0, tt)
    by false = before

pub owns_are : (P : Mention → Type 0) (name : List ℕ) (was : Answer) (ps : List Performed) → AnswerIs P was → Each (DoneIs P) ps → AnswerIs P (fold (own_write name) was ps)
owns_are P name was [] before all = before
owns_are P name was (p ∷ ps) before all = owns_are P name (own_write name was p) ps (own_is P name was p.n p.op p.answer before all.0) all.1

-- the first rows of a site
pub rows_are : (P : Mention → Type 0) (site : ℕ) (rows : List KeyRow) → Each (λ row. P (OfVal row.val)) rows → Each (RowIs P) (rows_at site rows)
rows_are P site [] all = tt
rows_are P site (row ∷ rows) all = by (row.key.site == site) (rows_are P site rows all.1)
  where
    by : (b : Bool) → Each (RowIs P) (rows_at site rows) →
        Each (RowIs P) (if b then set_row (record { name = row.key.name; val = row.val }) (rows_at site rows) else rows_at site rows)
    by true more = set_is P (record { name = row.key.name; val = row.val }) (rows_at site rows) all.0 more
    by false more = more

-- locks
lock_is : (P : Mention → Type 0) (name : List ℕ) (t : Txn) (op : Op) → P (OfTxn t) → Each (LockIs P) (lock_on name t op)
lock_is P name t op this = each-if (LockIs P) (same_numbers name (key_of op).name) (record { txn = t; mode = mode_of op } ∷ []) (this, tt)

asked_locks : (P : Mention → Type 0) (name : List ℕ) (asked : List Asked) → Each (AskedIs P) asked → Each (LockIs P) (flat_map (λ a. lock_on name a.txn a.op) asked)
asked_locks P name asked all = each-flat (AskedIs P) (LockIs P) (λ a. lock_on name a.txn a.op) (λ a this. lock_is P name a.txn a.op this.0) asked all

vote_locks_are : (P : Mention → Type 0) (name : List ℕ) (records : List Record) (r : Record) → RecordIs P r → Each (LockIs P) (vote_locks name records r)
vote_locks_are P name records (log.Vote u ops) this = each-if (LockIs P) (is_undecided u records) (flat_map (λ o. lock_on name u o.op) ops) (locks ops)
  where
    locks : (l : List NumOp) → Each (LockIs P) (flat_map (λ o. lock_on name u o.op) l)
    locks [] = tt
    locks (o ∷ l) = each-append (LockIs P) (lock_on name u o.op) (flat_map (λ x. lock_on name u x.op) l) (lock_is P name u o.op this.0) (locks l)
vote_locks_are P name records r this = tt

pub holders_are : (P : Mention → Type 0) (site : ℕ) (name : List ℕ) (records : List Record) (steps : List Moment) → Each (RecordIs P) records → Each (InputIs P) steps →
    Each (LockIs P) (holders site name records steps)
holders_are P site name records steps all came =
    each-append (LockIs P) (done_locks site name records steps) (voted_locks name records)
    (asked_locks P name (filter (λ a. is_undecided a.txn records && is_answered steps a) (arrivals site steps))
    (each-filter (AskedIs P) (λ a. is_undecided a.txn records && is_answered steps a) (arrivals site steps) (arrivals_are P site steps came)))
    (each-flat (RecordIs P) (LockIs P) (vote_locks name records) (λ r this. vote_locks_are P name records r this) records all)

pub queue_is : (P : Mention → Type 0) (name : List ℕ) (asked : List Asked) → Each (AskedIs P) asked → Each (LockIs P) (queue name asked)
queue_is P name asked all = asked_locks P name asked all

-- whom a transaction dies for
abbrev pub GrantIs : (Mention → Type 0) → Grant → Type 0
GrantIs P (Dies older) = P (OfTxn older)
GrantIs P g = Unit {0}

oldest_is : (P : Mention → Type 0) (u : Txn) (us : List Txn) → P (OfTxn u) → Each (λ t. P (OfTxn t)) us → P (OfTxn (oldest u us))
oldest_is P u [] this all = this
oldest_is P u (v ∷ us) this all = oldest_is P (if is_older v u then v else u) us (by (is_older v u)) all.1
  where
    by : (b : Bool) → P (OfTxn (if b then v else u))
    by true = all.0
    by false = this

against_is : (P : Mention → Type 0) (t : Txn) (us : List Txn) → Each (λ u. P (OfTxn u)) us → GrantIs P (grant_against t us)
against_is P t [] all = tt
against_is P t (u ∷ us) all = by (list_all (is_older t) (u ∷ us))
  where
    by : (b : Bool) → GrantIs P (if b then Waits else Dies (oldest u us))
    by true = tt
    by false = oldest_is P u us all.0 all.1

pub grant_is : (P : Mention → Type 0) (wanted : Lock) (held waits : List Lock) → Each (LockIs P) held → Each (LockIs P) waits → GrantIs P (lock_grant wanted held waits)
grant_is P wanted held waits holding waiting = by (is_covered wanted held)
  where
    rest : GrantIs P (grant_against wanted.txn (against wanted (held ++ waits)))
    rest = against_is P wanted.txn (against wanted (held ++ waits))
        (each-map (λ t. P (OfTxn t)) (λ l. l.txn) (filter (opposes wanted) (held ++ waits))
        (each-filter (LockIs P) (opposes wanted) (held ++ waits) (each-append (LockIs P) held waits holding waiting)))

    by : (b : Bool) → GrantIs P (if b then Held else grant_against wanted.txn (against wanted (held ++ waits)))
    by true = tt
    by false = rest

-- the answers that steps show
told_is : (P : Mention → Type 0) (q : Asked) (e : Told) → EventIs P e → Each (AnswerIs P) (answer_told q e)
told_is P q (told.Op t n answer) this = each-if (AnswerIs P) (q.n == n && same_txn q.txn t) (answer ∷ []) (this.1, tt)
told_is P q e this = tt

sent_is : (P : Mention → Type 0) (q : Asked) (p : Packet) → PacketIs P p → Each (AnswerIs P) (answer_sent q p)
sent_is P q p this = by p.msg refl this
  where
    by : (x : Message) → p.msg ≡ x → MessageIs P x → Each (AnswerIs P) (answer_sent q p)
    by (msg.Done t n inc answer) is mentions = rw is (each-if (AnswerIs P) (q.n == n && same_txn q.txn t) (answer ∷ []) (mentions.1, tt))
    by x is mentions = rw is tt

pub answers_are : (P : Mention → Type 0) (q : Asked) (steps : List Moment) → Each (MomentIs P) steps → Each (AnswerIs P) (answers q steps)
answers_are P q steps all =
    each-flat (MomentIs P) (AnswerIs P) (λ m. flat_map (answer_told q) m.told ++ flat_map (answer_sent q) m.outs)
    (λ m this. each-append (AnswerIs P) (flat_map (answer_told q) m.told) (flat_map (answer_sent q) m.outs)
    (each-flat (EventIs P) (AnswerIs P) (answer_told q) (λ e mentions. told_is P q e mentions) m.told this.told)
    (each-flat (PacketIs P) (AnswerIs P) (answer_sent q) (λ p mentions. sent_is P q p mentions) m.outs this.outs)) steps all

-- the reasons that steps told
reason_is : (P : Mention → Type 0) (t : Txn) (e : Told) → EventIs P e → Each (RefusalIs P) (reason_in t e)
reason_is P t (told.Died u older) this = each-if (RefusalIs P) (same_txn t u) _ ((this.1.0, tt), tt)
reason_is P t (told.Doomed u site had now) this = each-if (RefusalIs P) (same_txn t u) _ (tt, tt)
reason_is P t e this = tt

pub reasons_are : (P : Mention → Type 0) (t : Txn) (steps : List Moment) → Each (MomentIs P) steps → Each (RefusalIs P) (kept_reason t steps)
reasons_are P t steps all =
    each-flat (MomentIs P) (RefusalIs P) (λ m. flat_map (reason_in t) m.told)
    (λ m this. each-flat (EventIs P) (RefusalIs P) (reason_in t) (λ e mentions. reason_is P t e mentions) m.told this.told) steps all
