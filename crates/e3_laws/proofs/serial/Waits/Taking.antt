-- A step that takes an operation up: its request gets its lock and is answered at once, or its transaction dies, or it waits.
use Rattle.std.proofs.Common.{◌≡◌, ◌⊎◌, inl, inr, ◌==◌, ◌&&◌, ◌||◌, ◌++◌, ◌∷◌, [], ℕ, suc, Bool, true, false, List, Option, Some, None, length, fold, map, refl, sym, subst, ap, ◌∙◌, if◌then◌else◌, eqb-true, eq-eqb}
use Rattle.std.specs.List.{list_any, flat_map, AllByRecursion as Each}
use Rattle.std.proofs.lemmas.Bool.{and_from, or_right, true≢false, false_from_ne_true}
use Rattle.e3_types.specs.declared.entries.Input.{Input}
use Rattle.e3_types.specs.declared.entries.Input.TheVariants as input
use Rattle.e3_types.specs.declared.entries.Told.TheVariants as told
use Rattle.e3_types.specs.declared.locks.Grant.{Grant}
use Rattle.e3_types.specs.declared.locks.Grant.TheVariants.{Held, Waits, Dies}
use Rattle.e3_types.specs.declared.locks.Lock.{Lock}
use Rattle.e3_types.specs.declared.messages.Message.{Message}
use Rattle.e3_types.specs.declared.messages.Message.TheVariants as msg
use Rattle.e3_types.specs.declared.messages.Packet.{Packet}
use Rattle.e3_types.specs.declared.records.Record.TheVariants as log
use Rattle.e3_types.specs.declared.transactions.Answer.{Answer}
use Rattle.e3_types.specs.declared.transactions.Dir.TheVariants.{Abort}
use Rattle.e3_types.specs.declared.transactions.Op.{Op}
use Rattle.e3_types.specs.declared.transactions.State.TheVariants.{Q, A}
use Rattle.e3_types.specs.declared.transactions.Txn.{Txn}
use Rattle.e3_types.specs.Locks.{lock_grant}
use Rattle.e3_types.specs.Same.{same_txn}
use Rattle.e3_laws.proofs.agreement.Refinement.Lists.{same_from}
use Rattle.e3_world.specs.declared.lives.Asked.{Asked}
use Rattle.e3_world.specs.declared.lives.At.{At}
use Rattle.e3_world.specs.declared.lives.Made.{Made}
use Rattle.e3_world.specs.declared.lives.Moment.{Moment}
use Rattle.e3_world.specs.declared.lives.Performed.{Performed}
use Rattle.e3_world.specs.Logs.{is_undecided, key_of}
use Rattle.e3_world.specs.Making.{nothing, log_now, steps_now, state_now, open_now, is_coordinator, is_present, and_record, and_tell, and_send, and_decide, and_abort_for, answer_now, and_do, and_grants}
use Rattle.e3_world.specs.Messages.{on_message}
use Rattle.e3_world.specs.Moves.{unnumbered}
use Rattle.e3_world.specs.OperationRules.{on_do, on_done}
use Rattle.e3_world.specs.Operations.{issued, issued_in, nth_op, taken_up, same_asked, answer_told, answer_sent, answers, is_answered, done, waiting, holders, queue, op_told, unanswered, expected}
use Rattle.e3_world.specs.Sound.{Fits, FitsDo, FitsMessage, FitsPacket}
use Rattle.e3_types.specs.Sets.{has_site, others}
use Rattle.e3_world.specs.Steps.{refuse, or_refused, on_input, handled, settle, step_at}
use Rattle.e3_laws.proofs.serial.Step.Rules.{Comes, Rule}
use Rattle.e3_laws.proofs.serial.Lists.Entries.{In, name_of}
use Rattle.e3_laws.proofs.serial.Lists.Members.{in_back}
use Rattle.e3_laws.proofs.serial.Step.Walk.{keep_on_do, allowed_parts}
use Rattle.e3_laws.proofs.serial.Step.Shapes.{FromAway, IsOwnAnswer, ruled_own, grants_own, settle_none}
use Rattle.e3_laws.proofs.serial.Step.Arrivals.{answers_push, told_push, answered_from, op_told_answered}
use Rattle.e3_laws.proofs.serial.Step.Steadying.{IsMoment, issued_one, taken_own, others_lack}
use Rattle.e3_laws.proofs.serial.Step.Stepping.{moment, so_far, grants_made, sent_records}
use Rattle.e3_laws.proofs.serial.Site.Holding.{lock_of}
use Rattle.e3_laws.proofs.serial.Lists.Facts.{decided_not}
use Rattle.e3_laws.proofs.steps.Adding.{idle_open}
use Rattle.e3_laws.proofs.steps.Lists.{dropped}
use Rattle.e3_laws.proofs.steps.Operations.Issuing.{get_end, issued_push}

-- the step takes the operation up, and comes to what the rule of an operation makes
pub record Takes (a : At) (q : Asked) : Type 0 where
  pub sender : ℕ
  pub comes : Comes a q.txn q.n q.op
  pub away : state_now a q.txn nothing ≡ A → (sender == a.site) ≡ false
  pub more : ℕ
  pub is : step_at a ≡ settle (suc (suc more)) a (and_grants a 0 (on_do a sender q.txn q.n q.op nothing))

abbrev IfTakes : At → Option Asked → Type 0
IfTakes a None = Unit {0}
IfTakes a (Some q) = Takes a q

takes_moment : (a : At) → FromAway a.site a.input → (m : Moment) → IsMoment a m → IfTakes a (taken_up a.site a.life.steps m)
takes_moment a away m is = by a.input refl
  where
    said : (p : Packet) (x : Message) → a.input ≡ input.Deliver p → p.msg ≡ x → IfTakes a (taken_up a.site a.life.steps m)
    said p (msg.Do t n op) takes says = subst (λ z. IfTakes a z) (sym up) (record {
      sender = p.«from»;
      comes = record { how = inl (p, takes, says) };
      away = λ state. subst (λ i. FromAway a.site i) takes away;
      more = 1;
      is = ap (λ i. settle 3 a (and_grants a 0 (on_input a i nothing))) takes ∙ ap (λ x. settle 3 a (and_grants a 0 (on_message a p.«from» x nothing))) says;
    })
      where
        up : taken_up a.site a.life.steps m ≡ Some (record { txn = t; n = n; op = op })
        up = rw (is.same_input, takes, says) refl
    said p x takes says = rw (is.same_input, takes, says) tt

    own : (t : Txn) (op : Op) (l : List Op) → a.input ≡ input.Do t op → issued_in t (input.Do t op) m.told ≡ l → IfTakes a (taken_up a.site a.life.steps m)
    own t op [] takes some = rw (is.same_input, takes, some) tt
    own t op (o ∷ os) takes some = subst (λ z. IfTakes a z) (sym (taken_own a.site a.life.steps m t op o os (is.same_input ∙ takes) some)) (here ((key_of op).site == a.site) refl)
      where
        allowed : refuse a t false nothing ≡ None
        allowed = is.allowed t op takes (issued_one t op m.told o os some).1

        here : (b : Bool) → ((key_of op).site == a.site) ≡ b →
            IfTakes a (if (key_of op).site == a.site then Some (record { txn = t; n = suc (length (issued t a.life.steps)); op = op }) else None)
        here true at = rw at (record {
          sender = a.site;
          comes = record { how = inr (takes, allowed, refl, eqb-true (key_of op).site a.site at) };
          away = λ state. absurd (let both : Q ≡ A = sym (allowed_parts a t allowed).2 ∙ state in cc);
          more = 0;
          is = ap (λ i. settle 3 a (and_grants a 0 (on_input a i nothing))) takes
              ∙ ap (λ o. settle 3 a (and_grants a 0 (or_refused t o (and_send a (key_of op).site (msg.Do t (suc (length (issued t a.life.steps))) op) nothing)))) allowed
              ∙ (rw at refl);
        })
        here false at = rw at tt

    by : (i : Input) → a.input ≡ i → IfTakes a (taken_up a.site a.life.steps m)
    by (input.Deliver p) takes = said p p.msg takes refl
    by (input.Do t op) takes = own t op (issued_in t (input.Do t op) m.told) takes refl
    by i takes = rw (is.same_input, takes) tt

-- what a step takes up
pub takes : (a : At) → FromAway a.site a.input → (m : Moment) → IsMoment a m → (q : Asked) → taken_up a.site a.life.steps m ≡ Some q → Takes a q
takes a away m is q taken = subst (λ z. IfTakes a z) taken (takes_moment a away m is)

-- what comes of each grant
abbrev pub by_dying : At → Asked → Txn → Bool → Made
by_dying a q older true = and_abort_for a q.txn (told.Died q.txn older) nothing
by_dying a q older false = and_send a q.txn.site (msg.Died q.txn q.n older) (and_decide a q.txn Abort nothing)

abbrev pub by_grant : At → Asked → Grant → Made
by_grant a q Held = and_do a q.txn q.n q.op nothing
by_grant a q Waits = nothing
by_grant a q (Dies older) = by_dying a q older (is_coordinator a q.txn)

-- who holds the key of an operation at the beginning of a step, who waits at the site, and who waits for that key
abbrev pub holders_of : At → Op → List Lock
holders_of a op = holders a.site (name_of op) (log_now a nothing) a.life.steps

abbrev pub waiting_now : At → List Asked
waiting_now a = waiting a.site (log_now a nothing) a.life.steps

abbrev pub queue_of : At → Op → List Lock
queue_of a op = queue (name_of op) (waiting_now a)

-- how a request is decided at the beginning of a step
abbrev pub grant_of : At → Asked → Grant
grant_of a q = lock_grant (lock_of q.txn q.op) (holders_of a q.op) (queue_of a q.op)

-- the transaction has no record, and its operation neither was answered nor waits
pub record IsNew (a : At) (q : Asked) : Type 0 where
  pub idle : state_now a q.txn nothing ≡ Q
  pub unanswered : answers q a.life.steps ≡ []
  pub absent : list_any (same_asked q) (waiting_now a) ≡ false

pub granted_by : (a : At) (f : ℕ) (q : Asked) (new : IsNew a q) (g : Grant) → grant_of a q ≡ g → on_do a f q.txn q.n q.op nothing ≡ by_grant a q g
granted_by a f q new g is = rw (new.idle, new.unanswered, new.absent, is) refl

-- whatever answers there are answer it
pub answered_some : (steps : List Moment) (q : Asked) (v : Answer) → In v (answers q steps) → is_answered steps q ≡ true
answered_some steps q v h = by (answers q steps) refl h
  where
    by : (l : List Answer) → answers q steps ≡ l → In v l → is_answered steps q ≡ true
    by [] is k = absurd k
    by (x ∷ xs) is k = answered_from steps q x xs is

length_push : {X : Type 0} (xs : List X) (x : X) → length (xs ++ x ∷ []) ≡ suc (length xs)
length_push [] x = refl
length_push (y ∷ xs) x = ap suc (length_push xs x)

-- the own answers of a site are of its present incarnation
own_counts : (a : At) (t : Txn) → ((expected a.site a.life.inc t a.life.steps a.site).count == 0 || (expected a.site a.life.inc t a.life.steps a.site).inc == a.life.inc) ≡ true
own_counts a t = by (done a.site t a.life.steps) refl
  where
    by : (ps : List Performed) → done a.site t a.life.steps ≡ ps →
        ((expected a.site a.life.inc t a.life.steps a.site).count == 0 || (expected a.site a.life.inc t a.life.steps a.site).inc == a.life.inc) ≡ true
    by [] is = rw (eq-eqb a.site a.site refl, is) refl
    by (p ∷ ps) is = rw (eq-eqb a.site a.site refl, is) (or_right _ _ (eq-eqb a.life.inc a.life.inc refl))

-- an own answer is told, or nothing comes of it
own_done : (a : At) (t : Txn) (n : ℕ) (v : Answer) (made : Made) →
    (on_done a a.site t n a.life.inc v made ≡ made) ⊎ (on_done a a.site t n a.life.inc v made ≡ and_tell (told.Op t n v) made)
own_done a t n v made = by (is_coordinator a t && is_present a t && open_now a t made) refl
  where
    is_from : Option Op → Bool
    is_from (Some op) = (key_of op).site == a.site
    is_from None = false

    is_unanswered : Option ℕ → Bool
    is_unanswered (Some m) = n == m
    is_unanswered None = false

    passes : (b : Bool) → (is_unanswered (unanswered t (log_now a made) (steps_now a made)) && is_from (nth_op n (issued t (steps_now a made)))) ≡ b →
        (is_coordinator a t && is_present a t && open_now a t made) ≡ true →
        (on_done a a.site t n a.life.inc v made ≡ made) ⊎ (on_done a a.site t n a.life.inc v made ≡ and_tell (told.Op t n v) made)
    passes true both is = inr (rw (is, both, own_counts a t) refl)
    passes false both is = inl (rw (is, both) refl)

    by : (b : Bool) → (is_coordinator a t && is_present a t && open_now a t made) ≡ b →
        (on_done a a.site t n a.life.inc v made ≡ made) ⊎ (on_done a a.site t n a.life.inc v made ≡ and_tell (told.Op t n v) made)
    by true is = passes (is_unanswered (unanswered t (log_now a made) (steps_now a made)) && is_from (nth_op n (issued t (steps_now a made)))) refl is
    by false is = inl (rw is refl)

-- own answers record nothing, and make no message to the own site
own_kept : (a : At) (ms : List Message) (made : Made) → Each (IsOwnAnswer a) ms → ((fold (handled a) made ms).records ≡ made.records) × ((fold (handled a) made ms).own ≡ made.own)
own_kept a [] made all = (refl, refl)
own_kept a (m ∷ ms) made all = by (own_done a all.0.0 all.0.1 all.0.2 made) (λ next. own_kept a ms next all.1)
  where
    more : (next : Made) → next.records ≡ made.records → next.own ≡ made.own → on_done a a.site all.0.0 all.0.1 a.life.inc all.0.2 made ≡ next →
        ((fold (handled a) next ms).records ≡ next.records) × ((fold (handled a) next ms).own ≡ next.own) →
        ((fold (handled a) made (m ∷ ms)).records ≡ made.records) × ((fold (handled a) made (m ∷ ms)).own ≡ made.own)
    more next records own is rest =
        let grants : and_grants a (length made.records) next ≡ next = ap (λ l. and_grants a (length l) next) (sym records) ∙ (rw (dropped next.records) refl) in
        let one : handled a made m ≡ next = ap (λ z. handled a made z) all.0.3 ∙ ap (λ z. and_grants a (length made.records) z) is ∙ grants in
        (ap (λ z. (fold (handled a) z ms).records) one ∙ rest.0 ∙ records, ap (λ z. (fold (handled a) z ms).own) one ∙ rest.1 ∙ own)

    by : (on_done a a.site all.0.0 all.0.1 a.life.inc all.0.2 made ≡ made) ⊎ (on_done a a.site all.0.0 all.0.1 a.life.inc all.0.2 made ≡ and_tell (told.Op all.0.0 all.0.1 all.0.2) made) →
        ((next : Made) → ((fold (handled a) next ms).records ≡ next.records) × ((fold (handled a) next ms).own ≡ next.own)) →
        ((fold (handled a) made (m ∷ ms)).records ≡ made.records) × ((fold (handled a) made (m ∷ ms)).own ≡ made.own)
    by (inl e) rest = more made refl refl e (rest made)
    by (inr e) rest = more (and_tell (told.Op all.0.0 all.0.1 all.0.2) made) refl refl e (rest (and_tell (told.Op all.0.0 all.0.1 all.0.2) made))

-- the records of a step are those of its rule
settled_records : (k : ℕ) (a : At) (rule : Made) → Rule a rule → (settle (suc k) a (and_grants a 0 rule)).records ≡ rule.records
settled_records k a rule ruled =
    let made : Made = and_grants a 0 rule in
    let kept = own_kept a made.own (record made { own = [] }) (grants_own a rule (ruled_own a rule ruled)) in
    ap (λ (z : Made). z.records) (settle_none k a (fold (handled a) (record made { own = [] }) made.own) kept.1) ∙ kept.0 ∙ (grants_made a rule).0

-- the coordinator tells the answer to an operation of its own that it issued in this step
own_told : (a : At) (q : Asked) (v : Answer) (new : IsNew a q) → a.input ≡ input.Do q.txn q.op → refuse a q.txn false nothing ≡ None → q.n ≡ suc (length (issued q.txn a.life.steps)) →
    (key_of q.op).site ≡ a.site → q.txn.site ≡ a.site → on_done a a.site q.txn q.n a.life.inc v nothing ≡ and_tell (told.Op q.txn q.n v) nothing
own_told a q v new takes allowed number here own = rw (coordinator, last, nth, eq-eqb q.n q.n refl, eq-eqb (key_of q.op).site a.site here, own_counts a q.txn) refl
  where
    coordinator : (is_coordinator a q.txn && is_present a q.txn && open_now a q.txn nothing) ≡ true
    coordinator = and_from (is_coordinator a q.txn && is_present a q.txn) (open_now a q.txn nothing)
        (and_from (is_coordinator a q.txn) (is_present a q.txn) (eq-eqb q.txn.site a.site own) (allowed_parts a q.txn allowed).0) (idle_open q.txn (log_now a nothing) new.idle)

    all : issued q.txn (steps_now a nothing) ≡ issued q.txn a.life.steps ++ q.op ∷ []
    all = issued_push q.txn a.life.steps (so_far a nothing)
        ∙ ap (λ l. issued q.txn a.life.steps ++ l) (ap (λ i. issued_in q.txn i []) takes ∙ (rw (same_from q.txn q.txn refl) refl))

    long : length (issued q.txn (steps_now a nothing)) ≡ suc (length (issued q.txn a.life.steps))
    long = ap (λ l. length l) all ∙ length_push (issued q.txn a.life.steps) q.op

    untold : op_told q.txn (suc (length (issued q.txn a.life.steps))) (steps_now a nothing) ≡ false
    untold = false_from_ne_true _ (λ y. no (op_told q.txn (suc (length (issued q.txn a.life.steps))) a.life.steps) refl
        (sym (told_push q.txn (suc (length (issued q.txn a.life.steps))) a.life.steps (so_far a nothing)) ∙ y))
      where
        no : (b : Bool) → op_told q.txn (suc (length (issued q.txn a.life.steps))) a.life.steps ≡ b → (b || false) ≡ true → ⊥
        no true is e =
            let y : is_answered a.life.steps q ≡ true = op_told_answered q a.life.steps (subst (λ n. op_told q.txn n a.life.steps ≡ true) (sym number) is) in
            let now : is_answered a.life.steps q ≡ false = rw new.unanswered refl in
            true≢false (sym y ∙ now)
        no false is e = true≢false (sym e)

    last : unanswered q.txn (log_now a nothing) (steps_now a nothing) ≡ Some q.n
    last = (rw (long, idle_open q.txn (log_now a nothing) new.idle, untold) refl) ∙ ap Some (sym number)

    nth : nth_op q.n (issued q.txn (steps_now a nothing)) ≡ Some q.op
    nth = ap (λ n. nth_op n (issued q.txn (steps_now a nothing))) number ∙ ap (λ l. nth_op (suc (length (issued q.txn a.life.steps))) l) all ∙ get_end (issued q.txn a.life.steps) q.op

module _ (weights : List ℕ) (a : At) (fits : Fits weights a.site a.life a.input) (q : Asked) (k : Takes a q) (new : IsNew a q) where
  -- a packet's operation is of another site's transaction
  away : (p : Packet) → a.input ≡ input.Deliver p → p.msg ≡ msg.Do q.txn q.n q.op → q.txn.site ≡ a.site → ⊥
  away p takes says own = from (subst (λ i. Fits weights a.site a.life i) takes fits)
    where
      from : FitsPacket weights a.site a.life p → ⊥
      from f =
          let d : FitsDo a.site a.life p.«from» q.txn q.n q.op = subst (λ x. FitsMessage a.site a.life p.«from» x) says f.message in
          others_lack a.site p.«from» q.txn.sites (subst (λ x. has_site (others a.site (Rattle.e3_world.specs.Sound.txn_in x).sites) p.«from» ≡ true) says f.sender) (d.coordinator ∙ own)

  -- the answer that a step sends or tells
  shown : (m : Made) → step_at a ≡ m → In (answer_now a q.txn q.op nothing) (flat_map (answer_told q) m.told ++ flat_map (answer_sent q) (map unnumbered m.outs)) →
      is_answered (a.life.steps ++ moment a ∷ []) q ≡ true
  shown m is h = answered_some (a.life.steps ++ moment a ∷ []) q (answer_now a q.txn q.op nothing)
      (subst (λ l. In (answer_now a q.txn q.op nothing) l) (sym (answers_push q a.life.steps (moment a)))
      (in_back (answers q a.life.steps) _ _ (subst (λ (z : Made). In (answer_now a q.txn q.op nothing) (flat_map (answer_told q) z.told ++ flat_map (answer_sent q) (map unnumbered z.outs))) (sym is) h)))

  same : (q.n == q.n && same_txn q.txn q.txn) ≡ true
  same = and_from (q.n == q.n) (same_txn q.txn q.txn) (eq-eqb q.n q.n refl) (same_from q.txn q.txn refl)

  -- a request that gets its lock is answered at once
  pub held_answered : grant_of a q ≡ Held → is_answered (a.life.steps ++ moment a ∷ []) q ≡ true
  held_answered grant = by (q.txn.site == a.site) refl
    where
      done_now : step_at a ≡ settle (suc (suc k.more)) a (and_grants a 0 (and_do a q.txn q.n q.op nothing))
      done_now = k.is ∙ ap (λ m. settle (suc (suc k.more)) a (and_grants a 0 m)) (granted_by a k.sender q new Held grant)

      packet : Packet
      packet = record { number = 0; «from» = a.site; to = q.txn.site; msg = msg.Done q.txn q.n a.life.inc (answer_now a q.txn q.op nothing) }

      own : q.txn.site ≡ a.site → on_done a a.site q.txn q.n a.life.inc (answer_now a q.txn q.op nothing) nothing ≡ and_tell (told.Op q.txn q.n (answer_now a q.txn q.op nothing)) nothing
      own here = elim k.comes.how [
        | inl p ↦ absurd (away p.0 p.1 p.2 here)
        | inr i ↦ own_told a q (answer_now a q.txn q.op nothing) new i.0 i.1 i.2 i.3 here
      ]

      sent : (q.txn.site == a.site) ≡ false → and_grants a 0 (and_do a q.txn q.n q.op nothing) ≡ record nothing { outs = packet ∷ [] }
      sent is = rw is refl

      kept : (q.txn.site == a.site) ≡ true → and_grants a 0 (and_do a q.txn q.n q.op nothing) ≡ record nothing { own = msg.Done q.txn q.n a.life.inc (answer_now a q.txn q.op nothing) ∷ [] }
      kept is = rw is refl

      by : (b : Bool) → (q.txn.site == a.site) ≡ b → is_answered (a.life.steps ++ moment a ∷ []) q ≡ true
      by false is = shown (record nothing { outs = packet ∷ [] })
          (done_now ∙ ap (λ m. settle (suc (suc k.more)) a m) (sent is) ∙ settle_none (suc (suc k.more)) a (record nothing { outs = packet ∷ [] }) refl)
          (subst (λ b. In (answer_now a q.txn q.op nothing) ((if b then answer_now a q.txn q.op nothing ∷ [] else []) ++ [])) (sym same) (inl refl))
      by true is = shown (and_tell (told.Op q.txn q.n (answer_now a q.txn q.op nothing)) nothing)
          (done_now ∙ ap (λ m. settle (suc (suc k.more)) a m) (kept is) ∙ ap (λ m. settle (suc k.more) a (and_grants a 0 m)) (own (eqb-true q.txn.site a.site is))
          ∙ settle_none (suc k.more) a (and_tell (told.Op q.txn q.n (answer_now a q.txn q.op nothing)) nothing) refl)
          (subst (λ b. In (answer_now a q.txn q.op nothing) (((if b then answer_now a q.txn q.op nothing ∷ [] else []) ++ []) ++ [])) (sym same) (inl refl))

  -- a request whose transaction dies is of one that is decided
  pub dies_decided : (older : Txn) → grant_of a q ≡ Dies older → is_undecided q.txn (a.life.log ++ (step_at a).records) ≡ false
  dies_decided older grant = decided_not q.txn Abort (a.life.log ++ (step_at a).records)
      (in_back a.life.log (step_at a).records (log.Decision q.txn Abort) (subst (λ l. In (log.Decision q.txn Abort) l) (sym all) (dying (is_coordinator a q.txn))))
    where
      all : (step_at a).records ≡ (by_dying a q older (is_coordinator a q.txn)).records
      all =
          ap (λ (m : Made). m.records) k.is
          ∙ settled_records (suc k.more) a (on_do a k.sender q.txn q.n q.op nothing) (keep_on_do a k.sender q.txn q.n q.op k.comes k.away)
          ∙ ap (λ (m : Made). m.records) (granted_by a k.sender q new (Dies older) grant)

      cast : (m : Message) (sites : List ℕ) (made : Made) → (fold (λ so_far to. and_send a to m so_far) made sites).records ≡ made.records
      cast m [] made = refl
      cast m (s ∷ sites) made = cast m sites (and_send a s m made) ∙ sent_records a s m made

      told_or_not : (b : Bool) → (is_coordinator a q.txn && is_present a q.txn) ≡ b → (and_decide a q.txn Abort nothing).records ≡ log.Decision q.txn Abort ∷ []
      told_or_not true is = rw is refl
      told_or_not false is = rw is refl

      dying : (b : Bool) → In (log.Decision q.txn Abort) (by_dying a q older b).records
      dying true = subst (λ l. In (log.Decision q.txn Abort) l)
          (sym (cast (msg.Decide q.txn Abort) (others a.site q.txn.sites) (and_tell (told.Died q.txn older) (and_record (log.Decision q.txn Abort) nothing)))) (inl refl)
      dying false = subst (λ l. In (log.Decision q.txn Abort) l)
          (sym (sent_records a q.txn.site (msg.Died q.txn q.n older) (and_decide a q.txn Abort nothing) ∙ told_or_not (is_coordinator a q.txn && is_present a q.txn) refl)) (inl refl)

  -- a step that lets the request wait does nothing else
  pub waits_quiet : grant_of a q ≡ Waits → step_at a ≡ nothing
  waits_quiet grant =
      k.is ∙ ap (λ m. settle (suc (suc k.more)) a (and_grants a 0 m)) (granted_by a k.sender q new Waits grant) ∙ settle_none (suc (suc k.more)) a nothing refl

  -- so an operation that waits behind the step that took it up was one that the lock rule lets wait
  pub waits_granted : is_undecided q.txn (a.life.log ++ (step_at a).records) ≡ true → is_answered (a.life.steps ++ moment a ∷ []) q ≡ false → grant_of a q ≡ Waits
  waits_granted still unanswered = by (grant_of a q) refl
    where
      by : (g : Grant) → grant_of a q ≡ g → grant_of a q ≡ Waits
      by Waits is = is
      by Held is = absurd (true≢false (sym (held_answered is) ∙ unanswered))
      by (Dies older) is = absurd (true≢false (sym still ∙ dies_decided older is))
