-- Each step of a site that is not refused has its shape.
use Rattle.std.proofs.Common.{◌≡◌, ◌⊎◌, inl, inr, ◌==◌, ◌&&◌, ◌||◌, ◌++◌, ◌∷◌, [], ℕ, zero, suc, Bool, true, false, List, Option, Some, None, length, fold, drop, refl, sym, subst, ap, ◌∙◌, append-nil, append_assoc, eqb-true, eq-eqb}
use Rattle.std.specs.List.{list_any, AllByRecursion as Each}
use Rattle.std.proofs.lemmas.Bool.{or_right}
use Rattle.e3_types.specs.declared.entries.Input.{Input}
use Rattle.e3_types.specs.declared.entries.Input.TheVariants as input
use Rattle.e3_types.specs.declared.entries.Refusal.{Refusal}
use Rattle.e3_types.specs.declared.entries.Told.{Told}
use Rattle.e3_types.specs.declared.entries.Told.TheVariants as told
use Rattle.e3_types.specs.declared.messages.Message.{Message}
use Rattle.e3_types.specs.declared.messages.Message.TheVariants as msg
use Rattle.e3_types.specs.declared.transactions.Answer.{Answer}
use Rattle.e3_types.specs.declared.transactions.Op.{Op}
use Rattle.e3_types.specs.declared.transactions.State.TheVariants.{Q, A}
use Rattle.e3_types.specs.declared.transactions.Txn.{Txn}
use Rattle.e3_world.specs.declared.lives.Asked.{Asked}
use Rattle.e3_world.specs.declared.lives.At.{At}
use Rattle.e3_world.specs.declared.lives.Expected.{Expected}
use Rattle.e3_world.specs.declared.lives.Made.{Made}
use Rattle.e3_world.specs.declared.lives.Performed.{Performed}
use Rattle.e3_world.specs.Logs.{key_of}
use Rattle.e3_world.specs.Making.{nothing, log_now, steps_now, open_now, is_coordinator, is_present, and_tell, and_send, answer_now, grants_after, decides, and_grant, and_grants}
use Rattle.e3_world.specs.Operations.{issued, nth_op, done, unanswered, expected}
use Rattle.e3_world.specs.Steps.{refuse, or_refused, on_begin, on_input, handled, settle, step_at}
use Rattle.e3_laws.proofs.serial.Step.Rules.{Ruled, Start, Notes, Decides, Votes, Tells, Says, Asks, Issues, Rule, Otherwise, Hears, Locks, Repeats, TellsOwn, Shaped}
use Rattle.e3_laws.proofs.serial.Step.Walk.{keep_on_do, keep_delivery, keep_commit, keep_expire, keep_join, keep_cast, keep_abort, allowed_parts}
use Rattle.e3_world.specs.OperationRules.{on_do, on_done}
use Rattle.e3_world.specs.Gatherings.{Election}
use Rattle.e3_world.specs.Elections.{begun, next_call}
use Rattle.e3_world.specs.Making.{elected_now}
use Rattle.e3_laws.proofs.steps.Lists.{dropped}
use Rattle.e3_laws.proofs.steps.Operations.Tracing.{Refuses}
use Rattle.e3_laws.proofs.steps.Each.{each-push}
use Rattle.e3_laws.proofs.steps.Taking.{allowed_open}

-- the message is an answer of this incarnation
abbrev pub IsOwnAnswer : At → Message → Type 0
IsOwnAnswer a m = (t : Txn) × (n : ℕ) × (answer : Answer) × (m ≡ msg.Done t n a.life.inc answer)

pub send_own : (a : At) (to : ℕ) (m : Message) (made : Made) → Each (IsOwnAnswer a) made.own → ((to == a.site) ≡ true → IsOwnAnswer a m) → Each (IsOwnAnswer a) (and_send a to m made).own
send_own a to m made all this = by (to == a.site) refl
  where
    by : (b : Bool) → (to == a.site) ≡ b → Each (IsOwnAnswer a) (and_send a to m made).own
    by true is = rw is (each-push (IsOwnAnswer a) made.own m all (this is))
    by false is = rw is all

-- what a rule has for its own site are answers
pub ruled_none : (a : At) (made : Made) → Ruled a made → made.own ≡ []
ruled_none a _ Start = refl
ruled_none a _ (Notes r made note k) = ruled_none a made k
ruled_none a _ (Decides t dir made still k) = ruled_none a made k
ruled_none a _ (Votes t idle cause) = refl
ruled_none a _ (Tells e made news k) = ruled_none a made k
ruled_none a _ (Says to m made away word k) = rw away (ruled_none a made k)
ruled_none a _ (Asks to t made away commits voted k) = rw away (ruled_none a made k)
ruled_none a _ (Issues to t op away takes allowed) = rw away refl

pub ruled_own : (a : At) (made : Made) → Rule a made → Each (IsOwnAnswer a) made.own
ruled_own a _ (Otherwise made k) = subst (λ z. Each (IsOwnAnswer a) z) (sym (ruled_none a made k)) tt
ruled_own a _ (Hears t n answer h) = tt
ruled_own a _ (Locks t n op l) = send_own a t.site _ nothing tt (λ is. (t, n, answer_now a t op nothing, refl))
ruled_own a _ (Repeats t n answer r) = send_own a t.site _ nothing tt (λ is. (t, n, answer, refl))

pub granted_own : (a : At) (qs : List Asked) (made : Made) → Each (IsOwnAnswer a) made.own → Each (IsOwnAnswer a) (fold (and_grant a) made qs).own
granted_own a [] made all = all
granted_own a (q ∷ qs) made all = granted_own a qs (and_grant a made q) (send_own a q.txn.site _ made all (λ is. (q.txn, q.n, answer_now a q.txn q.op made, refl)))

pub grants_own : (a : At) (made : Made) → Each (IsOwnAnswer a) made.own → Each (IsOwnAnswer a) (and_grants a 0 made).own
grants_own a made all = by (list_any decides (drop 0 made.records)) refl
  where
    by : (b : Bool) → list_any decides (drop 0 made.records) ≡ b → Each (IsOwnAnswer a) (and_grants a 0 made).own
    by true is = rw is (granted_own a (grants_after a made) made all)
    by false is = rw is all

-- an own answer is told, or nothing comes of it
own_done : (a : At) (t : Txn) (n : ℕ) (answer : Answer) (made : Made) →
    (on_done a a.site t n a.life.inc answer made ≡ made) ⊎ (on_done a a.site t n a.life.inc answer made ≡ and_tell (told.Op t n answer) made)
own_done a t n answer made = by (is_coordinator a t && is_present a t && open_now a t made) refl
  where
    is_from : Option Op → Bool
    is_from (Some op) = (key_of op).site == a.site
    is_from None = false

    is_unanswered : Option ℕ → Bool
    is_unanswered (Some m) = n == m
    is_unanswered None = false

    abbrev_e : Expected
    abbrev_e = expected a.site a.life.inc t a.life.steps a.site

    counts : (expected a.site a.life.inc t a.life.steps a.site).count == 0 || (expected a.site a.life.inc t a.life.steps a.site).inc == a.life.inc ≡ true
    counts = own (done a.site t a.life.steps) refl
      where
        own : (ps : List Performed) → done a.site t a.life.steps ≡ ps →
            ((expected a.site a.life.inc t a.life.steps a.site).count == 0 || (expected a.site a.life.inc t a.life.steps a.site).inc == a.life.inc) ≡ true
        own [] is = rw (eq-eqb a.site a.site refl, is) refl
        own (p ∷ ps) is = rw (eq-eqb a.site a.site refl, is) (or_right _ _ (eq-eqb a.life.inc a.life.inc refl))

    passes : (b : Bool) → (is_unanswered (unanswered t (log_now a made) (steps_now a made)) && is_from (nth_op n (issued t (steps_now a made)))) ≡ b →
        (is_coordinator a t && is_present a t && open_now a t made) ≡ true →
        (on_done a a.site t n a.life.inc answer made ≡ made) ⊎ (on_done a a.site t n a.life.inc answer made ≡ and_tell (told.Op t n answer) made)
    passes true both is = inr (rw (is, both, counts) refl)
    passes false both is = inl (rw (is, both) refl)

    by : (b : Bool) → (is_coordinator a t && is_present a t && open_now a t made) ≡ b →
        (on_done a a.site t n a.life.inc answer made ≡ made) ⊎ (on_done a a.site t n a.life.inc answer made ≡ and_tell (told.Op t n answer) made)
    by true is = passes (is_unanswered (unanswered t (log_now a made) (steps_now a made)) && is_from (nth_op n (issued t (steps_now a made)))) refl is
    by false is = inl (rw is refl)

no_grants : (a : At) (made : Made) → and_grants a (length made.records) made ≡ made
no_grants a made = rw (dropped made.records) refl

-- own answers, one after the other
pub record Told_own (a : At) (ms : List Message) (made : Made) : Type 0 where
  pub events : List Told
  pub from_own : Each (TellsOwn ms) events
  pub is : fold (handled a) made ms ≡ record made { told = made.told ++ events }

each_more : (m : Message) (ms : List Message) (es : List Told) → Each (TellsOwn ms) es → Each (TellsOwn (m ∷ ms)) es
each_more m ms [] all = tt
each_more m ms (e ∷ es) all = ((all.0.0, all.0.1, all.0.2, all.0.3, all.0.4, inr all.0.5), each_more m ms es all.1)

told_own : (a : At) (ms : List Message) (made : Made) → Each (IsOwnAnswer a) ms → Told_own a ms made
told_own a [] made all = record { events = []; from_own = tt; is = ap (λ z. record made { told = z }) (sym (append-nil made.told)) }
told_own a (m ∷ ms) made all = by (own_done a all.0.0 all.0.1 all.0.2 made) (told_own a ms made all.1) (told_own a ms (and_tell (told.Op all.0.0 all.0.1 all.0.2) made) all.1)
  where
    one : handled a made m ≡ and_grants a (length made.records) (on_done a a.site all.0.0 all.0.1 a.life.inc all.0.2 made)
    one = ap (λ z. handled a made z) all.0.3

    by : (on_done a a.site all.0.0 all.0.1 a.life.inc all.0.2 made ≡ made) ⊎ (on_done a a.site all.0.0 all.0.1 a.life.inc all.0.2 made ≡ and_tell (told.Op all.0.0 all.0.1 all.0.2) made) →
        Told_own a ms made → Told_own a ms (and_tell (told.Op all.0.0 all.0.1 all.0.2) made) → Told_own a (m ∷ ms) made
    by (inl e) same more = record {
      events = same.events;
      from_own = each_more m ms same.events same.from_own;
      is = ap (λ z. fold (handled a) z ms) (one ∙ ap (λ z. and_grants a (length made.records) z) e ∙ no_grants a made) ∙ same.is;
    }
    by (inr e) same more = record {
      events = told.Op all.0.0 all.0.1 all.0.2 ∷ more.events;
      from_own = ((all.0.0, all.0.1, a.life.inc, all.0.2, refl, inl (sym all.0.3)), each_more m ms more.events more.from_own);
      is = ap (λ z. fold (handled a) z ms) (one ∙ ap (λ z. and_grants a (length made.records) z) e ∙ no_grants a (and_tell (told.Op all.0.0 all.0.1 all.0.2) made))
          ∙ more.is ∙ ap (λ z. record made { told = z }) (append_assoc made.told (told.Op all.0.0 all.0.1 all.0.2 ∷ []) more.events);
    }

-- a list of own messages that is empty stays so
pub settle_none : (k : ℕ) (a : At) (made : Made) → made.own ≡ [] → settle k a made ≡ made
settle_none zero a made none = refl
settle_none (suc k) a made none =
    ap (λ z. settle k a (fold (handled a) (record made { own = [] }) z)) none
    ∙ settle_none k a (record made { own = [] }) refl
    ∙ ap (λ z. record made { own = z }) (sym none)

-- behind a rule: the grants, and the own answers
pub shape_from : (k : ℕ) (a : At) (rule : Made) → Rule a rule → Shaped a (settle (suc k) a (and_grants a 0 rule))
shape_from k a rule ruled = by (told_own a (and_grants a 0 rule).own (record (and_grants a 0 rule) { own = [] }) (grants_own a rule (ruled_own a rule ruled)))
  where
    by : Told_own a (and_grants a 0 rule).own (record (and_grants a 0 rule) { own = [] }) → Shaped a (settle (suc k) a (and_grants a 0 rule))
    by t =
        let is : settle (suc k) a (and_grants a 0 rule) ≡ record (and_grants a 0 rule) { own = []; told = (and_grants a 0 rule).told ++ t.events } =
        ap (λ z. settle k a z) t.is ∙ settle_none k a _ refl in
        record {
          rule = rule;
          ruled = ruled;
          events = t.events;
          from_own = t.from_own;
          records = ap (λ (z : Made). z.records) is;
          outs = ap (λ (z : Made). z.outs) is;
          told = ap (λ (z : Made). z.told) is;
        }

-- a packet that is taken comes from another site
abbrev pub FromAway : ℕ → Input → Type 0
FromAway site (input.Deliver packet) = (packet.«from» == site) ≡ false
FromAway site i = Unit {0}

-- what a step comes to: a refusal alone, or its shape
abbrev pub Comes_to : At → Made → Type 0
Comes_to a made = Refuses made ⊎ Shaped a made

or_shape : (a : At) (t : Txn) (o : Option Refusal) (made : Made) → (o ≡ None → Rule a made) → Comes_to a (settle 3 a (and_grants a 0 (or_refused t o made)))
or_shape a t None made k = inr (shape_from 2 a made (k refl))
or_shape a t (Some why) made k = inl (record { outs = refl; records = refl; told = (t, why, refl) })

-- an operation of the coordinator goes to another site, or is handled at once
issue_shape : (a : At) (t : Txn) (op : Op) (o : Option Refusal) → a.input ≡ input.Do t op → refuse a t false nothing ≡ o →
    Comes_to a (settle 3 a (and_grants a 0 (or_refused t o (and_send a (key_of op).site (msg.Do t (suc (length (issued t a.life.steps))) op) nothing))))
issue_shape a t op (Some why) takes is = inl (record { outs = refl; records = refl; told = (t, why, refl) })
issue_shape a t op None takes is = by ((key_of op).site == a.site) refl
  where
    m : Message
    m = msg.Do t (suc (length (issued t a.life.steps))) op

    by : (b : Bool) → ((key_of op).site == a.site) ≡ b → Comes_to a (settle 3 a (and_grants a 0 (and_send a (key_of op).site (msg.Do t (suc (length (issued t a.life.steps))) op) nothing)))
    by true here = rw here (inr (shape_from 1 a (on_do a a.site t (suc (length (issued t a.life.steps))) op nothing)
        (keep_on_do a a.site t (suc (length (issued t a.life.steps))) op (record { how = inr (takes, is, refl, eqb-true (key_of op).site a.site here) })
        (λ state. absurd (let both : Q ≡ A = sym (allowed_parts a t is).2 ∙ state in cc)))))
    by false away = inr (shape_from 2 a (and_send a (key_of op).site m nothing) (Otherwise _ (Issues (key_of op).site t op away takes is)))

input_shape : (a : At) (i : Input) → a.input ≡ i → FromAway a.site i → Comes_to a (settle 3 a (and_grants a 0 (on_input a i nothing)))
input_shape a (input.Begin sites) is away = inr (shape_from 2 a (on_begin a sites nothing) (Otherwise _ (Tells _ nothing tt Start)))
input_shape a (input.Do t op) is away = issue_shape a t op (refuse a t false nothing) is refl
input_shape a (input.Commit t) is away = or_shape a t (refuse a t false nothing) _ (λ allowed. Otherwise _ (keep_commit a t (record { takes = is; allowed = allowed })))
input_shape a (input.Cancel t) is away = or_shape a t (refuse a t true nothing) _ (λ allowed. Otherwise _ (keep_abort a t nothing (allowed_open a t true allowed) Start))
input_shape a (input.Expire t) is away = inr (shape_from 2 a _ (Otherwise _ (keep_expire a t)))
input_shape a (input.Elect t group) is away =
    let e : Election = begun a.site (next_call a.life.inc a.life.steps) group (elected_now a t nothing) in
    inr (shape_from 2 a _ (Otherwise _ (keep_join a t e _ (keep_cast a group (msg.Ask t e.call) nothing tt Start))))
input_shape a (input.Deliver p) is away = inr (shape_from 2 a _ (keep_delivery a p p.msg is refl away))

pub step_shape : (a : At) → FromAway a.site a.input → Comes_to a (step_at a)
step_shape a away = input_shape a a.input refl away
