-- What the operations, answers and refusals are that a step sends and tells, and that it records no incarnation.
use Rattle.std.proofs.Common.{append_assoc, ◌≡◌, ◌==◌, ◌&&◌, ◌++◌, ◌∷◌, [], ℕ, Bool, true, false, List, refl, sym, subst, eqb-true, eq-eqb, if◌then◌else◌, fold, ◌||◌, suc, Option, Some, None, length, ◌⊎◌, inl, inr, ap, ◌∙◌, append-nil}
use Rattle.std.specs.List.{list_any, AllByRecursion as Each}
use Rattle.std.proofs.lemmas.Bool.{and_from, or_left, or_right}
use Rattle.e3_types.specs.declared.entries.Told.{Told}
use Rattle.e3_types.specs.declared.entries.Told.TheVariants as told
use Rattle.e3_types.specs.declared.messages.Message.{Message}
use Rattle.e3_types.specs.declared.messages.Message.TheVariants as msg
use Rattle.e3_types.specs.declared.messages.Packet.{Packet}
use Rattle.e3_types.specs.declared.records.Record.{Record}
use Rattle.e3_types.specs.declared.records.Record.TheVariants as log
use Rattle.e3_types.specs.declared.transactions.Dir.TheVariants.{Abort}
use Rattle.e3_types.specs.declared.transactions.Op.{Op}
use Rattle.e3_types.specs.declared.transactions.Txn.{Txn}
use Rattle.e3_world.specs.declared.lives.Asked.{Asked}
use Rattle.e3_world.specs.declared.lives.At.{At}
use Rattle.e3_world.specs.declared.lives.Made.{Made}
use Rattle.e3_world.specs.Making.{and_tell, and_send, log_now, steps_now, grants_after, granted_on, asked_on, names_of, and_grants, nothing}
use Rattle.e3_world.specs.Logs.{key_of}
use Rattle.e3_types.specs.declared.transactions.Answer.{Answer}
use Rattle.e3_types.specs.Same.{same_txn}
use Rattle.e3_world.specs.Gatherings.{Election}
use Rattle.e3_world.specs.Elections.{greatest_heard}
use Rattle.e3_world.specs.Operations.{waiting, arrivals, issued, issued_in, nth_op, is_refusal, taken_up, Arrived, arrived_by, and_arrived, is_fresh}
use Rattle.e3_world.specs.Rounds.{count_ack}
use Rattle.e3_world.specs.Steps.{on_begin, settle, refuse, or_refused, on_input, step_of}
use Rattle.e3_types.specs.declared.entries.Input.{Input}
use Rattle.e3_types.specs.declared.entries.Input.TheVariants as input
use Rattle.e3_types.specs.declared.entries.Refusal.{Refusal}
use Rattle.e3_world.specs.declared.lives.Incarnation.{Incarnation}
use Rattle.e3_world.specs.Lives.{life_of}
use Rattle.std.proofs.lemmas.Grind.{flat_map-append}
use Rattle.std.proofs.lemmas.List.Folds.{list_any-append}
use Rattle.e3_world.specs.declared.lives.Moment.{Moment}
use Rattle.e3_laws.specs.steps.Bounds.{Suits}
use Rattle.e3_laws.proofs.steps.Suits.Arriving.{AllSuit}
use Rattle.e3_laws.proofs.steps.Each.{each-push, each-filter, each-take, each-flat, each-of, each-weaker, IfAny}
use Rattle.e3_laws.proofs.steps.Suits.Handling.{Ready}
use Rattle.e3_laws.proofs.steps.Suits.Inputs.{place, suits_unnumbered}
use Rattle.e3_laws.proofs.steps.Tests.{or_false, same_self}
use Rattle.e3_world.specs.Sound.{txn_in}
use Rattle.e3_laws.proofs.steps.Adding.{Allows, MayAnswer, Casts, Preserves, keep_abort, keep_cast, keep_grants}
use Rattle.e3_laws.proofs.steps.Rules.{Concludes, Hears, IsHeard, Joins, Settles, keep_join, keep_message, keep_settled}
use Rattle.e3_laws.proofs.steps.Taking.{Commits, allowed_open, keep_commit, keep_expire, next_election}

-- the record is of a transaction
abbrev pub OfTxn : Record → Type 0
OfTxn (log.Birth format site weights rows) = ⊥
OfTxn (log.Inc n) = ⊥
OfTxn r = Unit {0}

-- the input delivers this operation
abbrev pub is_do : Txn → ℕ → Input → Bool
is_do t n (input.Deliver packet) = by packet.msg
  where
    by : Message → Bool
    by (msg.Do u m op) = n == m && same_txn t u
    by _ = false
is_do t n _ = false

-- the operation came to the site in a packet, in these steps
abbrev pub was_delivered : Txn → ℕ → List Moment → Bool
was_delivered t n steps = list_any (λ m. is_do t n m.input) steps

-- the operation is of a transaction of this coordinator, or came in a packet, in this step or an earlier one
abbrev pub Came : At → Txn → ℕ → Type 0
Came a t n = (t.site ≡ a.site) ⊎ ((was_delivered t n a.life.steps || is_do t n a.input) ≡ true)

-- the packet is the answer to this operation
abbrev pub IsAnswer : Txn → ℕ → Packet → Type 0
IsAnswer t n packet = (inc : ℕ) × (answer : Answer) × (packet.msg ≡ msg.Done t n inc answer)

-- the answer to the operation is heard from site f: it is the site itself, or the step takes a packet of it
abbrev pub HeardFrom : At → ℕ → Txn → ℕ → Type 0
HeardFrom a f t n = (f ≡ a.site) ⊎ ((packet : Packet) × (a.input ≡ input.Deliver packet) × (packet.«from» ≡ f) × IsAnswer t n packet)

-- the operation is the one that the step issues
pub record Issues (a : At) (to : ℕ) (t : Txn) (n : ℕ) (op : Op) : Type 0 where
  pub takes : a.input ≡ input.Do t op
  pub next : n ≡ suc (length (issued t a.life.steps))
  pub allowed : refuse a t false nothing ≡ None
  pub there : to ≡ (key_of op).site

-- what a site may say to another, or to itself
abbrev pub IsGrounded : At → ℕ → Message → Type 0
IsGrounded a to (msg.Do t n op) = Issues a to t n op
IsGrounded a to (msg.Done t n inc answer) = Came a t n × (to ≡ t.site)
IsGrounded a to m = Unit {0}

-- the answer that is told is one to an operation that was issued, from the site of its key
pub record Answers (a : At) (t : Txn) (n : ℕ) : Type 0 where
  pub site : ℕ
  pub heard : HeardFrom a site t n
  pub op : Op
  pub nth : nth_op n (issued t (steps_now a nothing)) ≡ Some op
  pub there : (key_of op).site ≡ site

-- what is told: answers, no refusal, and a begin where the step takes one
abbrev pub Tells : At → Told → Type 0
Tells a (told.Op t n answer) = Answers a t n
Tells a (told.Refused t why) = ⊥
Tells a (told.Began t) = (sites : List ℕ) × (a.input ≡ input.Begin sites)
Tells a e = Unit {0}

-- all that a step made so far
pub record Traces (a : At) (made : Made) : Type 0 where
  pub own : Each (IsGrounded a a.site) made.own
  pub outs : Each (λ p. IsGrounded a p.to p.msg) made.outs
  pub records : Each OfTxn made.records
  pub told : Each (Tells a) made.told

-- no refusal was told
pub none_refused : (a : At) (l : List Told) → Each (Tells a) l → list_any is_refusal l ≡ false
none_refused a [] all = refl
none_refused a (told.Refused t why ∷ l) all = absurd all.0
none_refused a (e ∷ l) all = none_refused a l all.1

pub same_issued : (t : Txn) (i : Input) (events : List Told) → list_any is_refusal events ≡ false → issued_in t i events ≡ issued_in t i []
same_issued t (input.Do u op) events none = rw none refl
same_issued t i events none = refl

-- what is issued does not depend on what else is told
pub issued_now : (a : At) (t : Txn) (made : Made) → Each (Tells a) made.told → issued t (steps_now a made) ≡ issued t (steps_now a nothing)
issued_now a t made all =
    flat_map-append (λ m. issued_in t m.input m.told) a.life.steps _
    ∙ ap (λ l. issued t a.life.steps ++ (l ++ [])) (same_issued t a.input made.told (none_refused a made.told all))
    ∙ sym (flat_map-append (λ m. issued_in t m.input m.told) a.life.steps _)

-- a message to a site that may be this one
sent : (a : At) (to : ℕ) (m : Message) (made : Made) → IsGrounded a to m → Traces a made → Traces a (and_send a to m made)
sent a to m made may k = by (to == a.site) refl
  where
    by : (b : Bool) → (to == a.site) ≡ b → Traces a (and_send a to m made)
    by true is = rw is (record {
      own = each-push (IsGrounded a a.site) made.own m k.own (let P : ℕ → Type 0 = λ s. IsGrounded a s m in subst P (eqb-true to a.site is) may);
      outs = k.outs;
      records = k.records;
      told = k.told;
    })
    by false is = rw is (record {
      own = k.own;
      outs = each-push (λ p. IsGrounded a p.to p.msg) made.outs (record { number = 0; «from» = a.site; to = to; msg = m }) k.outs may;
      records = k.records;
      told = k.told;
    })

kept : (a : At) → Preserves a OfTxn (Tells a) (IsGrounded a) (Traces a)
kept a = record {
  records = λ r made this k. record { own = k.own; outs = k.outs; records = each-push OfTxn made.records r k.records this; told = k.told };
  tells = λ e made this k. record { own = k.own; outs = k.outs; records = k.records; told = each-push (Tells a) made.told e k.told this };
  sends = λ to m made may k. sent a to m made may k;
}

-- the operation is of one of the site's own transactions, or the input delivers it
abbrev pub CameNow : ℕ → Input → Asked → Type 0
CameNow site i q = (q.txn.site ≡ site) ⊎ (is_do q.txn q.n i ≡ true)

-- what came to the site is of its own transactions, or came in packets
came_up : (weights : List ℕ) (site : ℕ) (steps : List Moment) (m : Moment) → Suits weights site m.input →
    IfAny (CameNow site m.input) (taken_up site steps m)
came_up weights site steps m suits = by m.input refl suits
  where
    said : (x : Message) (p : Packet) → m.input ≡ input.Deliver p → p.msg ≡ x →
        IfAny (CameNow site m.input) (taken_up site steps m)
    said (msg.Do t n op) p is same = rw (is, same) (inr (and_from (n == n) (same_txn t t) (eq-eqb n n refl) (same_self t)))
    said x p is same = rw (is, same) tt

    own : (t : Txn) (op : Op) (l : List Op) → m.input ≡ input.Do t op → issued_in t (input.Do t op) m.told ≡ l → Suits weights site (input.Do t op) →
        IfAny (CameNow site m.input) (taken_up site steps m)
    own t op [] is some fit = rw (is, some) tt
    own t op (o ∷ os) is some fit = rw (is, some) (here ((key_of op).site == site) refl)
      where
        here : (b : Bool) → ((key_of op).site == site) ≡ b → IfAny (CameNow site (input.Do t op))
            (if (key_of op).site == site then Some (record { txn = t; n = suc (length (issued t steps)); op = op }) else None)
        here true at = rw at (inl fit.1)
        here false at = rw at tt

    by : (i : Input) → m.input ≡ i → Suits weights site i → IfAny (CameNow site m.input) (taken_up site steps m)
    by (input.Deliver p) is fit = said p.msg p is refl
    by (input.Do t op) is fit = own t op (issued_in t (input.Do t op) m.told) is refl fit
    by i is fit = rw is tt

-- the operation is of one of the site's own transactions, or came in a packet
abbrev pub CameIn : ℕ → List Moment → Asked → Type 0
CameIn site steps q = (q.txn.site ≡ site) ⊎ (was_delivered q.txn q.n steps ≡ true)

came_later : (site : ℕ) (steps : List Moment) (m : Moment) (q : Asked) → CameIn site steps q → CameIn site (steps ++ m ∷ []) q
came_later site steps m q (inl own) = inl own
came_later site steps m q (inr came) = inr (list_any-append (λ x. is_do q.txn q.n x.input) steps (m ∷ []) ∙ or_left _ _ came)

came_now : (site : ℕ) (steps : List Moment) (m : Moment) (q : Asked) → (q.txn.site ≡ site) ⊎ (is_do q.txn q.n m.input ≡ true) → CameIn site (steps ++ m ∷ []) q
came_now site steps m q (inl own) = inl own
came_now site steps m q (inr came) = inr (list_any-append (λ x. is_do q.txn q.n x.input) steps (m ∷ []) ∙ or_right _ _ (or_left _ false came))

arrived_came : (site : ℕ) (steps : List Moment) (asked : List Asked) (m : Moment) (o : Option Asked) → Each (CameIn site (steps ++ m ∷ [])) asked →
    IfAny (CameIn site (steps ++ m ∷ [])) o → Each (CameIn site (steps ++ m ∷ [])) (and_arrived asked m o)
arrived_came site steps asked m None all this = all
arrived_came site steps asked m (Some q) all this = by (is_fresh asked m q)
  where
    by : (b : Bool) → Each (CameIn site (steps ++ m ∷ [])) (if b then asked ++ q ∷ [] else asked)
    by true = each-push (CameIn site (steps ++ m ∷ [])) asked q all this
    by false = all

if_now : (site : ℕ) (steps : List Moment) (m : Moment) (o : Option Asked) → IfAny (CameNow site m.input) o →
    IfAny (CameIn site (steps ++ m ∷ [])) o
if_now site steps m None this = tt
if_now site steps m (Some q) this = came_now site steps m q this

-- the arrivals so far
record CameSoFar (site : ℕ) (w : Arrived) : Type 0 where
  pub asked : Each (CameIn site w.steps) w.asked

fold_came : (weights : List ℕ) (site : ℕ) (was : Arrived) (steps : List Moment) → CameSoFar site was → AllSuit weights site steps →
    CameSoFar site (fold (arrived_by site) was steps)
fold_came weights site was [] all suit = all
fold_came weights site was (m ∷ steps) all suit = fold_came weights site (arrived_by site was m) steps (record {
  asked = arrived_came site was.steps was.asked m (taken_up site was.steps m)
      (each-weaker (CameIn site was.steps) (CameIn site (was.steps ++ m ∷ [])) (λ q. came_later site was.steps m q) was.asked all.asked)
      (if_now site was.steps m (taken_up site was.steps m) (came_up weights site was.steps m suit.0));
}) suit.1

pub fold_steps : (site : ℕ) (was : Arrived) (steps : List Moment) → (fold (arrived_by site) was steps).steps ≡ was.steps ++ steps
fold_steps site was [] = sym (append-nil was.steps)
fold_steps site was (m ∷ steps) = fold_steps site (arrived_by site was m) steps ∙ append_assoc was.steps (m ∷ []) steps

pub arrivals_came : (weights : List ℕ) (site : ℕ) (steps : List Moment) → AllSuit weights site steps → Each (CameIn site steps) (arrivals site steps)
arrivals_came weights site steps suit =
    let all : CameSoFar site (fold (arrived_by site) (record { steps = []; asked = [] }) steps) = fold_came weights site (record { steps = []; asked = [] }) steps (record { asked = tt }) suit in
    let P : List Moment → Type 0 = λ l. Each (CameIn site l) (arrivals site steps) in
    subst P (fold_steps site (record { steps = []; asked = [] }) steps) all.asked

came_at : (a : At) (m : Moment) (q : Asked) → m.input ≡ a.input → CameIn a.site (a.life.steps ++ m ∷ []) q → Came a q.txn q.n
came_at a m q same (inl own) = inl own
came_at a m q same (inr came) = inr (
    (let P : Input → Type 0 = λ i. (was_delivered q.txn q.n a.life.steps || is_do q.txn q.n i) ≡ true in
    subst P same (ap (λ b. was_delivered q.txn q.n a.life.steps || b) (sym (or_false (is_do q.txn q.n m.input))) ∙ sym (list_any-append (λ x. is_do q.txn q.n x.input) a.life.steps (m ∷ [])) ∙ came)))

granted_came : (a : At) (made : Made) → Ready a → Each (λ q. Came a q.txn q.n) (grants_after a made)
granted_came a made ready =
    let m : Moment = record { before = a.life.log; input = a.input; records = made.records; outs = made.outs; told = made.told } in
    let P : Asked → Type 0 = λ q. Came a q.txn q.n in
    let suit : AllSuit a.weights a.site (steps_now a made) = each-push (λ m. Suits a.weights a.site m.input) a.life.steps m ready.steps ready.input in
    let waits : List Asked = waiting a.site (log_now a made) (steps_now a made) in
    let all : Each P waits = each-filter P _ (arrivals a.site (steps_now a made))
    (each-weaker (CameIn a.site (steps_now a made)) P (λ q. came_at a m q refl) (arrivals a.site (steps_now a made)) (arrivals_came a.weights a.site (steps_now a made) suit)) in
    each-flat (λ (name : List ℕ). Unit {0}) P (granted_on a made waits)
    (λ name is. each-take P _ (asked_on name waits) (each-filter P _ waits all))
    (names_of waits) (each-of (λ (name : List ℕ). Unit {0}) (λ name. tt) (names_of waits))

allows : (a : At) (t : Txn) → Allows a OfTxn (Tells a) t
allows a t = record {
  vote = λ made free. tt;
  attempt = λ n dir made free. tt;
  decision = λ dir made free. tt;
  ended = λ dir. tt;
  verdict = λ n v. tt;
  doomed = λ f i j. tt;
  kept = λ st. tt;
}

-- a message that is neither an operation nor its answer
casts : (a : At) (m : Message) (sites : List ℕ) → ((s : ℕ) → IsGrounded a s m) → Casts a (IsGrounded a) m sites
casts a m sites may = each-of (λ s. (s == a.site) ≡ false → IsGrounded a s m) (λ s apart. may s) sites

aborts : (a : At) (t : Txn) → Casts a (IsGrounded a) (msg.Decide t Abort) t.sites
aborts a t = casts a (msg.Decide t Abort) t.sites (λ s. tt)

concludes : (a : At) (t : Txn) (sites : List ℕ) → Concludes a (IsGrounded a) t sites
concludes a t sites = record { decide = λ dir. casts a (msg.Decide t dir) sites (λ s. tt); pre = λ n dir. casts a (msg.Pre t n dir) sites (λ s. tt) }

joins : (a : At) (t : Txn) (e : Election) → Joins a OfTxn (IsGrounded a) t e
joins a t e = record {
  join = λ all. tt;
  elected = λ all. casts a (msg.Elected t (suc (greatest_heard e))) e.group (λ s. tt);
  concludes = concludes a t e.group;
}

-- what a message has to be of, beyond what it says
abbrev MayTrace : At → ℕ → Message → Type 0
MayTrace a f (msg.Do t n op) = Came a t n
MayTrace a f (msg.Done t n inc answer) = HeardFrom a f t n
MayTrace a f m = Unit {0}

-- an answer is told where it comes from the site of its operation's key
answered : (a : At) (f : ℕ) (t : Txn) (n : ℕ) (made : Made) → HeardFrom a f t n → Traces a made → IsHeard a f t n made → Answers a t n
answered a f t n made heard k of = record {
  site = f;
  heard = heard;
  op = of.op;
  nth = ap (nth_op n) (sym (issued_now a t made k.told)) ∙ of.nth;
  there = eqb-true (key_of of.op).site f of.there;
}

hears : (a : At) (f : ℕ) (x : Message) → MayTrace a f x → Hears a OfTxn (Tells a) (IsGrounded a) (Traces a) f x
hears a f (msg.Do t n op) may = record {
  done = λ made k. (may, refl);
  again = λ answer more is. (may, refl);
  no = tt;
  told = λ older made k is. tt;
  died = λ older made k is other. tt;
  abort = aborts a t;
}
hears a f (msg.Done t n inc answer) may = ((λ made k of. answered a f t n made may k of), aborts a t)
hears a f (msg.Died t n older) may = (tt, aborts a t)
hears a f (msg.Ask t call) may = λ n. tt
hears a f (msg.LastElected t call n) may = λ e more is took. joins a t more
hears a f (msg.Elected t n) may = (tt, (λ st attempt. tt))
hears a f (msg.Report t n st attempt) may = λ e more is took. concludes a t more.group
hears a f (msg.VoteReq t inc count) may = λ said. tt
hears a f (msg.Vote t true) may = concludes a t t.sites
hears a f (msg.Vote t false) may = aborts a t
hears a f (msg.Pre t n dir) may = tt
hears a f (msg.Ack t n dir) may = λ r is. casts a (msg.Decide t dir) (count_ack r f n dir).to (λ s. tt)
hears a f (msg.Decide t dir) may = tt

-- what the site says to itself is such a message
own_traces : (a : At) (x : Message) → Ready a → IsGrounded a a.site x → MayTrace a a.site x
own_traces a (msg.Do t n op) ready said = inl (let P : Input → Type 0 = Suits a.weights a.site in let fit : Suits a.weights a.site (input.Do t op) = subst P said.takes ready.input in fit.1)
own_traces a (msg.Done t n inc answer) ready said = inl refl
own_traces a x ready said = tt

settling : (a : At) → Ready a → Settles a OfTxn (Tells a) (IsGrounded a) (Traces a)
settling a ready = record {
  own = λ made k. each-weaker (IsGrounded a a.site) (λ x. Allows a OfTxn (Tells a) (txn_in x) × Hears a OfTxn (Tells a) (IsGrounded a) (Traces a) a.site x)
      (λ x said. (allows a (txn_in x), hears a a.site x (own_traces a x ready said))) made.own k.own;
  emptied = λ made k. record { own = tt; outs = k.outs; records = k.records; told = k.told };
  freed = λ made k. each-weaker (λ q. Came a q.txn q.n) (MayAnswer a (IsGrounded a) (Traces a)) (λ q came now k_now. (came, refl)) (grants_after a made) (granted_came a made ready);
}

start : (a : At) → Traces a nothing
start a = record { own = tt; outs = tt; records = tt; told = tt }

-- a step that refuses its input tells that alone
pub record Refuses (made : Made) : Type 0 where
  pub outs : made.outs ≡ []
  pub records : made.records ≡ []
  pub told : (t : Txn) × (why : Refusal) × (made.told ≡ told.Refused t why ∷ [])

-- what a step says: a refusal alone, or what it traces
abbrev pub Says : At → Made → Type 0
Says a made = Refuses made ⊎ Traces a made

refused_says : (a : At) (t : Txn) (why : Refusal) → Says a (settle 3 a (and_grants a 0 (and_tell (told.Refused t why) nothing)))
refused_says a t why = inl (record { outs = refl; records = refl; told = (t, why, refl) })

settles : (a : At) (made : Made) → Ready a → Traces a made → Says a (settle 3 a (and_grants a 0 made))
settles a made ready k = inr (keep_settled (kept a) (settling a ready) 3 (and_grants a 0 made) (keep_grants (kept a) 0 made ((settling a ready).freed made) k))

or_says : (a : At) (t : Txn) (o : Option Refusal) (made : Made) → Ready a → (o ≡ None → Traces a made) → Says a (settle 3 a (and_grants a 0 (or_refused t o made)))
or_says a t None made ready k = settles a made ready (k refl)
or_says a t (Some why) made ready k = refused_says a t why

commits : (a : At) (t : Txn) → Commits a OfTxn (Tells a) (IsGrounded a) t
commits a t = record { allows = allows a t; asks = each-of (λ s. (s == a.site) ≡ false → Unit {0}) (λ s apart. tt) t.sites; concludes = concludes a t t.sites }

-- a message that was delivered
delivered_traces : (a : At) (p : Packet) (x : Message) → a.input ≡ input.Deliver p → p.msg ≡ x → MayTrace a p.«from» x
delivered_traces a p (msg.Do t n op) is same = inr (or_right (was_delivered t n a.life.steps) (is_do t n a.input)
    (rw (is, same) (and_from (n == n) (same_txn t t) (eq-eqb n n refl) (same_self t))))
delivered_traces a p (msg.Done t n inc answer) is same = inr (p, is, refl, (inc, answer, same))
delivered_traces a p x is same = tt

input_says : (a : At) (i : Input) → a.input ≡ i → Ready a → Says a (settle 3 a (and_grants a 0 (on_input a i nothing)))
input_says a (input.Begin sites) is ready = settles a (on_begin a sites nothing) ready (record { own = tt; outs = tt; records = tt; told = ((sites, is), tt) })
input_says a (input.Do t op) is ready = or_says a t (refuse a t false nothing) _ ready (λ allowed.
    sent a (key_of op).site (msg.Do t (suc (length (issued t a.life.steps))) op) nothing (record { takes = is; next = refl; allowed = allowed; there = refl }) (start a))
input_says a (input.Commit t) is ready = or_says a t (refuse a t false nothing) _ ready (λ allowed. keep_commit (kept a) t (commits a t) (allowed_open a t false allowed) (start a))
input_says a (input.Cancel t) is ready = or_says a t (refuse a t true nothing) _ ready (λ allowed.
    keep_abort (kept a) t nothing (allows a t) (aborts a t) (allowed_open a t true allowed) (start a))
input_says a (input.Expire t) is ready = settles a _ ready (keep_expire (kept a) t (allows a t) (aborts a t) (start a))
input_says a (input.Elect t group) is ready = settles a _ ready (keep_join (kept a) t (next_election a t group) _ (allows a t) (joins a t (next_election a t group))
    (keep_cast (kept a) group (msg.Ask t (next_election a t group).call) nothing (casts a (msg.Ask t (next_election a t group).call) group (λ s. tt)) (start a)))
input_says a (input.Deliver p) is ready = settles a _ ready
    (keep_message (kept a) p.«from» p.msg nothing (allows a (txn_in p.msg)) (hears a p.«from» p.msg (delivered_traces a p p.msg is refl)) (start a))

-- what a step says
pub step_says : (weights : List ℕ) (site : ℕ) (now : Incarnation) (i : Input) → AllSuit weights site (life_of now).steps → Suits weights site i →
    Says (place weights site now i) (step_of weights site now i)
step_says weights site now i suit fit =
    let a : At = place weights site now i in
    input_says a a.input refl (record { steps = suit; input = suits_unnumbered weights site i fit })
