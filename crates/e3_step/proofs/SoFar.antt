-- Rules only add records, so that a step as far as it is made has the first records of the whole.
use Rattle.std.specs.Prelude.{◌≡◌, ◌==◌, ◌++◌, ◌∷◌, [], ◌<◌, ℕ, zero, suc, Bool, true, false, List, fold, drop, length, take}
use Rattle.std.specs.List.{list_any}
use Rattle.std.proofs.Common.{◌∙◌, ap, append-nil, append_assoc, arith, get_or, refl, subst, sym}
use Rattle.e3_types.specs.declared.entries.Input.{Input}
use Rattle.e3_types.specs.declared.messages.Message.{Message}
use Rattle.e3_types.specs.declared.messages.Message.TheVariants as msg
use Rattle.e3_types.specs.declared.records.Record.{Record}
use Rattle.e3_types.specs.declared.transactions.Dir.TheVariants.{Abort}
use Rattle.e3_types.specs.declared.transactions.Txn.{Txn}
use Rattle.e3_world.specs.Gatherings.{Election}
use Rattle.e3_world.specs.declared.lives.Asked.{Asked}
use Rattle.e3_world.specs.declared.lives.At.{At}
use Rattle.e3_world.specs.declared.lives.Made.{Made}
use Rattle.e3_world.specs.Elections.{greatest_heard}
use Rattle.e3_world.specs.Making.{nothing, and_send, and_grant, and_grants, decides, grants_after}
use Rattle.e3_world.specs.Messages.{on_message}
use Rattle.e3_world.specs.Rounds.{count_ack}
use Rattle.e3_world.specs.Sound.{txn_in}
use Rattle.e3_world.specs.Steps.{handled, on_input, settle, step_at}
use Rattle.e3_laws.proofs.steps.Adding.{Allows, Casts, Preserves}
use Rattle.e3_laws.proofs.steps.Each.{each-of}
use Rattle.e3_laws.proofs.steps.Rules.{Concludes, Hears, Joins, keep_message}
use Rattle.e3_laws.proofs.steps.Whatever.{AnySent, AnyTold}
use Rattle.e3_step.specs.SoFar.{IsFrontOf, IsSoFar}

-- every record
abbrev AnyRecord : Record → Type 0
AnyRecord r = Unit {0}

-- the records of a step with all that it had at first
record Adds (was now : Made) : Type 0 where
  pub front : IsFrontOf was.records now.records

whole : (xs : List Record) → IsFrontOf xs xs
whole xs = record { rest = []; all = sym (append-nil xs) }

-- of three lists each begins with the one before it
front_on : (xs ys zs : List Record) → IsFrontOf xs ys → IsFrontOf ys zs → IsFrontOf xs zs
front_on xs ys zs first second = record {
  rest = first.rest ++ second.rest;
  all = second.all ∙ ap (λ (l : List Record). l ++ second.rest) first.all ∙ append_assoc xs first.rest second.rest;
}

one_more : (xs ys : List Record) (r : Record) → IsFrontOf xs ys → IsFrontOf xs (ys ++ r ∷ [])
one_more xs ys r front = front_on xs ys (ys ++ r ∷ []) front (record { rest = r ∷ []; all = refl })

-- a message leaves the records as they are
sent_same : (a : At) (to : ℕ) (m : Message) (made : Made) → (and_send a to m made).records ≡ made.records
sent_same a to m made = by (to == a.site) refl
  where
    by : (b : Bool) → (to == a.site) ≡ b → (and_send a to m made).records ≡ made.records
    by true is = rw is refl
    by false is = rw is refl

kept : (a : At) (was : Made) → Preserves a AnyRecord AnyTold AnySent (Adds was)
kept a was = record {
  records = λ r made any so_far. record { front = one_more was.records made.records r so_far.front };
  tells = λ e made any so_far. record { front = so_far.front };
  sends = λ to m made any so_far.
      record { front = subst (λ (l : List Record). IsFrontOf was.records l) (sym (sent_same a to m made)) so_far.front };
}

casts : (a : At) (m : Message) (sites : List ℕ) → Casts a AnySent m sites
casts a m sites = each-of (λ s. (s == a.site) ≡ false → Unit {0}) (λ s apart. tt) sites

allows : (a : At) (t : Txn) → Allows a AnyRecord AnyTold t
allows a t = record {
  vote = λ made free. tt;
  attempt = λ n dir made free. tt;
  decision = λ dir made free. tt;
  ended = λ dir. tt;
  verdict = λ n v. tt;
  doomed = λ f i j. tt;
  kept = λ st. tt;
}

concludes : (a : At) (t : Txn) (sites : List ℕ) → Concludes a AnySent t sites
concludes a t sites = record { decide = λ dir. casts a (msg.Decide t dir) sites; pre = λ n dir. casts a (msg.Pre t n dir) sites }

joins : (a : At) (t : Txn) (e : Election) → Joins a AnyRecord AnySent t e
joins a t e = record {
  join = λ all. tt;
  elected = λ all. casts a (msg.Elected t (suc (greatest_heard e))) e.group;
  concludes = concludes a t e.group;
}

hears : (a : At) (was : Made) (f : ℕ) (x : Message) → Hears a AnyRecord AnyTold AnySent (Adds was) f x
hears a was f (msg.Do t n op) = record {
  done = λ made p. tt;
  again = λ answer more is. tt;
  no = tt;
  told = λ older made p is. tt;
  died = λ older made p is other. tt;
  abort = casts a (msg.Decide t Abort) t.sites;
}
hears a was f (msg.Done t n inc answer) = ((λ made p heard. tt), casts a (msg.Decide t Abort) t.sites)
hears a was f (msg.Died t n older) = (tt, casts a (msg.Decide t Abort) t.sites)
hears a was f (msg.Ask t call) = λ n. tt
hears a was f (msg.LastElected t call n) = λ e more is took. joins a t more
hears a was f (msg.Elected t n) = (tt, (λ st attempt. tt))
hears a was f (msg.Report t n st attempt) = λ e more is took. concludes a t more.group
hears a was f (msg.VoteReq t inc count) = λ said. tt
hears a was f (msg.Vote t true) = concludes a t t.sites
hears a was f (msg.Vote t false) = casts a (msg.Decide t Abort) t.sites
hears a was f (msg.Pre t n dir) = tt
hears a was f (msg.Ack t n dir) = λ round is. casts a (msg.Decide t dir) (count_ack round f n dir).to
hears a was f (msg.Decide t dir) = tt

-- a message adds records at most
message_adds : (a : At) (f : ℕ) (x : Message) (made : Made) → IsFrontOf made.records (on_message a f x made).records
message_adds a f x made = (keep_message (kept a made) f x made (allows a (txn_in x)) (hears a made f x) (record { front = whole made.records })).front

-- requests that are granted are done, and nothing is recorded
granted_same : (a : At) (qs : List Asked) (made : Made) → (fold (and_grant a) made qs).records ≡ made.records
granted_same a [] made = refl
granted_same a (q ∷ qs) made = granted_same a qs (and_grant a made q) ∙ sent_same a q.txn.site _ made

grants_same : (a : At) (seen : ℕ) (made : Made) → (and_grants a seen made).records ≡ made.records
grants_same a seen made = by (list_any decides (drop seen made.records)) refl
  where
    by : (b : Bool) → list_any decides (drop seen made.records) ≡ b → (and_grants a seen made).records ≡ made.records
    by true is = rw is (granted_same a (grants_after a made) made)
    by false is = rw is refl

handled_adds : (a : At) (made : Made) (m : Message) → IsFrontOf made.records (handled a made m).records
handled_adds a made m =
    subst (λ (l : List Record). IsFrontOf made.records l) (sym (grants_same a (length made.records) (on_message a a.site m made))) (message_adds a a.site m made)

all_add : (a : At) (ms : List Message) (made : Made) → IsFrontOf made.records (fold (handled a) made ms).records
all_add a [] made = whole made.records
all_add a (m ∷ ms) made = front_on made.records (handled a made m).records (fold (handled a) (handled a made m) ms).records
    (handled_adds a made m) (all_add a ms (handled a made m))

settled_adds : (k : ℕ) (a : At) (made : Made) → IsFrontOf made.records (settle k a made).records
settled_adds zero a made = whole made.records
settled_adds (suc k) a made = front_on made.records (fold (handled a) (record made { own = [] }) made.own).records
    (settle k a (fold (handled a) (record made { own = [] }) made.own)).records
    (all_add a made.own (record made { own = [] })) (settled_adds k a (fold (handled a) (record made { own = [] }) made.own))

-- behind the next of these messages there are the first records of what they all make
within : (a : At) (ms : List Message) (i : ℕ) (m : Message) (made : Made) → i < length ms → m ≡ get_or ms i m
    → IsFrontOf (handled a (fold (handled a) made (take i ms)) m).records (fold (handled a) made ms).records
within a [] i m made h is = absurd (omega arith)
within a (x ∷ ms) zero m made h is =
    subst (λ (y : Message). IsFrontOf (handled a made y).records (fold (handled a) (handled a made x) ms).records) (sym is) (all_add a ms (handled a made x))
within a (x ∷ ms) (suc i) m made h is = within a ms i m (handled a made x) (omega arith) is

-- the records alone say how far a step is made
so_far_same : (a : At) (x y : Made) → x.records ≡ y.records → IsSoFar a x → IsSoFar a y
unfolding IsSoFar
so_far_same a x y same h = subst (λ (l : List Record). IsFrontOf l (step_at a).records) same h

so_far_before : (a : At) (x y : Made) → IsFrontOf x.records y.records → IsSoFar a y → IsSoFar a x
unfolding IsSoFar
so_far_before a x y front h = front_on x.records y.records (step_at a).records front h

-- a step that made nothing yet
pub so_far_nothing : (a : At) (made : Made) → made ≡ nothing → IsSoFar a made
unfolding IsSoFar
so_far_nothing a made is = subst (λ (l : List Record). IsFrontOf l (step_at a).records) (sym (ap (λ (m : Made). m.records) is)) (record { rest = (step_at a).records; all = refl })

-- a step before its last messages to its own site are handled
pub so_far_settled : (k : ℕ) (a : At) (made : Made) → settle k a made ≡ step_at a → IsSoFar a made
unfolding IsSoFar
so_far_settled k a made is = subst (λ (m : Made). IsFrontOf made.records m.records) is (settled_adds k a made)

-- a step with the answers to requests that are granted
pub so_far_granted : (a : At) (qs : List Asked) (was now : Made) → now ≡ fold (and_grant a) was qs → IsSoFar a was → IsSoFar a now
so_far_granted a qs was now is h = so_far_same a was now (sym (granted_same a qs was) ∙ sym (ap (λ (m : Made). m.records) is)) h

-- a step before one message is handled, and behind its rule
pub so_far_unhandled : (a : At) (made : Made) (m : Message) → IsSoFar a (handled a made m) → IsSoFar a made
so_far_unhandled a made m h = so_far_before a made (handled a made m) (handled_adds a made m) h

pub so_far_heard : (a : At) (f : ℕ) (m : Message) (old mid : Made) → f ≡ a.site → mid ≡ on_message a f m old → IsSoFar a (handled a old m) → IsSoFar a mid
so_far_heard a f m old mid own is h = so_far_same a (handled a old m) mid
    (grants_same a (length old.records) (on_message a a.site m old) ∙ sym (ap (λ (x : Made). x.records) (is ∙ ap (λ (s : ℕ). on_message a s m old) own))) h

-- a step behind the next of the messages that wait in it
pub so_far_next : (a : At) (start made : Made) (xs ms : List Message) (i : ℕ) (m : Message) → IsSoFar a (fold (handled a) start ms) → xs ≡ ms → i < length xs
    → m ≡ get_or xs i m → made ≡ fold (handled a) start (take i xs) → IsSoFar a (handled a made m)
so_far_next a start made xs ms i m all same h is e =
    subst (λ (x : Made). IsSoFar a (handled a x m)) (sym e)
    (so_far_before a (handled a (fold (handled a) start (take i xs)) m) (fold (handled a) start xs) (within a xs i m start h is)
    (subst (λ (l : List Message). IsSoFar a (fold (handled a) start l)) (sym same) all))

-- what is left of a step behind its input, and behind each list of messages to its own site
pub left_first : (a : At) (i : Input) (start made : Made) → i ≡ a.input → start ≡ on_input a i nothing → made ≡ and_grants a 0 start → settle 3 a made ≡ step_at a
left_first a i start made own is e =
    ap (λ (m : Made). settle 3 a m) (e ∙ ap (λ (m : Made). and_grants a 0 m) (is ∙ ap (λ (x : Input). on_input a x nothing) own))

pub left_next : (k : ℕ) (a : At) (was made : Made) → settle (suc k) a was ≡ step_at a → made ≡ fold (handled a) (record was { own = [] }) was.own → settle k a made ≡ step_at a
left_next k a was made left is = ap (λ (m : Made). settle k a m) is ∙ left

-- a step whose input alone was taken
pub so_far_taken : (a : At) (i : Input) (start : Made) → i ≡ a.input → start ≡ on_input a i nothing → IsSoFar a start
so_far_taken a i start own is = so_far_same a (and_grants a 0 start) start (grants_same a 0 start)
    (so_far_settled 3 a (and_grants a 0 start) (left_first a i start (and_grants a 0 start) own is refl))

-- a step behind a list of messages to its own site
pub so_far_once : (k : ℕ) (a : At) (was : Made) → settle (suc k) a was ≡ step_at a → IsSoFar a (fold (handled a) (record was { own = [] }) was.own)
so_far_once k a was left = so_far_settled k a (fold (handled a) (record was { own = [] }) was.own) left
