-- What handling a message adds to a step meets the bounds of what is sent and recorded, where the message may be heard.
use Rattle.std.proofs.Common.{◌≡◌, ◌==◌, ℕ, suc, true, false, List, Option, Some, subst}
use Rattle.std.specs.List.{AllByRecursion as Each}
use Rattle.e3_types.specs.declared.messages.Message.{Message}
use Rattle.e3_types.specs.declared.messages.Message.TheVariants as msg
use Rattle.e3_types.specs.declared.transactions.Dir.TheVariants.{Abort}
use Rattle.e3_types.specs.declared.transactions.Txn.{Txn}
use Rattle.e3_types.specs.declared.verdicts.SiteReport.{SiteReport}
use Rattle.e3_types.specs.Sets.{has_site, is_within}
use Rattle.e3_world.specs.Gatherings.{Election}
use Rattle.e3_world.specs.declared.lives.Asked.{Asked}
use Rattle.e3_world.specs.declared.lives.At.{At}
use Rattle.e3_world.specs.declared.lives.Made.{Made}
use Rattle.e3_world.specs.Elections.{election_in_progress, hear as hear_in, take_report, greatest_heard}
use Rattle.e3_world.specs.Making.{log_now, steps_now, answer_now, grants_after, granted_on, asked_on, names_of}
use Rattle.e3_world.specs.Operations.{arrivals, waiting}
use Rattle.e3_world.specs.Rounds.{round_in_progress, count_ack}
use Rattle.e3_world.specs.Sound.{txn_in}
use Rattle.e3_laws.proofs.steps.Adding.{Allows, MayAnswer, Casts}
use Rattle.e3_laws.proofs.steps.Each.{IfAny, each-push, each-filter, each-take, each-flat, each-of, each-weaker}
use Rattle.e3_laws.proofs.steps.Rules.{Concludes, Hears, Joins, Settles}
use Rattle.e3_laws.specs.steps.Bounds.{BeginsOwn, MayHear, AsksWell, Suits, SuitsLog}
use Rattle.e3_laws.proofs.steps.Suits.Among.{hear, hear_all, within_self}
use Rattle.e3_laws.proofs.steps.Suits.Arriving.{AllSuit, arrivals_here, done_here}
use Rattle.e3_laws.proofs.steps.Suits.Gathering.{IsGroup, GoesTo, heard_group, report_group, election_group, round_goes, count_goes}
use Rattle.e3_laws.proofs.steps.Suits.Keeping.{Keeps, Knows, AskedHere, Sends}

-- the inputs of the site in this incarnation suit it, and so does the present one
pub record Ready (a : At) : Type 0 where
  pub steps : AllSuit a.weights a.site a.life.steps
  pub input : Suits a.weights a.site a.input

now_suits : (a : At) (made : Made) → Ready a → AllSuit a.weights a.site (steps_now a made)
now_suits a made ready = each-push (λ m. Suits a.weights a.site m.input) a.life.steps _ ready.steps ready.input

granted_here : (a : At) (made : Made) → Ready a → Each (AskedHere a.weights a.site) (grants_after a made)
granted_here a made ready =
    let waits : List Asked = waiting a.site (log_now a made) (steps_now a made) in
    let all : Each (AskedHere a.weights a.site) waits = each-filter (AskedHere a.weights a.site) _ (arrivals a.site (steps_now a made)) (arrivals_here a.weights a.site (steps_now a made) (now_suits a made ready)) in
    each-flat (λ (name : List ℕ). Unit {0}) (AskedHere a.weights a.site) (granted_on a made waits)
    (λ name is. each-take (AskedHere a.weights a.site) _ (asked_on name waits) (each-filter (AskedHere a.weights a.site) _ waits all))
    (names_of waits) (each-of (λ (name : List ℕ). Unit {0}) (λ name. tt) (names_of waits))

-- what a step records and tells of a transaction of the site
pub allows : (a : At) (t : Txn) → Knows a t → Ready a → Allows a (SuitsLog a.weights a.site) (BeginsOwn a.weights a.site) t
allows a t known ready = record {
  vote = λ made free. (known, done_here a.weights a.site t a.life.steps ready.steps);
  attempt = λ n dir made free. known;
  decision = λ dir made free. known;
  ended = λ dir. tt;
  verdict = λ n v. tt;
  doomed = λ f i j. tt;
  kept = λ st. tt;
}

-- a message to sites of its transaction
pub casts : (a : At) (m : Message) (sites : List ℕ) → Knows a (txn_in m) → is_within sites (txn_in m).sites ≡ true → ((s : ℕ) → AsksWell s a.site m) → Casts a (Sends a) m sites
casts a m sites known within asked = each-weaker (λ s. MayHear a.weights s a.site m) (λ s. (s == a.site) ≡ false → MayHear a.weights s a.site m) (λ s may apart. may)
    sites (hear_all a.weights a.site m sites known within asked)

pub aborts : (a : At) (t : Txn) → Knows a t → Casts a (Sends a) (msg.Decide t Abort) t.sites
aborts a t known = casts a (msg.Decide t Abort) t.sites known (within_self t.sites) (λ s. tt)

pub concludes : (a : At) (t : Txn) (sites : List ℕ) → Knows a t → is_within sites t.sites ≡ true → Concludes a (Sends a) t sites
concludes a t sites known within = record {
  decide = λ dir. casts a (msg.Decide t dir) sites known within (λ s. tt);
  pre = λ n dir. casts a (msg.Pre t n dir) sites known within (λ s. tt);
}

pub joins : (a : At) (t : Txn) (e : Election) → Knows a t → IsGroup t e → Joins a (SuitsLog a.weights a.site) (Sends a) t e
joins a t e known group = record {
  join = λ all. known;
  elected = λ all. casts a (msg.Elected t (suc (greatest_heard e))) e.group known group (λ s. tt);
  concludes = concludes a t e.group known group;
}

-- what the option is holds what there may be
held : {X : Type 0} (P : X → Type 0) (o : Option X) (x : X) → o ≡ Some x → IfAny P o → P x
held P o x is this = let Q : Option _ → Type 0 = λ y. IfAny P y in subst Q is this

-- the election in progress is among sites of its transaction
in_progress : (a : At) (t : Txn) (e : Election) → Ready a → election_in_progress a.site a.life.inc t a.life.steps ≡ Some e → IsGroup t e
in_progress a t e ready is = held (IsGroup t) (election_in_progress a.site a.life.inc t a.life.steps) e is (election_group a.weights a.site a.life.inc t a.life.steps ready.steps)

-- each message that the site may hear
pub hears : (a : At) (f : ℕ) (x : Message) → MayHear a.weights a.site f x → Ready a → Hears a (SuitsLog a.weights a.site) (BeginsOwn a.weights a.site) (Sends a) (Keeps a) f x
hears a f (msg.Do t n op) may ready = record {
  done = λ made k. hear a.weights t.site a.site (msg.Done t n a.life.inc (answer_now a t op made)) may.among home tt;
  again = λ answer more is. hear a.weights t.site a.site (msg.Done t n a.life.inc answer) may.among home tt;
  no = hear a.weights f a.site (msg.Vote t false) may.among may.sender tt;
  told = λ older made k is. tt;
  died = λ older made k is other. hear a.weights t.site a.site (msg.Died t n older) may.among home tt;
  abort = aborts a t may.among;
}
  where
    home : has_site t.sites t.site ≡ true
    home = let P : ℕ → Type 0 = λ s. has_site t.sites s ≡ true in subst P may.asked.0 may.sender
hears a f (msg.Done t n inc answer) may ready = ((λ made k heard. tt), aborts a t may.among)
hears a f (msg.Died t n older) may ready = (tt, aborts a t may.among)
hears a f (msg.Ask t call) may ready = λ n. hear a.weights f a.site (msg.LastElected t call n) may.among may.sender tt
hears a f (msg.LastElected t call n) may ready = λ e more is took.
    joins a t more may.among (held (IsGroup t) (hear_in e f call n) more took (heard_group t e f call n (in_progress a t e ready is)))
hears a f (msg.Elected t n) may ready = (may.among, (λ st attempt. hear a.weights f a.site (msg.Report t n st attempt) may.among may.sender tt))
hears a f (msg.Report t n st attempt) may ready = λ e more is took.
    let report : SiteReport = record { site = f; state = st; attempt = attempt } in
    concludes a t more.group may.among (held (IsGroup t) (take_report e n report) more took (report_group t e n report (in_progress a t e ready is)))
hears a f (msg.VoteReq t inc count) may ready = λ said. hear a.weights f a.site (msg.Vote t said) may.among may.sender tt
hears a f (msg.Vote t true) may ready = concludes a t t.sites may.among (within_self t.sites)
hears a f (msg.Vote t false) may ready = aborts a t may.among
hears a f (msg.Pre t n dir) may ready = hear a.weights f a.site (msg.Ack t n dir) may.among may.sender tt
hears a f (msg.Ack t n dir) may ready = λ r is. casts a (msg.Decide t dir) (count_ack r f n dir).to may.among
    (count_goes t r f n dir (held (GoesTo t) (round_in_progress a.site t a.life.steps) r is (round_goes a.weights a.site t a.life.steps ready.steps))) (λ s. tt)
hears a f (msg.Decide t dir) may ready = tt

-- the messages of a step to its own site
pub settles : (a : At) → Ready a → Settles a (SuitsLog a.weights a.site) (BeginsOwn a.weights a.site) (Sends a) (Keeps a)
settles a ready = record {
  own = λ made k. each-weaker (MayHear a.weights a.site a.site) (λ x. Allows a (SuitsLog a.weights a.site) (BeginsOwn a.weights a.site) (txn_in x) × Hears a (SuitsLog a.weights a.site) (BeginsOwn a.weights a.site) (Sends a) (Keeps a) a.site x)
      (λ x may. (allows a (txn_in x) may.among ready, hears a a.site x may ready)) made.own k.own;
  emptied = λ made k. record { own = tt; outs = k.outs; records = k.records; told = k.told };
  freed = λ made k. each-weaker (AskedHere a.weights a.site) (MayAnswer a (Sends a) (Keeps a))
      (λ q this now k_now. hear a.weights q.txn.site a.site (msg.Done q.txn q.n a.life.inc (answer_now a q.txn q.op now)) this.known this.home tt)
      (grants_after a made) (granted_here a made ready);
}
