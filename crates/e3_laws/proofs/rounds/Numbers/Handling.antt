-- What a site does with each message and each call keeps the bound, where the message does and the site joins no greater number.
use Rattle.std.proofs.Common.{◌≡◌, ◌==◌, ◌∷◌, [], ℕ, suc, Bool, true, false, List, Some, refl}
use Rattle.std.specs.List.{AllByRecursion as Each, list_all}
use Rattle.std.proofs.lemmas.Bool.{and_parts}
use Rattle.e3_types.specs.declared.entries.Input.{Input}
use Rattle.e3_types.specs.declared.entries.Input.TheVariants as input
use Rattle.e3_types.specs.declared.messages.Message.{Message}
use Rattle.e3_types.specs.declared.messages.Message.TheVariants as msg
use Rattle.e3_types.specs.declared.transactions.Call.{Call}
use Rattle.e3_types.specs.declared.transactions.Dir.TheVariants.{Abort}
use Rattle.e3_types.specs.declared.transactions.Txn.{Txn}
use Rattle.e3_world.specs.Gatherings.{Election}
use Rattle.e3_world.specs.declared.lives.At.{At}
use Rattle.e3_world.specs.declared.lives.Made.{Made}
use Rattle.e3_world.specs.ElectionRules.{and_join, on_elected, on_last}
use Rattle.e3_world.specs.Elections.{all_heard, election_in_progress, greatest_heard, hear}
use Rattle.e3_world.specs.Making.{nothing, and_grants, grants_after}
use Rattle.e3_world.specs.Messages.{on_message}
use Rattle.e3_world.specs.Rounds.{count_ack}
use Rattle.e3_world.specs.Sound.{txn_in}
use Rattle.e3_world.specs.Steps.{on_input, settle}
use Rattle.e3_laws.proofs.steps.Adding.{Allows, MayAnswer, keep_grants}
use Rattle.e3_laws.proofs.steps.Each.{each-of}
use Rattle.e3_laws.proofs.steps.Rules.{Concludes, Hears, Joins, Settles, keep_join, keep_message, keep_settled}
use Rattle.e3_laws.proofs.steps.Taking.{Takes, keep_input}
use Rattle.e3_laws.proofs.steps.Whatever.{AnyTold}
use Rattle.e3_laws.proofs.rounds.Numbers.Low.{Low, LowRecord, Sends, casts, is_low, is_quiet, kept, low_nothing}

allows : (t : Txn) (b : ℕ) (a : At) (u : Txn) → Allows a (LowRecord t b) AnyTold u
allows t b a u = record {
  vote = λ made free. refl;
  attempt = λ n dir made free. refl;
  decision = λ dir made free. refl;
  ended = λ dir. tt;
  verdict = λ n v. tt;
  doomed = λ f i j. tt;
  kept = λ st. tt;
}

concludes : (t : Txn) (b : ℕ) (a : At) (u : Txn) (sites : List ℕ) → Concludes a (Sends t b a) u sites
concludes t b a u sites = record { decide = λ dir. casts t b a (msg.Decide u dir) sites refl; pre = λ n dir. casts t b a (msg.Pre u n dir) sites refl }

-- an election of which all were heard joins the greatest number and one; any other joins none
joins : (t : Txn) (b : ℕ) (a : At) (u : Txn) (e : Election) → (all_heard e ≡ true → is_low t b u (suc (greatest_heard e)) ≡ true) → Joins a (LowRecord t b) (Sends t b a) u e
joins t b a u e within = record {
  join = within;
  elected = λ all. casts t b a (msg.Elected u (suc (greatest_heard e))) e.group (within all);
  concludes = concludes t b a u e.group;
}

-- a quiet message
hears : (t : Txn) (b : ℕ) (a : At) (f : ℕ) (m : Message) → is_quiet m ≡ true → Hears a (LowRecord t b) AnyTold (Sends t b a) (Low t b) f m
hears t b a f (msg.Do u n op) quiet = record {
  done = λ made k. (refl, (λ is. refl));
  again = λ answer more is. (refl, (λ own. refl));
  no = (refl, (λ is. refl));
  told = λ older made k is. tt;
  died = λ older made k is other. (refl, (λ own. refl));
  abort = casts t b a (msg.Decide u Abort) u.sites refl;
}
hears t b a f (msg.Done u n inc answer) quiet = ((λ made k heard. tt), casts t b a (msg.Decide u Abort) u.sites refl)
hears t b a f (msg.Died u n older) quiet = (tt, casts t b a (msg.Decide u Abort) u.sites refl)
hears t b a f (msg.Report u n st attempt) quiet = λ e more is took. concludes t b a u more.group
hears t b a f (msg.VoteReq u inc count) quiet = λ said. (refl, (λ is. refl))
hears t b a f (msg.Vote u true) quiet = concludes t b a u u.sites
hears t b a f (msg.Vote u false) quiet = casts t b a (msg.Decide u Abort) u.sites refl
hears t b a f (msg.Pre u n dir) quiet = (refl, (λ is. refl))
hears t b a f (msg.Ack u n dir) quiet = λ r is. casts t b a (msg.Decide u dir) (count_ack r f n dir).to refl
hears t b a f (msg.Decide u dir) quiet = tt
hears t b a f (msg.Ask u call) quiet = absurd cc
hears t b a f (msg.LastElected u call n) quiet = absurd cc
hears t b a f (msg.Elected u n) quiet = absurd cc

pub low_quiet : (t : Txn) (b : ℕ) (a : At) (f : ℕ) (m : Message) (made : Made) → is_quiet m ≡ true → Low t b made → Low t b (on_message a f m made)
low_quiet t b a f m made quiet k = keep_message (kept t b a) f m made (allows t b a (txn_in m)) (hears t b a f m quiet) k

-- a number of an election that keeps the bound: the site joins it, and reports
pub low_on_elected : (t : Txn) (b : ℕ) (a : At) (f : ℕ) (u : Txn) (n : ℕ) (made : Made) → is_low t b u n ≡ true → Low t b made → Low t b (on_elected a f u n made)
low_on_elected t b a f u n made low k = keep_message (kept t b a) f (msg.Elected u n) made (allows t b a u) (low, (λ st attempt. (refl, (λ is. refl)))) k

-- an answer to a call
pub low_on_last : (t : Txn) (b : ℕ) (a : At) (f : ℕ) (u : Txn) (call : Call) (n : ℕ) (made : Made) →
    ((e more : Election) → election_in_progress a.site a.life.inc u a.life.steps ≡ Some e → hear e f call n ≡ Some more → all_heard more ≡ true →
    is_low t b u (suc (greatest_heard more)) ≡ true) → Low t b made → Low t b (on_last a f u call n made)
low_on_last t b a f u call n made within k =
    keep_message (kept t b a) f (msg.LastElected u call n) made (allows t b a u) (λ e more is took. joins t b a u more (within e more is took)) k

pub low_join : (t : Txn) (b : ℕ) (a : At) (u : Txn) (e : Election) (made : Made) → (all_heard e ≡ true → is_low t b u (suc (greatest_heard e)) ≡ true) → Low t b made →
    Low t b (and_join a u e made)
low_join t b a u e made within k = keep_join (kept t b a) u e made (allows t b a u) (joins t b a u e within) k

-- what a client asks for
abbrev pub is_call : Input → Bool
is_call (input.Elect u group) = false
is_call (input.Deliver p) = false
is_call i = true

takes : (t : Txn) (b : ℕ) (a : At) (i : Input) → is_call i ≡ true → Takes a (LowRecord t b) AnyTold (Sends t b a) (Low t b) i
takes t b a (input.Begin sites) call = tt
takes t b a (input.Do u op) call = ((λ why is. tt), (λ allowed. (refl, (λ is. refl))))
takes t b a (input.Commit u) call = (
  (λ why is. tt),
  record {
    allows = allows t b a u;
    asks = each-of (λ s. (s == a.site) ≡ false → (true ≡ true) × ((s == a.site) ≡ true → true ≡ true)) (λ s apart. (refl, (λ is. refl))) u.sites;
    concludes = concludes t b a u u.sites;
  },
)
takes t b a (input.Cancel u) call = ((λ why is. tt), allows t b a u, casts t b a (msg.Decide u Abort) u.sites refl)
takes t b a (input.Expire u) call = (allows t b a u, casts t b a (msg.Decide u Abort) u.sites refl)
takes t b a (input.Elect u group) call = absurd cc
takes t b a (input.Deliver p) call = absurd cc

pub low_call : (t : Txn) (b : ℕ) (a : At) (i : Input) → is_call i ≡ true → Low t b (on_input a i nothing)
low_call t b a i call = keep_input (kept t b a) i (takes t b a i call) (low_nothing t b)

freed : (t : Txn) (b : ℕ) (a : At) (made : Made) → Low t b made → Each (MayAnswer a (Sends t b a) (Low t b)) (grants_after a made)
freed t b a made k = each-of (MayAnswer a (Sends t b a) (Low t b)) (λ q now k_now. (refl, (λ is. refl))) (grants_after a made)

-- the messages that wait in a step are handled
own : (t : Txn) (b : ℕ) (a : At) (ms : List Message) → list_all is_quiet ms ≡ true →
    Each (λ x. Allows a (LowRecord t b) AnyTold (txn_in x) × Hears a (LowRecord t b) AnyTold (Sends t b a) (Low t b) a.site x) ms
own t b a [] quiet = tt
own t b a (m ∷ ms) quiet =
    let parts = and_parts (is_quiet m) (list_all is_quiet ms) quiet in
    ((allows t b a (txn_in m), hears t b a a.site m parts.0), own t b a ms parts.1)

settles : (t : Txn) (b : ℕ) (a : At) → Settles a (LowRecord t b) AnyTold (Sends t b a) (Low t b)
settles t b a = record {
  own = λ made k. own t b a made.own k.own;
  emptied = λ made k. record { records = k.records; outs = k.outs; own = refl };
  freed = freed t b a;
}

-- a step, by what its rule makes
pub low_settled : (t : Txn) (b : ℕ) (a : At) (made : Made) → Low t b made → Low t b (settle 3 a (and_grants a 0 made))
low_settled t b a made k = keep_settled (kept t b a) (settles t b a) 3 (and_grants a 0 made) (keep_grants (kept t b a) 0 made (freed t b a made) k)
