-- A whole step makes the same at two places that are alike: what it records was open in the log, so the tables stay the same.
use Rattle.std.proofs.Common.{◌≡◌, ◌==◌, ◌∷◌, [], ℕ, zero, suc, Bool, true, false, List, refl, ap, ◌∙◌, fold, length}
use Rattle.std.specs.List.{AllByRecursion as Each}
use Rattle.e3_types.specs.declared.entries.Input.{Input}
use Rattle.e3_types.specs.declared.entries.Input.TheVariants as input
use Rattle.e3_types.specs.declared.messages.Message.{Message}
use Rattle.e3_types.specs.declared.messages.Message.TheVariants as msg
use Rattle.e3_types.specs.declared.transactions.Dir.TheVariants.{Abort}
use Rattle.e3_types.specs.declared.transactions.Txn.{Txn}
use Rattle.e3_world.specs.Gatherings.{Election}
use Rattle.e3_world.specs.declared.lives.Made.{Made}
use Rattle.e3_world.specs.Elections.{greatest_heard}
use Rattle.e3_world.specs.Logs.{is_undecided}
use Rattle.e3_world.specs.Making.{and_grants, and_send, grants_after, nothing, open_now}
use Rattle.e3_world.specs.Messages.{on_message}
use Rattle.e3_world.specs.Rounds.{count_ack}
use Rattle.e3_world.specs.Sound.{txn_in}
use Rattle.e3_world.specs.Steps.{handled, on_input, settle, step_at}
use Rattle.e3_laws.proofs.steps.Adding.{Allows, Casts, MayAnswer, Preserves, keep_grants}
use Rattle.e3_laws.proofs.steps.Each.{each-of, each-push}
use Rattle.e3_laws.proofs.steps.Rules.{Concludes, Hears, Joins, keep_message}
use Rattle.e3_laws.proofs.steps.Taking.{Takes, keep_input, next_election}
use Rattle.e3_laws.proofs.steps.Undecided.{open_before}
use Rattle.e3_laws.proofs.steps.Whatever.{AnySent, AnyTold}
use Rattle.e3_laws.proofs.brief.Alike.Inputs.{input_same}
use Rattle.e3_laws.proofs.brief.Alike.Pairs.{Pair, SameTable, one, other}
use Rattle.e3_laws.proofs.brief.Alike.Rules.{freed_same, message_same}
use Rattle.e3_laws.proofs.brief.Alike.Tables.{WasOpen, table_more}

-- the step so far votes for and decides only what was open in the log
record Opens (p : Pair) (made : Made) : Type 0 where
  records : Each (WasOpen p.mine) made.records

table_now : (p : Pair) (made : Made) → Opens p made → SameTable p made.records
table_now p made o = table_more p.mine p.theirs made.records p.notes p.table o.records

was_open : (p : Pair) (t : Txn) (made : Made) → open_now (one p) t made ≡ true → is_undecided t p.mine ≡ true
was_open p t made is = open_before t p.mine made.records is

sent : (p : Pair) (to : ℕ) (m : Message) (made : Made) → Opens p made → Opens p (and_send (one p) to m made)
sent p to m made o = by (to == p.site) refl
  where
    by : (b : Bool) → (to == p.site) ≡ b → Opens p (and_send (one p) to m made)
    by true is = rw is (record { records = o.records })
    by false is = rw is (record { records = o.records })

kept : (p : Pair) → Preserves (one p) (WasOpen p.mine) AnyTold AnySent (Opens p)
kept p = record {
  records = λ r made may o. record { records = each-push (WasOpen p.mine) made.records r o.records may };
  tells = λ e made any o. record { records = o.records };
  sends = λ to m made any o. sent p to m made o;
}

-- every event and every message keeps that
casts : (p : Pair) (m : Message) (sites : List ℕ) → Casts (one p) AnySent m sites
casts p m sites = each-of (λ s. (s == p.site) ≡ false → Unit {0}) (λ s apart. tt) sites

concludes : (p : Pair) (t : Txn) (sites : List ℕ) → Concludes (one p) AnySent t sites
concludes p t sites = record { decide = λ dir. casts p (msg.Decide t dir) sites; pre = λ n dir. casts p (msg.Pre t n dir) sites }

allows : (p : Pair) (t : Txn) → Allows (one p) (WasOpen p.mine) AnyTold t
allows p t = record {
  vote = λ made free. was_open p t made free;
  attempt = λ n dir made free. tt;
  decision = λ dir made free. was_open p t made free;
  ended = λ dir. tt;
  verdict = λ n v. tt;
  doomed = λ f i j. tt;
  kept = λ st. tt;
}

joins : (p : Pair) (t : Txn) (e : Election) → Joins (one p) (WasOpen p.mine) AnySent t e
joins p t e = record {
  join = λ all. tt;
  elected = λ all. casts p (msg.Elected t (suc (greatest_heard e))) e.group;
  concludes = concludes p t e.group;
}

hears : (p : Pair) (f : ℕ) (x : Message) → Hears (one p) (WasOpen p.mine) AnyTold AnySent (Opens p) f x
hears p f (msg.Do t n op) = record {
  done = λ made o. tt;
  again = λ answer more is. tt;
  no = tt;
  told = λ older made o is. tt;
  died = λ older made o is other. tt;
  abort = casts p (msg.Decide t Abort) t.sites;
}
hears p f (msg.Done t n inc answer) = ((λ made o heard. tt), casts p (msg.Decide t Abort) t.sites)
hears p f (msg.Died t n older) = (tt, casts p (msg.Decide t Abort) t.sites)
hears p f (msg.Ask t call) = λ n. tt
hears p f (msg.LastElected t call n) = λ e more is took. joins p t more
hears p f (msg.Elected t n) = (tt, (λ st attempt. tt))
hears p f (msg.Report t n st attempt) = λ e more is took. concludes p t more.group
hears p f (msg.VoteReq t inc count) = λ said. tt
hears p f (msg.Vote t true) = concludes p t t.sites
hears p f (msg.Vote t false) = casts p (msg.Decide t Abort) t.sites
hears p f (msg.Pre t n dir) = tt
hears p f (msg.Ack t n dir) = λ round is. casts p (msg.Decide t dir) (count_ack round f n dir).to
hears p f (msg.Decide t dir) = tt

takes : (p : Pair) (i : Input) → Takes (one p) (WasOpen p.mine) AnyTold AnySent (Opens p) i
takes p (input.Begin sites) = tt
takes p (input.Do t op) = ((λ why is. tt), (λ allowed. tt))
takes p (input.Commit t) = (
  (λ why is. tt),
  record {
    allows = allows p t;
    asks = each-of (λ s. (s == p.site) ≡ false → Unit {0}) (λ s apart. tt) t.sites;
    concludes = concludes p t t.sites;
  },
)
takes p (input.Cancel t) = ((λ why is. tt), allows p t, casts p (msg.Decide t Abort) t.sites)
takes p (input.Expire t) = (allows p t, casts p (msg.Decide t Abort) t.sites)
takes p (input.Elect t group) = (allows p t, casts p (msg.Ask t (next_election (one p) t group).call) group, joins p t (next_election (one p) t group))
takes p (input.Deliver packet) = (allows p (txn_in packet.msg), hears p packet.«from» packet.msg)

freed : (p : Pair) (seen : ℕ) (made : Made) → Opens p made → Opens p (and_grants (one p) seen made)
freed p seen made o = keep_grants (kept p) seen made (λ so_far. each-of (MayAnswer (one p) AnySent (Opens p)) (λ q now k. tt) (grants_after (one p) made)) o

-- one message of the step to its own site
handled_same : (p : Pair) (made : Made) (x : Message) → Opens p made → (handled (one p) made x ≡ handled (other p) made x) × Opens p (handled (one p) made x)
handled_same p made x o = (
  freed_same p (length made.records) now (table_now p now o_now) ∙ ap (λ (m : Made). and_grants (other p) (length made.records) m) (message_same p p.site x made (table_now p made o)),
  freed p (length made.records) now o_now,
)
  where
    now : Made
    now = on_message (one p) p.site x made

    o_now : Opens p now
    o_now = keep_message (kept p) p.site x made (allows p (txn_in x)) (hears p p.site x) o

each_same : (p : Pair) (xs : List Message) (made : Made) → Opens p made → (fold (handled (one p)) made xs ≡ fold (handled (other p)) made xs) × Opens p (fold (handled (one p)) made xs)
each_same p [] made o = (refl, o)
each_same p (x ∷ xs) made o =
    let h = handled_same p made x o in
    let r = each_same p xs (handled (one p) made x) h.1 in
    (r.0 ∙ ap (λ (m : Made). fold (handled (other p)) m xs) h.0, r.1)

settled_same : (p : Pair) (n : ℕ) (made : Made) → Opens p made → settle n (one p) made ≡ settle n (other p) made
settled_same p zero made o = refl
settled_same p (suc n) made o =
    let r = each_same p made.own (record made { own = [] }) (record { records = o.records }) in
    settled_same p n (fold (handled (one p)) (record made { own = [] }) made.own) r.1 ∙ ap (λ (m : Made). settle n (other p) m) r.0

-- a whole step
pub step_same : (p : Pair) → step_at (one p) ≡ step_at (other p)
step_same p =
    settled_same p 3 (and_grants (one p) 0 now) (freed p 0 now o_now)
    ∙ ap (λ (m : Made). settle 3 (other p) m)
    (freed_same p 0 now (table_now p now o_now) ∙ ap (λ (m : Made). and_grants (other p) 0 m) (input_same p p.input nothing (table_now p nothing start)))
  where
    start : Opens p nothing
    start = record { records = tt }

    now : Made
    now = on_input (one p) p.input nothing

    o_now : Opens p now
    o_now = keep_input (kept p) p.input (takes p p.input) start
