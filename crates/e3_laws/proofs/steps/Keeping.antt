-- What is added to a step keeps a test of the messages that wait in it, and one of the packets that it sends.
use Rattle.std.proofs.Common.{◌≡◌, ◌==◌, ℕ, suc, Bool, true, false, List, refl, sym, ◌∙◌, true≢false}
use Rattle.std.specs.List.{list_all}
use Rattle.e3_types.specs.declared.messages.Message.{Message}
use Rattle.e3_types.specs.declared.messages.Message.TheVariants as msg
use Rattle.e3_types.specs.declared.records.Record.{Record}
use Rattle.e3_types.specs.declared.transactions.Answer.{Answer}
use Rattle.e3_types.specs.declared.transactions.Dir.{Dir}
use Rattle.e3_types.specs.declared.transactions.Txn.{Txn}
use Rattle.e3_world.specs.Gatherings.{Election}
use Rattle.e3_world.specs.declared.lives.At.{At}
use Rattle.e3_world.specs.declared.lives.Made.{Made}
use Rattle.e3_world.specs.Elections.{greatest_heard}
use Rattle.e3_world.specs.Making.{and_grants, and_send, grants_after}
use Rattle.e3_laws.proofs.steps.Adding.{Allows, MayAnswer, Casts, Preserves, keep_grants as grants_kept}
use Rattle.e3_laws.proofs.steps.Each.{each-of}
use Rattle.e3_laws.proofs.steps.Lists.{one_more}
use Rattle.e3_laws.proofs.steps.Rules.{Concludes, Joins}
use Rattle.e3_laws.proofs.steps.Whatever.{AnyTold}

-- all messages that wait pass the one test, and all packets the other
pub record Keeps (O P : Message → Bool) (made : Made) : Type 0 where
  pub own : list_all O made.own ≡ true
  pub outs : list_all (λ p. P p.msg) made.outs ≡ true

-- what a site may always send: the answers to operations that it does now
pub record Answers (O P : Message → Bool) (a : At) : Type 0 where
  pub own : (t : Txn) (n : ℕ) (answer : Answer) → O (msg.Done t n a.life.inc answer) ≡ true
  pub out : (t : Txn) (n : ℕ) (answer : Answer) → P (msg.Done t n a.life.inc answer) ≡ true

-- every record
abbrev pub AnyRecord : Record → Type 0
AnyRecord r = Unit {0}

-- a message to this site passes the one test, and one to another site the other
abbrev pub Passes : (Message → Bool) → (Message → Bool) → At → ℕ → Message → Type 0
Passes O P a to m = ((to == a.site) ≡ true → O m ≡ true) × ((to == a.site) ≡ false → P m ≡ true)

sent : (O P : Message → Bool) (a : At) (to : ℕ) (m : Message) (made : Made) → Passes O P a to m → Keeps O P made → Keeps O P (and_send a to m made)
sent O P a to m made may k = by (to == a.site) refl
  where
    by : (b : Bool) → (to == a.site) ≡ b → Keeps O P (and_send a to m made)
    by true is = rw is (record { own = one_more O made.own m k.own (may.0 is); outs = k.outs })
    by false is = rw is (record { own = k.own; outs = one_more (λ p. P p.msg) made.outs (record { number = 0; «from» = a.site; to = to; msg = m }) k.outs (may.1 is) })

pub kept : (O P : Message → Bool) (a : At) → Preserves a AnyRecord AnyTold (Passes O P a) (Keeps O P)
kept O P a = record {
  records = λ r made any k. record { own = k.own; outs = k.outs };
  tells = λ e made any k. record { own = k.own; outs = k.outs };
  sends = λ to m made may k. sent O P a to m made may k;
}

pub allows : (a : At) (t : Txn) → Allows a AnyRecord AnyTold t
allows a t = record {
  vote = λ made free. tt;
  attempt = λ n dir made free. tt;
  decision = λ dir made free. tt;
  ended = λ dir. tt;
  verdict = λ n v. tt;
  doomed = λ f i j. tt;
  kept = λ st. tt;
}

-- a message to a site that is another
pub out : (O P : Message → Bool) (a : At) (to : ℕ) (m : Message) → (to == a.site) ≡ false → P m ≡ true → Passes O P a to m
out O P a to m apart passes = ((λ is. absurd (true≢false (sym is ∙ apart))), (λ other. passes))

pub casts : (O P : Message → Bool) (a : At) (m : Message) (sites : List ℕ) → P m ≡ true → Casts a (Passes O P a) m sites
casts O P a m sites passes = each-of (λ s. (s == a.site) ≡ false → Passes O P a s m) (λ s apart. out O P a s m apart passes) sites

pub concludes : (O P : Message → Bool) (a : At) (t : Txn) (sites : List ℕ) → ((dir : Dir) → P (msg.Decide t dir) ≡ true) → ((n : ℕ) (dir : Dir) → P (msg.Pre t n dir) ≡ true) →
    Concludes a (Passes O P a) t sites
concludes O P a t sites decide pre = record { decide = λ dir. casts O P a (msg.Decide t dir) sites (decide dir); pre = λ n dir. casts O P a (msg.Pre t n dir) sites (pre n dir) }

pub joins : (O P : Message → Bool) (a : At) (t : Txn) (e : Election) → ((n : ℕ) → P (msg.Elected t n) ≡ true) → ((dir : Dir) → P (msg.Decide t dir) ≡ true) →
    ((n : ℕ) (dir : Dir) → P (msg.Pre t n dir) ≡ true) → Joins a AnyRecord (Passes O P a) t e
joins O P a t e elected decide pre = record {
  join = λ all. tt;
  elected = λ all. casts O P a (msg.Elected t (suc (greatest_heard e))) e.group (elected (suc (greatest_heard e)));
  concludes = concludes O P a t e.group decide pre;
}

-- requests that a decision has freed are done
pub keep_grants : (O P : Message → Bool) (a : At) (seen : ℕ) (made : Made) → Answers O P a → Keeps O P made → Keeps O P (and_grants a seen made)
keep_grants O P a seen made may k = grants_kept (kept O P a) seen made
    (λ so_far. each-of (MayAnswer a (Passes O P a) (Keeps O P)) (λ q now k_now. ((λ is. may.own q.txn q.n _), (λ apart. may.out q.txn q.n _))) (grants_after a made)) k
