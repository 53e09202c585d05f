-- What handling a message adds to a step mentions only what may be mentioned.
use Rattle.std.proofs.Common.{◌≡◌, ◌==◌, ◌∷◌, ℕ, suc, true, false, List, subst}
use Rattle.std.specs.List.{AllByRecursion as Each}
use Rattle.e3_types.specs.declared.locks.Grant.{Grant}
use Rattle.e3_types.specs.declared.locks.Grant.TheVariants.{Dies}
use Rattle.e3_types.specs.declared.messages.Message.{Message}
use Rattle.e3_types.specs.declared.messages.Message.TheVariants as msg
use Rattle.e3_types.specs.declared.transactions.Answer.{Answer}
use Rattle.e3_types.specs.declared.transactions.Dir.TheVariants.{Abort}
use Rattle.e3_types.specs.declared.transactions.Op.{Op}
use Rattle.e3_types.specs.declared.transactions.Txn.{Txn}
use Rattle.e3_world.specs.Gatherings.{Election}
use Rattle.e3_world.specs.declared.lives.Asked.{Asked}
use Rattle.e3_world.specs.declared.lives.At.{At}
use Rattle.e3_world.specs.declared.lives.Made.{Made}
use Rattle.e3_world.specs.Elections.{greatest_heard}
use Rattle.e3_world.specs.Logs.{key_of, mode_of}
use Rattle.e3_world.specs.Making.{log_now, steps_now, grants_after, granted_on, asked_on, names_of}
use Rattle.e3_world.specs.Operations.{answers, arrivals, waiting, holders, queue}
use Rattle.e3_world.specs.Rounds.{count_ack}
use Rattle.e3_world.specs.Sound.{txn_in}
use Rattle.e3_laws.proofs.steps.Adding.{Allows, MayAnswer, Casts}
use Rattle.e3_laws.proofs.steps.Each.{each-filter, each-take, each-flat, each-of, each-weaker}
use Rattle.e3_laws.proofs.steps.Rules.{Concludes, Hears, Joins, Settles, grant_now}
use Rattle.e3_laws.specs.steps.Mentions.{Mention, OfTxn}
use Rattle.e3_laws.proofs.steps.Begun.Reading.{AnswerIs, RecordIs, MessageIs, AskedIs, GrantIs, arrivals_are, holders_are, queue_is, grant_is, answers_are, vote_is}
use Rattle.e3_laws.proofs.steps.Begun.Keeping.{Keeps, Ready, Sends, Tells, answer_is, inputs_are, inputs_now, log_is}

module _ (P : Mention → Type 0) (B : Txn → Type 0) where
  granted_are : (a : At) (made : Made) → Ready P a → Each (AskedIs P) (grants_after a made)
  granted_are a made ready =
      let waits : List Asked = waiting a.site (log_now a made) (steps_now a made) in
      let all : Each (AskedIs P) waits = each-filter (AskedIs P) _ (arrivals a.site (steps_now a made)) (arrivals_are P a.site (steps_now a made) (inputs_now P a made ready)) in
      each-flat (λ (name : List ℕ). Unit {0}) (AskedIs P) (granted_on a made waits)
      (λ name is. each-take (AskedIs P) _ (asked_on name waits) (each-filter (AskedIs P) _ waits all))
      (names_of waits) (each-of (λ (name : List ℕ). Unit {0}) (λ name. tt) (names_of waits))

  -- of a transaction that may be mentioned
  pub allows : (a : At) (t : Txn) → P (OfTxn t) → Ready P a → Allows a (RecordIs P) (Tells P B) t
  allows a t known ready = record {
    vote = λ made free. (known, vote_is P a.site t a.life.steps (inputs_are P a ready));
    attempt = λ n dir made free. (known, tt);
    decision = λ dir made free. (known, tt);
    ended = λ dir. ((known, tt), tt);
    verdict = λ n v. ((known, tt), tt);
    doomed = λ f i j. ((known, tt), tt);
    kept = λ st. ((known, tt), tt);
  }

  pub casts : (a : At) (m : Message) (sites : List ℕ) → MessageIs P m → Casts a (Sends P) m sites
  casts a m sites this = each-of (λ s. (s == a.site) ≡ false → MessageIs P m) (λ s apart. this) sites

  pub concludes : (a : At) (t : Txn) (sites : List ℕ) → P (OfTxn t) → Concludes a (Sends P) t sites
  concludes a t sites known = record { decide = λ dir. casts a (msg.Decide t dir) sites (known, tt); pre = λ n dir. casts a (msg.Pre t n dir) sites (known, tt) }

  pub joins : (a : At) (t : Txn) (e : Election) → P (OfTxn t) → Joins a (RecordIs P) (Sends P) t e
  joins a t e known = record { join = λ all. (known, tt); elected = λ all. casts a (msg.Elected t (suc (greatest_heard e))) e.group (known, tt); concludes = concludes a t e.group known }

  -- who holds or wants the lock may be mentioned
  elder : (a : At) (t : Txn) (op : Op) (older : Txn) (made : Made) → Ready P a → Keeps P B a.site made → grant_now a t op made ≡ Dies older → P (OfTxn older)
  elder a t op older made ready k is =
      let waits : Each (AskedIs P) (waiting a.site (log_now a made) a.life.steps) = each-filter (AskedIs P) _ (arrivals a.site a.life.steps) (arrivals_are P a.site a.life.steps (inputs_are P a ready)) in
      let all : GrantIs P (grant_now a t op made) = grant_is P (record { txn = t; mode = mode_of op }) (holders a.site (key_of op).name (log_now a made) a.life.steps)
      (queue (key_of op).name (waiting a.site (log_now a made) a.life.steps))
      (holders_are P a.site (key_of op).name (log_now a made) a.life.steps (log_is P B a made ready k) (inputs_are P a ready))
      (queue_is P (key_of op).name (waiting a.site (log_now a made) a.life.steps) waits) in
      let Q : Grant → Type 0 = GrantIs P in subst Q is all

  again : (a : At) (q : Asked) (answer : Answer) (more : List Answer) → Ready P a → answers q a.life.steps ≡ answer ∷ more → AnswerIs P answer
  again a q answer more ready is = let Q : List Answer → Type 0 = Each (AnswerIs P) in (subst Q is (answers_are P q a.life.steps ready.steps)).0

  -- each message
  pub hears : (a : At) (f : ℕ) (x : Message) → MessageIs P x → Ready P a → Hears a (RecordIs P) (Tells P B) (Sends P) (Keeps P B a.site) f x
  hears a f (msg.Do t n op) this ready = record {
    done = λ made k. (this.0, answer_is P B a t op made ready k);
    again = λ answer more is. (this.0, again a (record { txn = t; n = n; op = op }) answer more ready is);
    no = (this.0, tt);
    told = λ older made k is. ((this.0, (elder a t op older made ready k is, tt)), tt);
    died = λ older made k is other. (this.0, (elder a t op older made ready k is, tt));
    abort = casts a (msg.Decide t Abort) t.sites (this.0, tt);
  }
  hears a f (msg.Done t n inc answer) this ready = ((λ made k heard. ((this.0, this.1), tt)), casts a (msg.Decide t Abort) t.sites (this.0, tt))
  hears a f (msg.Died t n older) this ready = (((this.0, (this.1.0, tt)), tt), casts a (msg.Decide t Abort) t.sites (this.0, tt))
  hears a f (msg.Ask t call) this ready = λ n. (this.0, tt)
  hears a f (msg.LastElected t call n) this ready = λ e more is took. joins a t more this.0
  hears a f (msg.Elected t n) this ready = ((this.0, tt), (λ st attempt. (this.0, tt)))
  hears a f (msg.Report t n st attempt) this ready = λ e more is took. concludes a t more.group this.0
  hears a f (msg.VoteReq t inc count) this ready = λ said. (this.0, tt)
  hears a f (msg.Vote t true) this ready = concludes a t t.sites this.0
  hears a f (msg.Vote t false) this ready = casts a (msg.Decide t Abort) t.sites (this.0, tt)
  hears a f (msg.Pre t n dir) this ready = (this.0, tt)
  hears a f (msg.Ack t n dir) this ready = λ round is. casts a (msg.Decide t dir) (count_ack round f n dir).to (this.0, tt)
  hears a f (msg.Decide t dir) this ready = tt

  pub known : (x : Message) → MessageIs P x → P (OfTxn (txn_in x))
  known (msg.Do t n op) this = this.0
  known (msg.Done t n inc answer) this = this.0
  known (msg.Died t n older) this = this.0
  known (msg.Ask t call) this = this.0
  known (msg.LastElected t call n) this = this.0
  known (msg.Elected t n) this = this.0
  known (msg.Report t n st attempt) this = this.0
  known (msg.VoteReq t inc count) this = this.0
  known (msg.Vote t said) this = this.0
  known (msg.Pre t n dir) this = this.0
  known (msg.Ack t n dir) this = this.0
  known (msg.Decide t dir) this = this.0

  -- what the step makes of its messages to its own site
  pub settles : (a : At) → Ready P a → Settles a (RecordIs P) (Tells P B) (Sends P) (Keeps P B a.site)
  settles a ready = record {
    own = λ made k. each-weaker (MessageIs P) (λ x. Allows a (RecordIs P) (Tells P B) (txn_in x) × Hears a (RecordIs P) (Tells P B) (Sends P) (Keeps P B a.site) a.site x)
        (λ x this. (allows a (txn_in x) (known x this) ready, hears a a.site x this ready)) made.own k.own;
    emptied = λ made k. record { own = tt; outs = k.outs; records = k.records; told = k.told };
    freed = λ made k. each-weaker (AskedIs P) (MayAnswer a (Sends P) (Keeps P B a.site)) (λ q this now k_now. (this.0, answer_is P B a q.txn q.op now ready k_now))
        (grants_after a made) (granted_are a made ready);
  }
