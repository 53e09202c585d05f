-- A property that every message and event keeps: of a step it asks only what its records have to be.
use Rattle.std.proofs.Common.{◌≡◌, ◌==◌, [], ℕ, suc, true, false, List}
use Rattle.e3_types.specs.declared.entries.Input.{Input}
use Rattle.e3_types.specs.declared.entries.Input.TheVariants as input
use Rattle.e3_types.specs.declared.entries.Told.{Told}
use Rattle.e3_types.specs.declared.messages.Message.{Message}
use Rattle.e3_types.specs.declared.messages.Message.TheVariants as msg
use Rattle.e3_types.specs.declared.records.Record.{Record}
use Rattle.e3_types.specs.declared.records.Record.TheVariants as log
use Rattle.e3_types.specs.declared.transactions.Dir.{Dir}
use Rattle.e3_types.specs.declared.transactions.Dir.TheVariants.{Abort}
use Rattle.e3_types.specs.declared.transactions.Txn.{Txn}
use Rattle.e3_world.specs.Gatherings.{Election}
use Rattle.e3_world.specs.declared.lives.At.{At}
use Rattle.e3_world.specs.declared.lives.Made.{Made}
use Rattle.e3_world.specs.Elections.{greatest_heard}
use Rattle.e3_world.specs.Making.{nothing, grants_after, open_now}
use Rattle.e3_world.specs.Rounds.{count_ack}
use Rattle.e3_world.specs.Sound.{txn_in}
use Rattle.e3_world.specs.Steps.{step_at}
use Rattle.e3_laws.proofs.steps.Adding.{Allows, MayAnswer, Casts, Preserves, vote_of}
use Rattle.e3_laws.proofs.steps.Each.{each-of}
use Rattle.e3_laws.proofs.steps.Rules.{Concludes, Hears, Joins}
use Rattle.e3_laws.proofs.steps.Taking.{Takes, keep_step, next_election}

-- every event, and every message to any site
abbrev pub AnyTold : Told → Type 0
AnyTold e = Unit {0}

abbrev pub AnySent : ℕ → Message → Type 0
AnySent to m = Unit {0}

-- what the records of a step have to be
pub record Records (a : At) (R : Record → Type 0) : Type 0 where
  pub vote : (t : Txn) (made : Made) → open_now a t made ≡ true → R (vote_of a t)
  pub join : (t : Txn) (n : ℕ) → R (log.Join t n)
  pub attempt : (t : Txn) (n : ℕ) (dir : Dir) (made : Made) → open_now a t made ≡ true → R (log.Attempt t n dir)
  pub decision : (t : Txn) (dir : Dir) (made : Made) → open_now a t made ≡ true → R (log.Decision t dir)

casts : (a : At) (m : Message) (sites : List ℕ) → Casts a AnySent m sites
casts a m sites = each-of (λ s. (s == a.site) ≡ false → Unit {0}) (λ s apart. tt) sites

concludes : (a : At) (t : Txn) (sites : List ℕ) → Concludes a AnySent t sites
concludes a t sites = record { decide = λ dir. casts a (msg.Decide t dir) sites; pre = λ n dir. casts a (msg.Pre t n dir) sites }

module _ (a : At) (R : Record → Type 0) (P : Made → Type 0) (r : Records a R) where
  allows : (t : Txn) → Allows a R AnyTold t
  allows t = record {
    vote = r.vote t;
    attempt = r.attempt t;
    decision = r.decision t;
    ended = λ dir. tt;
    verdict = λ n v. tt;
    doomed = λ f i j. tt;
    kept = λ st. tt;
  }

  joins : (t : Txn) (e : Election) → Joins a R AnySent t e
  joins t e = record {
    join = λ all. r.join t (suc (greatest_heard e));
    elected = λ all. casts a (msg.Elected t (suc (greatest_heard e))) e.group;
    concludes = concludes a t e.group;
  }

  hears : (f : ℕ) (x : Message) → Hears a R AnyTold AnySent P f x
  hears f (msg.Do t n op) = record {
    done = λ made p. tt;
    again = λ answer more is. tt;
    no = tt;
    told = λ older made p is. tt;
    died = λ older made p is other. tt;
    abort = casts a (msg.Decide t Abort) t.sites;
  }
  hears f (msg.Done t n inc answer) = ((λ made p heard. tt), casts a (msg.Decide t Abort) t.sites)
  hears f (msg.Died t n older) = (tt, casts a (msg.Decide t Abort) t.sites)
  hears f (msg.Ask t call) = λ n. tt
  hears f (msg.LastElected t call n) = λ e more is took. joins t more
  hears f (msg.Elected t n) = (r.join t n, (λ st attempt. tt))
  hears f (msg.Report t n st attempt) = λ e more is took. concludes a t more.group
  hears f (msg.VoteReq t inc count) = λ said. tt
  hears f (msg.Vote t true) = concludes a t t.sites
  hears f (msg.Vote t false) = casts a (msg.Decide t Abort) t.sites
  hears f (msg.Pre t n dir) = tt
  hears f (msg.Ack t n dir) = λ round is. casts a (msg.Decide t dir) (count_ack round f n dir).to
  hears f (msg.Decide t dir) = tt

  takes : (i : Input) → Takes a R AnyTold AnySent P i
  takes (input.Begin sites) = tt
  takes (input.Do t op) = ((λ why is. tt), (λ allowed. tt))
  takes (input.Commit t) = (
    (λ why is. tt),
    record {
      allows = allows t;
      asks = each-of (λ s. (s == a.site) ≡ false → Unit {0}) (λ s apart. tt) t.sites;
      concludes = concludes a t t.sites;
    },
  )
  takes (input.Cancel t) = ((λ why is. tt), allows t, casts a (msg.Decide t Abort) t.sites)
  takes (input.Expire t) = (allows t, casts a (msg.Decide t Abort) t.sites)
  takes (input.Elect t group) = (allows t, casts a (msg.Ask t (next_election a t group).call) group, joins t (next_election a t group))
  takes (input.Deliver packet) = (allows (txn_in packet.msg), hears packet.«from» packet.msg)

  -- a whole step
  pub keep_whole : Preserves a R AnyTold AnySent P → ((made : Made) → P made → P (record made { own = [] })) → P nothing → P (step_at a)
  keep_whole k emptied p = keep_step k (record {
    own = λ made kept. each-of (λ x. Allows a R AnyTold (txn_in x) × Hears a R AnyTold AnySent P a.site x) (λ x. (allows (txn_in x), hears a.site x)) made.own;
    emptied = emptied;
    freed = λ made kept. each-of (MayAnswer a AnySent P) (λ q now p_now. tt) (grants_after a made);
  }) (takes a.input) p
