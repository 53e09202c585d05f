-- What an input makes wait, and the laws.
use Rattle.std.proofs.Common.{◌≡◌, ◌==◌, ◌&&◌, ◌∷◌, [], ℕ, ◌≤◌, Bool, true, false, List, refl, nat_lt, arith}
use Rattle.std.specs.List.{list_all}
use Rattle.e3_types.specs.declared.entries.Input.{Input}
use Rattle.e3_types.specs.declared.entries.Input.TheVariants as input
use Rattle.e3_types.specs.declared.messages.Message.{Message}
use Rattle.e3_types.specs.declared.messages.Message.TheVariants as msg
use Rattle.e3_types.specs.declared.messages.Packet.{Packet}
use Rattle.e3_types.specs.declared.transactions.Dir.TheVariants.{Abort}
use Rattle.e3_types.specs.Ranks.{rank}
use Rattle.e3_world.specs.declared.lives.At.{At}
use Rattle.e3_world.specs.declared.lives.Made.{Made}
use Rattle.e3_world.specs.Lives.{life_of}
use Rattle.e3_world.specs.Making.{nothing, and_grants}
use Rattle.e3_world.specs.Messages.{on_message}
use Rattle.e3_world.specs.Moves.{unnumbered, unnumbered_input}
use Rattle.e3_world.specs.Operations.{expected}
use Rattle.e3_world.specs.Steps.{on_input, handled}
use Rattle.e3_laws.specs.steps.Waiting.{is_answer, may_wait, ranks_below}
use Rattle.e3_laws.specs.steps.Claims.{OwnRanksFall, OwnMessagesEnd, PacketRanksFall}
use Rattle.e3_laws.proofs.steps.Keeping.{Keeps, Answers, AnyRecord, Passes, allows, casts, concludes, joins, kept, keep_grants, out}
use Rattle.e3_laws.proofs.steps.Each.{each-of}
use Rattle.e3_laws.proofs.steps.Rules.{Hears}
use Rattle.e3_laws.proofs.steps.Taking.{Takes, keep_input as inputs_kept, next_election}
use Rattle.e3_laws.proofs.steps.Whatever.{AnyTold}
use Rattle.e3_world.specs.Sound.{txn_in}
use Rattle.e3_laws.proofs.steps.Ending.{Replies, waits_first, below, keep_message, keep_handled, own_done, settles, replies_any, start, hears}
use Rattle.e3_laws.proofs.steps.Tests.{few_ranks}
use Rattle.e3_world.proofs.Turns.{self}

-- what a message from anywhere may add
hears_any : (a : At) (f : ℕ) (x : Message) → Hears a AnyRecord AnyTold (Passes (waits_first a 12) (below 12) a) (Keeps (waits_first a 12) (below 12)) f x
hears_any a f x = by (is_answer x) refl
  where
    answer : (y : Message) → is_answer y ≡ true → Hears a AnyRecord AnyTold (Passes (waits_first a 12) (below 12) a) (Keeps (waits_first a 12) (below 12)) f y
    answer (msg.Done t n inc it) is = ((λ made k heard. tt), casts (waits_first a 12) (below 12) a (msg.Decide t Abort) t.sites refl)
    answer (msg.Do t n op) is = absurd cc
    answer (msg.Died t n older) is = absurd cc
    answer (msg.Ask t call) is = absurd cc
    answer (msg.LastElected t call elected) is = absurd cc
    answer (msg.Elected t n) is = absurd cc
    answer (msg.Report t n st attempt) is = absurd cc
    answer (msg.VoteReq t inc count) is = absurd cc
    answer (msg.Vote t said) is = absurd cc
    answer (msg.Pre t n dir) is = absurd cc
    answer (msg.Ack t n dir) is = absurd cc
    answer (msg.Decide t dir) is = absurd cc

    by : (b : Bool) → is_answer x ≡ b → Hears a AnyRecord AnyTold (Passes (waits_first a 12) (below 12) a) (Keeps (waits_first a 12) (below 12)) f x
    by false asks = hears (waits_first a 12) (below 12) a f x asks (replies_any a 12 x asks refl (let few : rank x ≤ 11 = few_ranks x in omega (arith, few)))
    by true is = answer x is

-- what each input may add
takes : (a : At) (i : Input) → Takes a AnyRecord AnyTold (Passes (waits_first a 12) (below 12) a) (Keeps (waits_first a 12) (below 12)) i
takes a (input.Begin sites) = tt
takes a (input.Do t op) = ((λ why is. tt), (λ allowed. ((λ is. refl), (λ apart. refl))))
takes a (input.Commit t) = (
  (λ why is. tt),
  record {
    allows = allows a t;
    asks = each-of (λ s. (s == a.site) ≡ false → Passes (waits_first a 12) (below 12) a s (msg.VoteReq t (expected a.site a.life.inc t a.life.steps s).inc (expected a.site a.life.inc t a.life.steps s).count))
        (λ s apart. out (waits_first a 12) (below 12) a s (msg.VoteReq t (expected a.site a.life.inc t a.life.steps s).inc (expected a.site a.life.inc t a.life.steps s).count) apart refl) t.sites;
    concludes = concludes (waits_first a 12) (below 12) a t t.sites (λ dir. refl) (λ n dir. refl);
  },
)
takes a (input.Cancel t) = ((λ why is. tt), allows a t, casts (waits_first a 12) (below 12) a (msg.Decide t Abort) t.sites refl)
takes a (input.Expire t) = (allows a t, casts (waits_first a 12) (below 12) a (msg.Decide t Abort) t.sites refl)
takes a (input.Elect t group) = (
  allows a t,
  casts (waits_first a 12) (below 12) a (msg.Ask t (next_election a t group).call) group refl,
  joins (waits_first a 12) (below 12) a t (next_election a t group) (λ n. refl) (λ dir. refl) (λ n dir. refl),
)
takes a (input.Deliver packet) = (allows a (txn_in packet.msg), hears_any a packet.«from» packet.msg)

-- each input makes such messages wait
keep_input : (a : At) (i : Input) → Keeps (waits_first a 12) (below 12) (on_input a i nothing)
keep_input a i = inputs_kept (kept (waits_first a 12) (below 12) a) i (takes a i) (start _ _)

answers_first : (a : At) (k : ℕ) → nat_lt 0 k ≡ true → Answers (waits_first a k) (below k) a
answers_first a k some = record { own = λ t n answer. rw (self a.life.inc, some) refl; out = λ t n answer. some }

pub own_end : OwnMessagesEnd
own_end weights site now i =
    let a : At = record { weights = weights; site = site; life = life_of now; input = unnumbered_input i } in
    (settles a 12 (and_grants a 0 (on_input a a.input nothing)) (keep_grants _ _ a 0 _ (answers_first a 12 refl) (keep_input a a.input))).own

some_rank : (x : Message) → is_answer x ≡ false → nat_lt 0 (rank x) ≡ true
some_rank (msg.Do t n op) asks = refl
some_rank (msg.Done t n inc answer) asks = absurd cc
some_rank (msg.Died t n older) asks = refl
some_rank (msg.Ask t call) asks = refl
some_rank (msg.LastElected t call elected) asks = refl
some_rank (msg.Elected t n) asks = refl
some_rank (msg.Report t n st attempt) asks = refl
some_rank (msg.VoteReq t inc count) asks = refl
some_rank (msg.Vote t said) asks = refl
some_rank (msg.Pre t n dir) asks = refl
some_rank (msg.Ack t n dir) asks = refl
some_rank (msg.Decide t dir) asks = refl

pub packets_fall : PacketRanksFall
packets_fall weights site now packet asks =
    let a : At = record { weights = weights; site = site; life = life_of now; input = input.Deliver (unnumbered packet) } in
    let k : ℕ = rank packet.msg in
    let some : nat_lt 0 k ≡ true = some_rank packet.msg asks in
    (settles a k (and_grants a 0 (on_message a packet.«from» packet.msg nothing)) (
    keep_grants _ _ a 0 _ (answers_first a k some)
    (keep_message _ _ a packet.«from» packet.msg nothing asks (replies_any a k packet.msg asks some (omega arith)) (start _ _)))).outs

-- what a message of the site to itself makes wait ranks below it
replies_own : (a : At) (x : Message) → may_wait a x ≡ true → is_answer x ≡ false →
    Replies (λ n. may_wait a n && ranks_below n x) (λ n. true) a x
replies_own a (msg.Do t n op) waits asks = record { done = λ u m answer. rw (self a.life.inc) refl; reply = refl; out = λ n is. refl }
replies_own a (msg.LastElected t call elected) waits asks = record { done = λ u m answer. rw (self a.life.inc) refl; reply = tt; out = λ n is. refl }
replies_own a (msg.Report t n st attempt) waits asks = record { done = λ u m answer. rw (self a.life.inc) refl; reply = tt; out = λ n is. refl }
replies_own a (msg.Vote t said) waits asks = record { done = λ u m answer. rw (self a.life.inc) refl; reply = tt; out = λ n is. refl }
replies_own a (msg.Ack t n dir) waits asks = record { done = λ u m answer. rw (self a.life.inc) refl; reply = tt; out = λ n is. refl }
replies_own a (msg.Done t n inc answer) waits asks = absurd cc
replies_own a (msg.Died t n older) waits asks = absurd cc
replies_own a (msg.Ask t call) waits asks = absurd cc
replies_own a (msg.Elected t n) waits asks = absurd cc
replies_own a (msg.VoteReq t inc count) waits asks = absurd cc
replies_own a (msg.Pre t n dir) waits asks = absurd cc
replies_own a (msg.Decide t dir) waits asks = absurd cc

emptied : (O P : Message → Bool) (made : Made) → list_all (λ p. P p.msg) made.outs ≡ true → Keeps O P (record made { own = [] })
emptied O P made outs = record { own = refl; outs = outs }

all_pass : (ps : List Packet) → list_all (λ (p : Packet). true) ps ≡ true
all_pass [] = refl
all_pass (p ∷ ps) = all_pass ps

pub ranks_fall : OwnRanksFall
ranks_fall a made m waits = by m waits (is_answer m) refl
  where
    by : (m : Message) → may_wait a m ≡ true → (b : Bool) → is_answer m ≡ b →
        list_all (λ n. may_wait a n && ranks_below n m) (handled a (record made { own = [] }) m).own ≡ true
    by m waits false asks = (keep_handled (λ n. may_wait a n && ranks_below n m) (λ n. true) a (record made { own = [] }) m waits
        (replies_own a m waits asks) (emptied _ _ made (all_pass made.outs))).own
    by (msg.Done t n inc answer) waits true is =
        (own_done (λ x. may_wait a x && ranks_below x (msg.Done t n inc answer)) (λ x. true) a (record made { own = [] }) t n inc answer waits
        (emptied _ _ made (all_pass made.outs))).own
    by (msg.Do t n op) waits true is = absurd cc
    by (msg.Died t n older) waits true is = absurd cc
    by (msg.Ask t call) waits true is = absurd cc
    by (msg.LastElected t call elected) waits true is = absurd cc
    by (msg.Elected t n) waits true is = absurd cc
    by (msg.Report t n st attempt) waits true is = absurd cc
    by (msg.VoteReq t inc count) waits true is = absurd cc
    by (msg.Vote t said) waits true is = absurd cc
    by (msg.Pre t n dir) waits true is = absurd cc
    by (msg.Ack t n dir) waits true is = absurd cc
    by (msg.Decide t dir) waits true is = absurd cc
