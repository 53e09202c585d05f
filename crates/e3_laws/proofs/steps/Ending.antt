-- The messages that a step has for its own site end, and packets fall in rank.
use Rattle.std.proofs.Common.{◌≡◌, ◌==◌, ◌&&◌, ◌∷◌, [], ℕ, ◌≤◌, ◌<◌, Bool, true, false, List, refl, if◌then◌else◌, fold, nat_lt, length, arith, lt-ltb, ltb-true}
use Rattle.std.specs.List.{list_all}
use Rattle.std.proofs.lemmas.Bool.{and_parts}
use Rattle.e3_types.specs.declared.entries.Told.TheVariants as told
use Rattle.e3_types.specs.declared.messages.Message.{Message}
use Rattle.e3_types.specs.declared.messages.Message.TheVariants as msg
use Rattle.e3_types.specs.declared.transactions.Answer.{Answer}
use Rattle.e3_types.specs.declared.transactions.Dir.TheVariants.{Abort}
use Rattle.e3_types.specs.declared.transactions.State.{State}
use Rattle.e3_types.specs.declared.transactions.Txn.{Txn}
use Rattle.e3_types.specs.Ranks.{rank}
use Rattle.e3_world.specs.declared.lives.At.{At}
use Rattle.e3_world.specs.declared.lives.Made.{Made}
use Rattle.e3_world.specs.Making.{nothing, is_coordinator, is_present, open_now, and_tell, and_grants}
use Rattle.e3_world.specs.Messages.{on_message}
use Rattle.e3_world.specs.Rounds.{count_ack}
use Rattle.e3_world.specs.Sound.{txn_in}
use Rattle.e3_world.specs.Steps.{handled, settle}
use Rattle.e3_laws.specs.steps.Waiting.{is_answer, may_wait, ranks_below}
use Rattle.e3_laws.proofs.steps.Keeping.{Keeps, Answers, AnyRecord, Passes, allows, casts, concludes, joins, kept, keep_grants, out}
use Rattle.e3_laws.proofs.steps.Rules.{Hears, keep_message as handles}
use Rattle.e3_laws.proofs.steps.Whatever.{AnyTold}
use Rattle.e3_laws.proofs.steps.Deciding.{present, no_grants}
use Rattle.e3_world.proofs.Turns.{self}

-- the answer to an operation of its own adds no message
pub own_done : (O P : Message → Bool) (a : At) (made : Made) (t : Txn) (n inc : ℕ) (answer : Answer) → (inc == a.life.inc) ≡ true → Keeps O P made →
    Keeps O P (handled a made (msg.Done t n inc answer))
own_done O P a made t n inc answer is k = by (is_coordinator a t && is_present a t && open_now a t made) refl
  where
    told_it : Made
    told_it = and_tell (told.Op t n answer) made

    choice : (b : Bool) → Keeps O P (and_grants a (length made.records) (if b then told_it else made))
    choice true = rw (no_grants a made told_it refl) ((kept O P a).tells (told.Op t n answer) made tt k)
    choice false = rw (no_grants a made made refl) k

    by : (b : Bool) → (is_coordinator a t && is_present a t && open_now a t made) ≡ b → Keeps O P (handled a made (msg.Done t n inc answer))
    by true known = rw (known, present a t inc is) (choice _)
    by false known = rw known (rw (no_grants a made made refl) k)

-- the reply to a message passes the test
abbrev pub ReplyPasses : (Message → Bool) → Message → Type 0
ReplyPasses O (msg.Do t n op) = O (msg.Vote t false) ≡ true
ReplyPasses O (msg.Ask t call) = (elected : ℕ) → O (msg.LastElected t call elected) ≡ true
ReplyPasses O (msg.Elected t n) = (st : State) (attempt : ℕ) → O (msg.Report t n st attempt) ≡ true
ReplyPasses O (msg.VoteReq t inc count) = (said : Bool) → O (msg.Vote t said) ≡ true
ReplyPasses O (msg.Pre t n dir) = O (msg.Ack t n dir) ≡ true
ReplyPasses O x = Unit {0}

-- what handling a message may add: answers to operations that it frees, the reply, and packets that rank below it
pub record Replies (O P : Message → Bool) (a : At) (x : Message) : Type 0 where
  pub done : (t : Txn) (n : ℕ) (answer : Answer) → O (msg.Done t n a.life.inc answer) ≡ true
  pub reply : ReplyPasses O x
  pub out : (n : Message) → ranks_below n x ≡ true → P n ≡ true

answers_to : (O P : Message → Bool) (a : At) (x : Message) → nat_lt 0 (rank x) ≡ true → Replies O P a x → Answers O P a
answers_to O P a x above may = record { own = may.done; out = λ t n answer. may.out (msg.Done t n a.life.inc answer) above }

-- a message that is no answer
pub hears : (O P : Message → Bool) (a : At) (f : ℕ) (x : Message) → is_answer x ≡ false → Replies O P a x → Hears a AnyRecord AnyTold (Passes O P a) (Keeps O P) f x
hears O P a f (msg.Do t n op) asks may = record {
  done = λ made k. ((λ is. may.done t n _), (λ apart. may.out (msg.Done t n a.life.inc _) refl));
  again = λ answer more is. ((λ own. may.done t n answer), (λ apart. may.out (msg.Done t n a.life.inc answer) refl));
  no = ((λ is. may.reply), (λ apart. may.out (msg.Vote t false) refl));
  told = λ older made k is. tt;
  died = λ older made k is other. out O P a t.site (msg.Died t n older) other (may.out (msg.Died t n older) refl);
  abort = casts O P a (msg.Decide t Abort) t.sites (may.out (msg.Decide t Abort) refl);
}
hears O P a f (msg.Done t n inc answer) asks may = absurd cc
hears O P a f (msg.Died t n older) asks may = (tt, casts O P a (msg.Decide t Abort) t.sites (may.out (msg.Decide t Abort) refl))
hears O P a f (msg.Ask t call) asks may = λ n. ((λ is. may.reply n), (λ apart. may.out (msg.LastElected t call n) refl))
hears O P a f (msg.LastElected t call n) asks may = λ e more is took.
    joins O P a t more (λ n. may.out (msg.Elected t n) refl) (λ dir. may.out (msg.Decide t dir) refl) (λ n dir. may.out (msg.Pre t n dir) refl)
hears O P a f (msg.Elected t n) asks may = (tt, (λ st attempt. ((λ is. may.reply st attempt), (λ apart. may.out (msg.Report t n st attempt) refl))))
hears O P a f (msg.Report t n st attempt) asks may = λ e more is took.
    concludes O P a t more.group (λ dir. may.out (msg.Decide t dir) refl) (λ n dir. may.out (msg.Pre t n dir) refl)
hears O P a f (msg.VoteReq t inc count) asks may = λ said. ((λ is. may.reply said), (λ apart. may.out (msg.Vote t said) refl))
hears O P a f (msg.Vote t true) asks may = concludes O P a t t.sites (λ dir. may.out (msg.Decide t dir) refl) (λ n dir. may.out (msg.Pre t n dir) refl)
hears O P a f (msg.Vote t false) asks may = casts O P a (msg.Decide t Abort) t.sites (may.out (msg.Decide t Abort) refl)
hears O P a f (msg.Pre t n dir) asks may = ((λ is. may.reply), (λ apart. may.out (msg.Ack t n dir) refl))
hears O P a f (msg.Ack t n dir) asks may = λ r is. casts O P a (msg.Decide t dir) (count_ack r f n dir).to (may.out (msg.Decide t dir) refl)
hears O P a f (msg.Decide t dir) asks may = tt

pub keep_message : (O P : Message → Bool) (a : At) (f : ℕ) (x : Message) (made : Made) → is_answer x ≡ false → Replies O P a x → Keeps O P made →
    Keeps O P (on_message a f x made)
keep_message O P a f x made asks may k = handles (kept O P a) f x made (allows a (txn_in x)) (hears O P a f x asks may) k

grants_behind : (O P : Message → Bool) (a : At) (made : Made) (x : Message) → is_answer x ≡ false → nat_lt 0 (rank x) ≡ true → Replies O P a x → Keeps O P made →
    Keeps O P (handled a made x)
grants_behind O P a made x asks above may k =
    keep_grants O P a (length made.records) (on_message a a.site x made) (answers_to O P a x above may) (keep_message O P a a.site x made asks may k)

-- a message of the site to itself
pub keep_handled : (O P : Message → Bool) (a : At) (made : Made) (x : Message) → may_wait a x ≡ true → Replies O P a x → Keeps O P made →
    Keeps O P (handled a made x)
keep_handled O P a made (msg.Done t n inc answer) waits may k = own_done O P a made t n inc answer waits k
keep_handled O P a made (msg.Do t n op) waits may k = grants_behind O P a made (msg.Do t n op) refl refl may k
keep_handled O P a made (msg.LastElected t call elected) waits may k = grants_behind O P a made (msg.LastElected t call elected) refl refl may k
keep_handled O P a made (msg.Report t n st attempt) waits may k = grants_behind O P a made (msg.Report t n st attempt) refl refl may k
keep_handled O P a made (msg.Vote t said) waits may k = grants_behind O P a made (msg.Vote t said) refl refl may k
keep_handled O P a made (msg.Ack t n dir) waits may k = grants_behind O P a made (msg.Ack t n dir) refl refl may k
keep_handled O P a made (msg.Died t n older) waits may k = absurd cc
keep_handled O P a made (msg.Ask t call) waits may k = absurd cc
keep_handled O P a made (msg.Elected t n) waits may k = absurd cc
keep_handled O P a made (msg.VoteReq t inc count) waits may k = absurd cc
keep_handled O P a made (msg.Pre t n dir) waits may k = absurd cc
keep_handled O P a made (msg.Decide t dir) waits may k = absurd cc

-- what waits at first, ranking below this number
abbrev pub waits_first : At → ℕ → Message → Bool
waits_first a k x = may_wait a x && nat_lt (rank x) k

-- what waits behind the first list: a no, and answers
abbrev is_late : At → Message → Bool
is_late a (msg.Vote t false) = true
is_late a (msg.Done t n inc answer) = inc == a.life.inc
is_late a _ = false

abbrev waits_second : At → ℕ → Message → Bool
waits_second a k x = is_late a x && nat_lt (rank x) k

-- what waits behind the second list: answers alone
abbrev waits_third : At → Message → Bool
waits_third a (msg.Done t n inc answer) = inc == a.life.inc
waits_third a _ = false

abbrev pub below : ℕ → Message → Bool
below k x = nat_lt (rank x) k

lower : (n m k : ℕ) → n ≤ m → nat_lt m k ≡ true → nat_lt n k ≡ true
lower n m k most is = lt-ltb n k (let less : m < k = ltb-true m k is in omega (arith, most, less))

under : (n m k : ℕ) → nat_lt n m ≡ true → nat_lt m k ≡ true → nat_lt n k ≡ true
under n m k first second = lower n m k (let less : n < m = ltb-true n m first in omega (arith, less)) second

replies_first : (a : At) (k : ℕ) (x : Message) → may_wait a x ≡ true → nat_lt (rank x) k ≡ true → Replies (waits_second a k) (below k) a x
replies_first a k x waits few = record {
  done = λ t n answer. rw (self a.life.inc, lower 0 (rank x) k (omega arith) few) refl;
  reply = reply x waits few;
  out = λ n is. under (rank n) (rank x) k is few;
}
  where
    reply : (x : Message) → may_wait a x ≡ true → nat_lt (rank x) k ≡ true → ReplyPasses (waits_second a k) x
    reply (msg.Do t n op) waits few = lower 5 7 k (omega arith) few
    reply (msg.Done t n inc answer) waits few = tt
    reply (msg.Died t n older) waits few = tt
    reply (msg.Ask t call) waits few = absurd cc
    reply (msg.LastElected t call elected) waits few = tt
    reply (msg.Elected t n) waits few = absurd cc
    reply (msg.Report t n st attempt) waits few = tt
    reply (msg.VoteReq t inc count) waits few = absurd cc
    reply (msg.Vote t said) waits few = tt
    reply (msg.Pre t n dir) waits few = absurd cc
    reply (msg.Ack t n dir) waits few = tt
    reply (msg.Decide t dir) waits few = tt

-- the first list makes a no or answers wait
handle_first : (a : At) (k : ℕ) (x : Message) (made : Made) → waits_first a k x ≡ true → Keeps (waits_second a k) (below k) made →
    Keeps (waits_second a k) (below k) (handled a made x)
handle_first a k x made is kept =
    let parts : _ = and_parts (may_wait a x) (nat_lt (rank x) k) is in
    keep_handled (waits_second a k) (below k) a made x parts.0 (replies_first a k x parts.0 parts.1) kept

-- the second list makes answers wait
handle_second : (a : At) (k : ℕ) (x : Message) (made : Made) → waits_second a k x ≡ true → Keeps (waits_third a) (below k) made →
    Keeps (waits_third a) (below k) (handled a made x)
handle_second a k x made is kept = let parts : _ = and_parts (is_late a x) (nat_lt (rank x) k) is in by x parts.0 parts.1
  where
    by : (x : Message) → is_late a x ≡ true → nat_lt (rank x) k ≡ true → Keeps (waits_third a) (below k) (handled a made x)
    by (msg.Vote t false) late few = keep_handled (waits_third a) (below k) a made (msg.Vote t false) refl (record {
      done = λ u n answer. self a.life.inc;
      reply = tt;
      out = λ n is. under (rank n) 5 k is few;
    }) kept
    by (msg.Vote t true) late few = absurd cc
    by (msg.Done t n inc answer) late few = own_done (waits_third a) (below k) a made t n inc answer late kept
    by (msg.Do t n op) late few = absurd cc
    by (msg.Died t n older) late few = absurd cc
    by (msg.Ask t call) late few = absurd cc
    by (msg.LastElected t call elected) late few = absurd cc
    by (msg.Elected t n) late few = absurd cc
    by (msg.Report t n st attempt) late few = absurd cc
    by (msg.VoteReq t inc count) late few = absurd cc
    by (msg.Pre t n dir) late few = absurd cc
    by (msg.Ack t n dir) late few = absurd cc
    by (msg.Decide t dir) late few = absurd cc

abbrev nothing_waits : Message → Bool
nothing_waits x = false

-- the third list makes nothing wait
handle_third : (a : At) (k : ℕ) (x : Message) (made : Made) → waits_third a x ≡ true → Keeps nothing_waits (below k) made →
    Keeps nothing_waits (below k) (handled a made x)
handle_third a k (msg.Done t n inc answer) made is kept = own_done nothing_waits (below k) a made t n inc answer is kept
handle_third a k (msg.Do t n op) made is kept = absurd cc
handle_third a k (msg.Vote t said) made is kept = absurd cc
handle_third a k (msg.Died t n older) made is kept = absurd cc
handle_third a k (msg.Ask t call) made is kept = absurd cc
handle_third a k (msg.LastElected t call elected) made is kept = absurd cc
handle_third a k (msg.Elected t n) made is kept = absurd cc
handle_third a k (msg.Report t n st attempt) made is kept = absurd cc
handle_third a k (msg.VoteReq t inc count) made is kept = absurd cc
handle_third a k (msg.Pre t n dir) made is kept = absurd cc
handle_third a k (msg.Ack t n dir) made is kept = absurd cc
handle_third a k (msg.Decide t dir) made is kept = absurd cc

-- one list after the other
handle_all : (O N P : Message → Bool) (a : At) (xs : List Message) (made : Made) →
    ((x : Message) (more : Made) → O x ≡ true → Keeps N P more → Keeps N P (handled a more x)) → list_all O xs ≡ true → Keeps N P made →
    Keeps N P (fold (handled a) made xs)
handle_all O N P a [] made each all kept = kept
handle_all O N P a (x ∷ xs) made each all kept =
    let parts : _ = and_parts (O x) (list_all O xs) all in
    handle_all O N P a xs (handled a made x) each parts.1 (each x made parts.0 kept)

emptied : (O N P : Message → Bool) (made : Made) → Keeps O P made → Keeps N P (record made { own = [] })
emptied O N P made kept = record { own = refl; outs = kept.outs }

none_left : (xs : List Message) → list_all nothing_waits xs ≡ true → xs ≡ []
none_left [] all = refl
none_left (x ∷ xs) all = absurd cc

-- what a step ends with
pub record Ended (k : ℕ) (made : Made) : Type 0 where
  pub own : made.own ≡ []
  pub outs : list_all (λ p. below k p.msg) made.outs ≡ true

pub settles : (a : At) (k : ℕ) (made : Made) → Keeps (waits_first a k) (below k) made → Ended k (settle 3 a made)
settles a k made kept = record { own = none_left _ third.own; outs = third.outs }
  where
    first : Keeps (waits_second a k) (below k) (fold (handled a) (record made { own = [] }) made.own)
    first = handle_all (waits_first a k) (waits_second a k) (below k) a made.own _ (handle_first a k) kept.own (emptied _ _ _ made kept)

    made1 : Made
    made1 = fold (handled a) (record made { own = [] }) made.own

    second : Keeps (waits_third a) (below k) (fold (handled a) (record made1 { own = [] }) made1.own)
    second = handle_all (waits_second a k) (waits_third a) (below k) a made1.own _ (handle_second a k) first.own (emptied _ _ _ made1 first)

    made2 : Made
    made2 = fold (handled a) (record made1 { own = [] }) made1.own

    third : Keeps nothing_waits (below k) (fold (handled a) (record made2 { own = [] }) made2.own)
    third = handle_all (waits_third a) nothing_waits (below k) a made2.own _ (handle_third a k) second.own (emptied _ _ _ made2 second)

-- a message from anywhere, at the begin of a step
pub replies_any : (a : At) (k : ℕ) (x : Message) → is_answer x ≡ false → nat_lt 0 k ≡ true → rank x ≤ k → Replies (waits_first a k) (below k) a x
replies_any a k x asks some few = record {
  done = λ t n answer. rw (self a.life.inc, some) refl;
  reply = reply x few;
  out = λ n is. let less : rank n < rank x = ltb-true (rank n) (rank x) is in lt-ltb (rank n) k (omega (arith, less, few));
}
  where
    reply : (x : Message) → rank x ≤ k → ReplyPasses (waits_first a k) x
    reply (msg.Do t n op) few = lt-ltb 5 k (omega (arith, few))
    reply (msg.Ask t call) few = λ elected. lt-ltb 10 k (omega (arith, few))
    reply (msg.Elected t n) few = λ st attempt. lt-ltb 8 k (omega (arith, few))
    reply (msg.VoteReq t inc count) few = λ said. lt-ltb 5 k (omega (arith, few))
    reply (msg.Pre t n dir) few = lt-ltb 3 k (omega (arith, few))
    reply (msg.Done t n inc answer) few = tt
    reply (msg.Died t n older) few = tt
    reply (msg.LastElected t call elected) few = tt
    reply (msg.Report t n st attempt) few = tt
    reply (msg.Vote t said) few = tt
    reply (msg.Ack t n dir) few = tt
    reply (msg.Decide t dir) few = tt

pub start : (O P : Message → Bool) → Keeps O P nothing
start O P = record { own = refl; outs = refl }
