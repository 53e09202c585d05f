-- What a step makes of its messages to its own site, and of most inputs: no join, no attempt, and nobody is asked for one.
use Rattle.std.proofs.Common.{◌≡◌, ◌==◌, ◌&&◌, ◌||◌, ◌∷◌, ◌++◌, [], ℕ, zero, suc, Bool, true, false, List, Option, Some, None, refl, ap, sym, subst, ◌∙◌, append-nil, append_assoc, if◌then◌else◌, fold, length}
use Rattle.std.specs.List.{list_all, list_any}
use Rattle.std.proofs.lemmas.Bool.{and_parts}
use Rattle.e3_types.specs.declared.entries.Input.{Input}
use Rattle.e3_types.specs.declared.entries.Input.TheVariants as input
use Rattle.e3_types.specs.declared.entries.Refusal.{Refusal}
use Rattle.e3_types.specs.declared.entries.Told.{Told}
use Rattle.e3_types.specs.declared.entries.Told.TheVariants as told
use Rattle.e3_types.specs.declared.locks.Grant.{Grant}
use Rattle.e3_types.specs.declared.locks.Grant.TheVariants.{Held, Waits, Dies}
use Rattle.e3_types.specs.declared.messages.Message.{Message}
use Rattle.e3_types.specs.declared.messages.Message.TheVariants as msg
use Rattle.e3_types.specs.declared.messages.Packet.{Packet}
use Rattle.e3_types.specs.declared.records.Record.{Record}
use Rattle.e3_types.specs.declared.records.Record.TheVariants as log
use Rattle.e3_types.specs.declared.transactions.Answer.{Answer}
use Rattle.e3_types.specs.declared.transactions.Dir.{Dir}
use Rattle.e3_types.specs.declared.transactions.Dir.TheVariants.{Abort}
use Rattle.e3_types.specs.declared.transactions.Op.{Op}
use Rattle.e3_types.specs.declared.transactions.State.{State}
use Rattle.e3_types.specs.declared.transactions.State.TheVariants.{Q, W, Pc, Pa, C, A}
use Rattle.e3_types.specs.declared.transactions.Txn.{Txn}
use Rattle.e3_types.specs.Locks.{lock_grant}
use Rattle.e3_types.specs.Quorums.{is_quorum}
use Rattle.e3_types.specs.Same.{same_dir}
use Rattle.e3_world.specs.declared.lives.At.{At}
use Rattle.e3_world.specs.declared.lives.Expected.{Expected}
use Rattle.e3_world.specs.declared.lives.Made.{Made}
use Rattle.e3_world.specs.AttemptRules.{on_ack}
use Rattle.e3_world.specs.Gatherings.{Round}
use Rattle.e3_world.specs.Logs.{key_of, mode_of}
use Rattle.e3_world.specs.Making.{nothing, log_now, state_now, elected_now, open_now, is_coordinator, is_present, may_abort, may_decide, and_record, and_tell, and_send, and_cast, and_decide, and_abort, and_abort_for, and_vote, and_grants, grants_after}
use Rattle.e3_world.specs.Messages.{on_message}
use Rattle.e3_world.specs.OperationRules.{on_do, on_done, on_died}
use Rattle.e3_world.specs.Operations.{same_asked, answers, waiting, holders, queue, expected, issued}
use Rattle.e3_world.specs.Rounds.{count_ack, round_in_progress}
use Rattle.e3_world.specs.Steps.{handled, on_expire, on_input, or_refused, refuse, settle, step_at}
use Rattle.e3_world.specs.VoteRules.{on_vote_req, vote_rule}
use Rattle.e3_laws.proofs.steps.Adding.{Preserves, vote_of, keep_cast, keep_grants as grants_kept}
use Rattle.e3_laws.proofs.steps.Each.{each-of}
use Rattle.e3_laws.proofs.steps.Lists.{one_more}
use Rattle.e3_laws.proofs.steps.Rules.{by_grant, dies}

-- the record is neither a join nor an attempt
abbrev pub is_calm : Record → Bool
is_calm (log.Join t n) = false
is_calm (log.Attempt t n dir) = false
is_calm r = true

-- the message asks for no attempt
abbrev pub asks_none : Message → Bool
asks_none (msg.Pre t n dir) = false
asks_none m = true

-- what a site may have for itself: an operation, its answer, or a no
abbrev pub is_own : Message → Bool
is_own (msg.Do t n op) = true
is_own (msg.Done t n inc answer) = true
is_own (msg.Vote t false) = true
is_own m = false

-- the event is no verdict
abbrev pub is_silent : Told → Bool
is_silent (told.Verdict t n v) = false
is_silent e = true

-- behind what was made come neither joins nor attempts, nobody is asked for one, and no verdict is told
pub record Adds (was made : Made) : Type 0 where
  pub more : List Record
  pub records : made.records ≡ was.records ++ more
  pub calm : list_all is_calm more ≡ true
  pub sent : List Packet
  pub outs : made.outs ≡ was.outs ++ sent
  pub asks : list_all (λ p. asks_none p.msg) sent ≡ true
  pub events : List Told
  pub told : made.told ≡ was.told ++ events
  pub silent : list_all is_silent events ≡ true
  pub own : list_all is_own made.own ≡ true

-- the message may be sent so
abbrev pub Sendable : At → ℕ → Message → Type 0
Sendable a to m = ((to == a.site) ≡ true → is_own m ≡ true) × (asks_none m ≡ true)

pub adds_itself : (made : Made) → list_all is_own made.own ≡ true → Adds made made
adds_itself made own = record { more = []; records = sym (append-nil made.records); calm = refl; sent = []; outs = sym (append-nil made.outs); asks = refl; events = []; told = sym (append-nil made.told); silent = refl; own = own }

pub adds_record : (was made : Made) (r : Record) → is_calm r ≡ true → Adds was made → Adds was (and_record r made)
adds_record was made r calm k = record {
  more = k.more ++ r ∷ [];
  records = ap (λ l. l ++ r ∷ []) k.records ∙ append_assoc was.records k.more (r ∷ []);
  calm = one_more is_calm k.more r k.calm calm;
  sent = k.sent;
  outs = k.outs;
  asks = k.asks;
  events = k.events;
  told = k.told;
  silent = k.silent;
  own = k.own;
}

pub adds_tell : (was made : Made) (e : Told) → is_silent e ≡ true → Adds was made → Adds was (and_tell e made)
adds_tell was made e silent k = record {
  more = k.more;
  records = k.records;
  calm = k.calm;
  sent = k.sent;
  outs = k.outs;
  asks = k.asks;
  events = k.events ++ e ∷ [];
  told = ap (λ l. l ++ e ∷ []) k.told ∙ append_assoc was.told k.events (e ∷ []);
  silent = one_more is_silent k.events e k.silent silent;
  own = k.own;
}

pub adds_send : (a : At) (was made : Made) (to : ℕ) (m : Message) → Sendable a to m → Adds was made → Adds was (and_send a to m made)
adds_send a was made to m may k = by (to == a.site) refl
  where
    p : Packet
    p = record { number = 0; «from» = a.site; to = to; msg = m }

    by : (b : Bool) → (to == a.site) ≡ b → Adds was (and_send a to m made)
    by true is = rw is (record { more = k.more; records = k.records; calm = k.calm; sent = k.sent; outs = k.outs; asks = k.asks; events = k.events; told = k.told; silent = k.silent; own = one_more is_own made.own m k.own (may.0 is) })
    by false is = rw is (record {
      more = k.more;
      records = k.records;
      calm = k.calm;
      sent = k.sent ++ p ∷ [];
      outs = ap (λ l. l ++ p ∷ []) k.outs ∙ append_assoc was.outs k.sent (p ∷ []);
      asks = one_more (λ q. asks_none q.msg) k.sent p k.asks may.1;
      events = k.events;
      told = k.told;
      silent = k.silent;
      own = k.own;
    })

keeps : (a : At) (was : Made) → Preserves a (λ r. is_calm r ≡ true) (λ e. is_silent e ≡ true) (Sendable a) (Adds was)
keeps a was = record {
  records = λ r made calm k. adds_record was made r calm k;
  tells = λ e made silent k. adds_tell was made e silent k;
  sends = λ to m made may k. adds_send a was made to m may k;
}

-- a message to other sites
pub adds_cast : (a : At) (was made : Made) (sites : List ℕ) (m : Message) → asks_none m ≡ true → Adds was made → Adds was (and_cast a sites m made)
adds_cast a was made sites m none k =
    keep_cast (keeps a was) sites m made (each-of (λ s. (s == a.site) ≡ false → Sendable a s m) (λ s apart. ((λ is. absurd (let clash : true ≡ false = sym is ∙ apart in cc)), none)) sites) k

pub adds_decide : (a : At) (was made : Made) (t : Txn) (dir : Dir) → Adds was made → Adds was (and_decide a t dir made)
adds_decide a was made t dir k = by (is_coordinator a t && is_present a t) refl
  where
    noted : Adds was (and_record (log.Decision t dir) made)
    noted = adds_record was made (log.Decision t dir) refl k

    by : (b : Bool) → (is_coordinator a t && is_present a t) ≡ b → Adds was (and_decide a t dir made)
    by true is = rw is (adds_tell was (and_record (log.Decision t dir) made) (told.Ended t dir) refl noted)
    by false is = rw is noted

pub adds_abort : (a : At) (was made : Made) (t : Txn) → Adds was made → Adds was (and_abort a t made)
adds_abort a was made t k = adds_cast a was (and_decide a t Abort made) t.sites (msg.Decide t Abort) refl (adds_decide a was made t Abort k)

adds_abort_for : (a : At) (was made : Made) (t : Txn) (why : Told) → is_silent why ≡ true → Adds was made → Adds was (and_abort_for a t why made)
adds_abort_for a was made t why silent k =
    adds_cast a was (and_tell why (and_record (log.Decision t Abort) made)) t.sites (msg.Decide t Abort) refl
    (adds_tell was (and_record (log.Decision t Abort) made) why silent (adds_record was made (log.Decision t Abort) refl k))

adds_done : (a : At) (was made : Made) (to : ℕ) (t : Txn) (n inc : ℕ) (answer : Answer) → Adds was made → Adds was (and_send a to (msg.Done t n inc answer) made)
adds_done a was made to t n inc answer k = adds_send a was made to (msg.Done t n inc answer) ((λ is. refl), refl) k

pub adds_grants : (a : At) (was : Made) (seen : ℕ) (made : Made) → Adds was made → Adds was (and_grants a seen made)
adds_grants a was seen made k =
    grants_kept (keeps a was) seen made (λ so_far. each-of _ (λ q now k_now. ((λ is. refl), refl)) (grants_after a made)) k

adds_if : (was made other : Made) (b : Bool) → Adds was made → Adds was other → Adds was (if b then made else other)
adds_if was made other true k l = k
adds_if was made other false k l = l

-- a request for a lock
adds_dies : (a : At) (was made : Made) (t : Txn) (n : ℕ) (older : Txn) (b : Bool) → is_coordinator a t ≡ b → Adds was made → Adds was (dies a t n made older b)
adds_dies a was made t n older true is k = adds_abort_for a was made t (told.Died t older) refl k
adds_dies a was made t n older false is k =
    adds_send a was (and_decide a t Abort made) t.site (msg.Died t n older) ((λ here. absurd (let clash : true ≡ false = sym here ∙ is in cc)), refl) (adds_decide a was made t Abort k)

adds_grant : (a : At) (was made : Made) (t : Txn) (n : ℕ) (op : Op) (g : Grant) → Adds was made → Adds was (by_grant a t n op made g)
adds_grant a was made t n op Held k = adds_done a was made t.site t n a.life.inc _ k
adds_grant a was made t n op Waits k = k
adds_grant a was made t n op (Dies older) k = adds_dies a was made t n older (is_coordinator a t) refl k

pub adds_do : (a : At) (was made : Made) (f : ℕ) (t : Txn) (n : ℕ) (op : Op) → Adds was made → Adds was (on_do a f t n op made)
adds_do a was made f t n op k = by (state_now a t made) refl
  where
    answered : (l : List Answer) → state_now a t made ≡ Q → answers (record { txn = t; n = n; op = op }) a.life.steps ≡ l → Adds was (on_do a f t n op made)
    answered [] state is = rw (state, is) (adds_if was made _ (list_any (same_asked (record { txn = t; n = n; op = op })) (waiting a.site (log_now a made) a.life.steps)) k
        (adds_grant a was made t n op
        (lock_grant (record { txn = t; mode = mode_of op }) (holders a.site (key_of op).name (log_now a made) a.life.steps) (queue (key_of op).name (waiting a.site (log_now a made) a.life.steps))) k))
    answered (answer ∷ more) state is = rw (state, is) (adds_done a was made t.site t n a.life.inc answer k)

    by : (st : State) → state_now a t made ≡ st → Adds was (on_do a f t n op made)
    by A state = rw state (adds_send a was made f (msg.Vote t false) ((λ is. refl), refl) k)
    by Q state = answered (answers (record { txn = t; n = n; op = op }) a.life.steps) state refl
    by W state = rw state k
    by Pc state = rw state k
    by Pa state = rw state k
    by C state = rw state k

-- the answer to an operation
pub adds_on_done : (a : At) (was made : Made) (f : ℕ) (t : Txn) (n inc : ℕ) (answer : Answer) → Adds was made → Adds was (on_done a f t n inc answer made)
adds_on_done a was made f t n inc answer k = by (is_coordinator a t && is_present a t && open_now a t made) refl
  where
    e : Expected
    e = expected a.site a.life.inc t a.life.steps f

    counts : Adds was (if e.count == 0 || e.inc == inc then and_tell (told.Op t n answer) made else if may_abort a t made then and_abort_for a t (told.Doomed t f e.inc inc) made else made)
    counts = adds_if was _ _ (e.count == 0 || e.inc == inc) (adds_tell was made (told.Op t n answer) refl k)
        (adds_if was _ _ (may_abort a t made) (adds_abort_for a was made t (told.Doomed t f e.inc inc) refl k) k)

    by : (b : Bool) → (is_coordinator a t && is_present a t && open_now a t made) ≡ b → Adds was (on_done a f t n inc answer made)
    by true is = rw is (adds_if was _ made _ counts k)
    by false is = rw is k

adds_no : (a : At) (was made : Made) (t : Txn) → Adds was made → Adds was (if may_abort a t made then and_abort a t made else made)
adds_no a was made t k = adds_if was _ made (may_abort a t made) (adds_abort a was made t k) k

-- a message of the step to its own site
adds_handled : (a : At) (was made : Made) (m : Message) → is_own m ≡ true → Adds was made → Adds was (handled a made m)
adds_handled a was made m own k = adds_grants a was (length made.records) (on_message a a.site m made) (by m own)
  where
    by : (m : Message) → is_own m ≡ true → Adds was (on_message a a.site m made)
    by (msg.Do t n op) own = adds_do a was made a.site t n op k
    by (msg.Done t n inc answer) own = adds_on_done a was made a.site t n inc answer k
    by (msg.Vote t false) own = adds_no a was made t k
    by (msg.Vote t true) own = cc
    by (msg.Died t n older) own = cc
    by (msg.Ask t call) own = cc
    by (msg.LastElected t call number) own = cc
    by (msg.Elected t n) own = cc
    by (msg.Report t n st attempt) own = cc
    by (msg.VoteReq t inc count) own = cc
    by (msg.Pre t n dir) own = cc
    by (msg.Ack t n dir) own = cc
    by (msg.Decide t dir) own = cc

adds_each : (a : At) (was : Made) (ms : List Message) (made : Made) → list_all is_own ms ≡ true → Adds was made → Adds was (fold (handled a) made ms)
adds_each a was [] made own k = k
adds_each a was (m ∷ ms) made own k =
    let p = and_parts (is_own m) (list_all is_own ms) own in
    adds_each a was ms (handled a made m) p.1 (adds_handled a was made m p.0 k)

adds_settled : (a : At) (was : Made) (n : ℕ) (made : Made) → Adds was made → Adds was (settle n a made)
adds_settled a was zero made k = k
adds_settled a was (suc n) made k =
    adds_settled a was n (fold (handled a) (record made { own = [] }) made.own)
    (adds_each a was made.own (record made { own = [] }) k.own
    (record { more = k.more; records = k.records; calm = k.calm; sent = k.sent; outs = k.outs; asks = k.asks; events = k.events; told = k.told; silent = k.silent; own = refl }))

-- the rest of a step, behind what its input made
pub adds_rest : (a : At) (was made : Made) → on_input a a.input nothing ≡ made → Adds was made → Adds was (step_at a)
adds_rest a was made is k = subst (λ x. Adds was (settle 3 a (and_grants a 0 x))) (sym is) (adds_settled a was 3 (and_grants a 0 made) (adds_grants a was 0 made k))

-- the input is none that may join or attempt
abbrev pub is_plain_message : Message → Bool
is_plain_message (msg.LastElected t call number) = false
is_plain_message (msg.Elected t n) = false
is_plain_message (msg.Report t n st attempt) = false
is_plain_message (msg.Vote t true) = false
is_plain_message (msg.Pre t n dir) = false
is_plain_message m = true

abbrev pub is_plain : Input → Bool
is_plain (input.Commit t) = false
is_plain (input.Elect t group) = false
is_plain (input.Deliver packet) = is_plain_message packet.msg
is_plain i = true

adds_died : (a : At) (was made : Made) (t older : Txn) → Adds was made → Adds was (on_died a t older made)
adds_died a was made t older k = by (may_abort a t made) (is_present a t) refl refl
  where
    by : (b c : Bool) → may_abort a t made ≡ b → is_present a t ≡ c → Adds was (on_died a t older made)
    by true true may here = rw (may, here) (adds_abort_for a was made t (told.Died t older) refl k)
    by true false may here = rw (may, here) (adds_abort a was made t k)
    by false c may here = rw may k

adds_vote_req : (a : At) (was made : Made) (f : ℕ) (t : Txn) (inc count : ℕ) → (f == a.site) ≡ false → Adds was made → Adds was (on_vote_req a f t inc count made)
adds_vote_req a was made f t inc count away k = by (state_now a t made) (elected_now a t made == 1) refl refl
  where
    far : (m : Message) → asks_none m ≡ true → Sendable a f m
    far m none = ((λ here. absurd (let clash : true ≡ false = sym here ∙ away in cc)), none)

    say : (b : Bool) → state_now a t made ≡ Q → (elected_now a t made == 1) ≡ true → vote_rule a t inc count made ≡ b → Adds was (on_vote_req a f t inc count made)
    say true is one rule = rw (is, one, rule) (adds_send a was (and_vote a t made) f (msg.Vote t true) (far (msg.Vote t true) refl) (adds_record was made (vote_of a t) refl k))
    say false is one rule = rw (is, one, rule) (adds_send a was (and_decide a t Abort made) f (msg.Vote t false) (far (msg.Vote t false) refl) (adds_decide a was made t Abort k))

    by : (st : State) (b : Bool) → state_now a t made ≡ st → (elected_now a t made == 1) ≡ b → Adds was (on_vote_req a f t inc count made)
    by A b is one = rw is (adds_send a was made f (msg.Vote t false) (far (msg.Vote t false) refl) k)
    by W true is one = rw (is, one) (adds_send a was made f (msg.Vote t true) (far (msg.Vote t true) refl) k)
    by Q true is one = say (vote_rule a t inc count made) is one refl
    by W false is one = rw (is, one) k
    by Q false is one = rw (is, one) k
    by Pc b is one = rw is k
    by Pa b is one = rw is k
    by C b is one = rw is k

adds_ack : (a : At) (was made : Made) (f : ℕ) (t : Txn) (n : ℕ) (d : Dir) → Adds was made → Adds was (on_ack a f t n d made)
adds_ack a was made f t n d k = by (round_in_progress a.site t a.life.steps) refl
  where
    by : (o : Option Round) → round_in_progress a.site t a.life.steps ≡ o → Adds was (on_ack a f t n d made)
    by None is = rw is k
    by (Some r) is = rw is (adds_if was _ made
        ((count_ack r f n d).n == n && same_dir (count_ack r f n d).dir d && may_decide a t d made && is_quorum a.weights (a.site ∷ (count_ack r f n d).acked) t.sites)
        (adds_cast a was (and_decide a t d made) (count_ack r f n d).to (msg.Decide t d) refl (adds_decide a was made t d k)) k)

adds_expire : (a : At) (was : Made) (t : Txn) → Adds was nothing → Adds was (on_expire a t nothing)
adds_expire a was t k = by (may_abort a t nothing) (state_now a t nothing) refl refl
  where
    by : (b : Bool) (st : State) → may_abort a t nothing ≡ b → state_now a t nothing ≡ st → Adds was (on_expire a t nothing)
    by true st may is = rw may (adds_abort a was nothing t k)
    by false Q may is = rw (may, is) (adds_decide a was nothing t Abort k)
    by false W may is = rw (may, is) (adds_tell was nothing _ refl k)
    by false Pc may is = rw (may, is) (adds_tell was nothing _ refl k)
    by false Pa may is = rw (may, is) (adds_tell was nothing _ refl k)
    by false C may is = rw (may, is) (adds_tell was nothing _ refl k)
    by false A may is = rw (may, is) (adds_tell was nothing _ refl k)

pub start : Adds nothing nothing
start = adds_itself nothing refl

pub adds_refused : (a : At) (t : Txn) (cancels : Bool) (made : Made) → Adds nothing made → Adds nothing (or_refused t (refuse a t cancels nothing) made)
adds_refused a t cancels made k = by (refuse a t cancels nothing) refl
  where
    by : (o : Option Refusal) → refuse a t cancels nothing ≡ o → Adds nothing (or_refused t (refuse a t cancels nothing) made)
    by None is = rw is k
    by (Some why) is = rw is (adds_tell nothing nothing (told.Refused t why) refl start)

adds_message : (a : At) (f : ℕ) (m : Message) → (f == a.site) ≡ false → is_plain_message m ≡ true → Adds nothing (on_message a f m nothing)
adds_message a f (msg.Do t n op) away plain = adds_do a nothing nothing f t n op start
adds_message a f (msg.Done t n inc answer) away plain = adds_on_done a nothing nothing f t n inc answer start
adds_message a f (msg.Died t n older) away plain = adds_died a nothing nothing t older start
adds_message a f (msg.Ask t call) away plain =
    adds_send a nothing nothing f (msg.LastElected t call (elected_now a t nothing)) ((λ here. absurd (let clash : true ≡ false = sym here ∙ away in cc)), refl) start
adds_message a f (msg.VoteReq t inc count) away plain = adds_vote_req a nothing nothing f t inc count away start
adds_message a f (msg.Vote t false) away plain = adds_no a nothing nothing t start
adds_message a f (msg.Ack t n d) away plain = adds_ack a nothing nothing f t n d start
adds_message a f (msg.Decide t d) away plain = adds_if nothing _ nothing (may_decide a t d nothing) (adds_decide a nothing nothing t d start) start
adds_message a f (msg.LastElected t call number) away plain = cc
adds_message a f (msg.Elected t n) away plain = cc
adds_message a f (msg.Report t n st attempt) away plain = cc
adds_message a f (msg.Vote t true) away plain = cc
adds_message a f (msg.Pre t n d) away plain = cc

-- an input that is none that may join or attempt, where a packet comes from another site
pub adds_input : (a : At) (i : Input) → ((packet : Packet) → i ≡ input.Deliver packet → (packet.«from» == a.site) ≡ false) → is_plain i ≡ true → Adds nothing (on_input a i nothing)
adds_input a (input.Begin sites) away plain = adds_tell nothing nothing _ refl start
adds_input a (input.Do t op) away plain = adds_refused a t false _ (adds_send a nothing nothing (key_of op).site (msg.Do t (suc (length (issued t a.life.steps))) op) ((λ is. refl), refl) start)
adds_input a (input.Cancel t) away plain = adds_refused a t true _ (adds_abort a nothing nothing t start)
adds_input a (input.Expire t) away plain = adds_expire a nothing t start
adds_input a (input.Deliver packet) away plain = adds_message a packet.«from» packet.msg (away packet refl) plain
adds_input a (input.Commit t) away plain = cc
adds_input a (input.Elect t group) away plain = cc
