-- Each step of a site comes to what a rule makes, the requests that a decision grants, and the own answers that are told.
use Rattle.std.proofs.Common.{append_assoc, ◌≡◌, ◌==◌, ◌&&◌, ◌++◌, ◌∷◌, [], ℕ, Bool, true, false, List, refl, sym, eqb-true, if◌then◌else◌, fold, ◌||◌, suc, Option, Some, None, nat_lt, nat_le, inl, inr, ap, ◌∙◌, not}
use Rattle.std.specs.List.{list_any, AllByRecursion as Each}
use Rattle.std.proofs.lemmas.Bool.{or_left, and_parts}
use Rattle.e3_types.specs.declared.entries.Told.{Told}
use Rattle.e3_types.specs.declared.entries.Told.TheVariants as told
use Rattle.e3_types.specs.declared.messages.Message.{Message}
use Rattle.e3_types.specs.declared.messages.Message.TheVariants as msg
use Rattle.e3_types.specs.declared.messages.Packet.{Packet}
use Rattle.e3_types.specs.declared.records.Record.{Record}
use Rattle.e3_types.specs.declared.records.Record.TheVariants as log
use Rattle.e3_types.specs.declared.transactions.Dir.{Dir}
use Rattle.e3_types.specs.declared.transactions.Dir.TheVariants.{Abort, Commit}
use Rattle.e3_types.specs.declared.transactions.Op.{Op}
use Rattle.e3_types.specs.declared.transactions.Txn.{Txn}
use Rattle.e3_types.specs.Quorums.{is_quorum}
use Rattle.e3_types.specs.Sets.{others}
use Rattle.e3_world.specs.declared.lives.Asked.{Asked}
use Rattle.e3_world.specs.declared.lives.At.{At}
use Rattle.e3_world.specs.declared.lives.Made.{Made}
use Rattle.e3_world.specs.Making.{is_coordinator, is_present, may_attempt, and_record, and_tell, and_send, and_cast, and_decide, and_abort, and_abort_for, go_on, and_attempt, log_now, steps_now, state_now, open_now, elected_now, attempt_now, may_abort, may_decide, and_vote, nothing}
use Rattle.e3_world.specs.Logs.{has_voted, key_of, mode_of}
use Rattle.e3_types.specs.declared.locks.Grant.{Grant}
use Rattle.e3_types.specs.declared.locks.Grant.TheVariants.{Held, Waits, Dies}
use Rattle.e3_types.specs.declared.transactions.Answer.{Answer}
use Rattle.e3_types.specs.declared.transactions.Call.{Call}
use Rattle.e3_types.specs.declared.transactions.State.{State}
use Rattle.e3_types.specs.declared.transactions.State.TheVariants.{Q, W, Pc, Pa, C, A}
use Rattle.e3_types.specs.declared.verdicts.SiteReport.{SiteReport}
use Rattle.e3_types.specs.declared.verdicts.Verdict.{Verdict}
use Rattle.e3_types.specs.declared.verdicts.Verdict.TheVariants as verdict
use Rattle.e3_types.specs.Locks.{lock_grant}
use Rattle.e3_types.specs.Same.{same_state, same_txn, same_dir}
use Rattle.e3_types.specs.Verdicts.{verdict_of}
use Rattle.e3_world.specs.Gatherings.{Election, Round}
use Rattle.e3_world.specs.AttemptRules.{on_pre, on_ack}
use Rattle.e3_world.specs.ElectionRules.{and_verdict, and_join, on_last, on_elected, on_report}
use Rattle.e3_world.specs.Elections.{election_in_progress, hear as hear_in, take_report, all_heard, all_reported, greatest_heard}
use Rattle.e3_world.specs.OperationRules.{on_do, on_done, on_died}
use Rattle.e3_world.specs.Operations.{same_asked, answers, waiting, holders, queue, expected, issued, nth_op, unanswered}
use Rattle.e3_world.specs.Rounds.{round_in_progress, count_ack}
use Rattle.e3_world.specs.VoteRules.{vote_rule, on_vote_req, on_yes}
use Rattle.e3_world.specs.Votes.{yes_votes}
use Rattle.e3_world.specs.Messages.{on_message}
use Rattle.e3_world.specs.Steps.{refuse, and_ask, on_commit, on_expire}
use Rattle.e3_types.specs.declared.entries.Input.TheVariants as input
use Rattle.e3_types.specs.declared.entries.Refusal.TheVariants as refusal
use Rattle.std.specs.Prelude.{is_none}
use Rattle.e3_world.specs.Logs.{has_voted, decision, decision_by, is_undecided}
use Rattle.e3_world.specs.Operations.{nth_op}
use Rattle.e3_laws.proofs.serial.Step.Rules.{IsNote, IsNews, IsWord, Commits, Comes, Ruled, Start, Notes, Decides, Votes, Tells, Says, Asks, Rule, Otherwise, Hears, Locks, Repeats}
use Rattle.e3_laws.proofs.steps.Adding.{idle_open, may_open, abort_open}
use Rattle.e3_laws.proofs.steps.Rules.{by_grant, dies, behind_join}
use Rattle.e3_laws.proofs.steps.Tests.{same_self}
use Rattle.e3_laws.proofs.steps.Taking.{allowed_open}

-- a record that is no decision leaves each transaction as it is
undecided_more : (t : Txn) (xs : List Record) (r : Record) → IsNote r → is_undecided t (xs ++ r ∷ []) ≡ is_undecided t xs
undecided_more t xs r note = ap is_none (fold_last r note None xs)
  where
    fold_last : (r : Record) → IsNote r → (was : Option Dir) (xs : List Record) → fold (decision_by t) was (xs ++ r ∷ []) ≡ fold (decision_by t) was xs
    fold_last (log.Join u n) note was [] = refl
    fold_last (log.Attempt u n d) note was [] = refl
    fold_last (log.Vote u ops) note was [] = absurd note
    fold_last (log.Decision u d) note was [] = absurd note
    fold_last (log.Birth f n w rows) note was [] = absurd note
    fold_last (log.Inc n) note was [] = absurd note
    fold_last r note was (x ∷ xs) = fold_last r note (decision_by t was x) xs

pub log_record : (a : At) (r : Record) (made : Made) → log_now a (and_record r made) ≡ log_now a made ++ r ∷ []
log_record a r made = sym (append_assoc a.life.log made.records (r ∷ []))

open_note : (a : At) (t : Txn) (r : Record) (made : Made) → IsNote r → open_now a t made ≡ true → open_now a t (and_record r made) ≡ true
open_note a t r made note h = ap (is_undecided t) (log_record a r made) ∙ undecided_more t (log_now a made) r note ∙ h

keep_choice : (a : At) (b : Bool) (x y : Made) → Ruled a x → Ruled a y → Ruled a (if b then x else y)
keep_choice a true x y first second = first
keep_choice a false x y first second = second

-- a message to other sites
keep_each : (a : At) (m : Message) (sites : List ℕ) (made : Made) → IsWord m → Ruled a made →
    Ruled a (fold (λ so_far to. and_send a to m so_far) made (others a.site sites))
keep_each a m [] made may k = k
keep_each a m (s ∷ sites) made may k = by (λ more kept. keep_each a m sites more may kept) (s == a.site) refl
  where
    by : ((more : Made) → Ruled a more → Ruled a (fold (λ so_far to. and_send a to m so_far) more (others a.site sites))) →
        (b : Bool) → (s == a.site) ≡ b → Ruled a (fold (λ so_far to. and_send a to m so_far) made (others a.site (s ∷ sites)))
    by rest true is = rw is (rest made k)
    by rest false is = rw is (rest (and_send a s m made) (Says s m made is may k))

pub keep_cast : (a : At) (sites : List ℕ) (m : Message) (made : Made) → IsWord m → Ruled a made →
    Ruled a (and_cast a sites m made)
keep_cast a sites m made may k = keep_each a m sites made may k

keep_decide : (a : At) (t : Txn) (dir : Dir) (made : Made) → open_now a t made ≡ true → Ruled a made → Ruled a (and_decide a t dir made)
keep_decide a t dir made still k = by (is_coordinator a t && is_present a t) refl
  where
    more : Ruled a (and_record (log.Decision t dir) made)
    more = Decides t dir made still k

    by : (b : Bool) → (is_coordinator a t && is_present a t) ≡ b → Ruled a (and_decide a t dir made)
    by true is = rw is (Tells (told.Ended t dir) (and_record (log.Decision t dir) made) tt more)
    by false is = rw is more

keep_told : (a : At) (t : Txn) (dir : Dir) (sites : List ℕ) (made : Made) → Ruled a made →
    Ruled a (and_cast a sites (msg.Decide t dir) made)
keep_told a t dir sites made k = keep_cast a sites (msg.Decide t dir) made tt k

pub keep_abort : (a : At) (t : Txn) (made : Made) → open_now a t made ≡ true → Ruled a made → Ruled a (and_abort a t made)
keep_abort a t made still k =
    keep_told a t Abort t.sites (and_decide a t Abort made) (keep_decide a t Abort made still k)

keep_abort_for : (a : At) (t : Txn) (why : Told) (made : Made) → IsNews why → open_now a t made ≡ true → Ruled a made →
    Ruled a (and_abort_for a t why made)
keep_abort_for a t why made this still k =
    keep_told a t Abort t.sites (and_tell why (and_record (log.Decision t Abort) made))
    (Tells why _ this (Decides t Abort made still k))

keep_go_on : (a : At) (t : Txn) (n : ℕ) (dir : Dir) (to : List ℕ) (made : Made) → open_now a t made ≡ true → Ruled a made →
    Ruled a (go_on a t n dir to made)
keep_go_on a t n dir to made still k = by (is_quorum a.weights (a.site ∷ []) t.sites) refl
  where
    by : (b : Bool) → is_quorum a.weights (a.site ∷ []) t.sites ≡ b → Ruled a (go_on a t n dir to made)
    by true is = rw is (keep_told a t dir to (and_decide a t dir made) (keep_decide a t dir made still k))
    by false is = rw is (keep_cast a to (msg.Pre t n dir) made tt k)

keep_attempt : (a : At) (t : Txn) (n : ℕ) (dir : Dir) (to : List ℕ) (made : Made) → Ruled a made →
    Ruled a (and_attempt a t n dir to made)
keep_attempt a t n dir to made k = by (may_attempt a t n made) refl
  where
    by : (b : Bool) → may_attempt a t n made ≡ b → Ruled a (and_attempt a t n dir to made)
    by true is = rw is (keep_go_on a t n dir to (and_record (log.Attempt t n dir) made) (open_note a t (log.Attempt t n dir) made tt (and_parts _ _ (and_parts _ _ is).0).0) (Notes (log.Attempt t n dir) made tt k))
    by false is = rw is k

may_keep : (a : At) (t : Txn) (dir : Dir) (made : Made) → Ruled a made → Ruled a (if may_decide a t dir made then and_decide a t dir made else made)
may_keep a t dir made k = by (may_decide a t dir made) refl
  where
    by : (b : Bool) → may_decide a t dir made ≡ b → Ruled a (if b then and_decide a t dir made else made)
    by true is = keep_decide a t dir made (may_open a t dir made is) k
    by false is = k

keep_decided : (a : At) (t : Txn) (group : List ℕ) (dir : Dir) (made : Made) → Ruled a made →
    Ruled a (and_cast a group (msg.Decide t dir) (if may_decide a t dir made then and_decide a t dir made else made))
keep_decided a t group dir made k = keep_told a t dir group _ (may_keep a t dir made k)

keep_dies : (a : At) (t : Txn) (n : ℕ) (made : Made) (older : Txn) → open_now a t made ≡ true → Ruled a made → (b : Bool) → is_coordinator a t ≡ b → Ruled a (dies a t n made older b)
keep_dies a t n made older still k true is = keep_abort_for a t (told.Died t older) made tt still k
keep_dies a t n made older still k false is = Says t.site (msg.Died t n older) (and_decide a t Abort made) is tt (keep_decide a t Abort made still k)

pub keep_on_do : (a : At) (f : ℕ) (t : Txn) (n : ℕ) (op : Op) → Comes a t n op → (state_now a t nothing ≡ A → (f == a.site) ≡ false) → Rule a (on_do a f t n op nothing)
keep_on_do a f t n op comes away = by (state_now a t nothing) refl
  where
    asked : Asked
    asked = record { txn = t; n = n; op = op }

    granted_by : (g : Grant) → state_now a t nothing ≡ Q → answers (record { txn = t; n = n; op = op }) a.life.steps ≡ [] →
        list_any (same_asked (record { txn = t; n = n; op = op })) (waiting a.site (log_now a nothing) a.life.steps) ≡ false →
        lock_grant (record { txn = t; mode = mode_of op }) (holders a.site (key_of op).name (log_now a nothing) a.life.steps)
        (queue (key_of op).name (waiting a.site (log_now a nothing) a.life.steps)) ≡ g → Rule a (by_grant a t n op nothing g)
    granted_by Held state none absent is = Locks t n op (record { comes = comes; idle = state; unanswered = none; absent = absent; held = is })
    granted_by Waits state none absent is = Otherwise nothing Start
    granted_by (Dies older) state none absent is = Otherwise _ (keep_dies a t n nothing older (idle_open t (log_now a nothing) state) Start (is_coordinator a t) refl)

    new : (b : Bool) → state_now a t nothing ≡ Q → answers (record { txn = t; n = n; op = op }) a.life.steps ≡ [] →
        list_any (same_asked (record { txn = t; n = n; op = op })) (waiting a.site (log_now a nothing) a.life.steps) ≡ b → Rule a (on_do a f t n op nothing)
    new true state none is = rw (state, none, is) (Otherwise nothing Start)
    new false state none is = rw (state, none, is) (granted_by
        (lock_grant (record { txn = t; mode = mode_of op }) (holders a.site (key_of op).name (log_now a nothing) a.life.steps)
        (queue (key_of op).name (waiting a.site (log_now a nothing) a.life.steps))) state none is refl)

    answered : (l : List Answer) → state_now a t nothing ≡ Q → answers (record { txn = t; n = n; op = op }) a.life.steps ≡ l → Rule a (on_do a f t n op nothing)
    answered [] state is = new (list_any (same_asked (record { txn = t; n = n; op = op })) (waiting a.site (log_now a nothing) a.life.steps)) state is refl
    answered (answer ∷ more) state is = rw (state, is) (Repeats t n answer (record { op = op; comes = comes; idle = state; more = more; answered = is }))

    by : (st : State) → state_now a t nothing ≡ st → Rule a (on_do a f t n op nothing)
    by A state = rw state (Otherwise _ (Says f (msg.Vote t false) nothing (away state) tt Start))
    by Q state = answered (answers (record { txn = t; n = n; op = op }) a.life.steps) state refl
    by W state = rw state (Otherwise nothing Start)
    by Pc state = rw state (Otherwise nothing Start)
    by Pa state = rw state (Otherwise nothing Start)
    by C state = rw state (Otherwise nothing Start)

-- an answer of another site
keep_on_done : (a : At) (packet : Packet) (t : Txn) (n inc : ℕ) (answer : Answer) → a.input ≡ input.Deliver packet → packet.msg ≡ msg.Done t n inc answer →
    Rule a (on_done a packet.«from» t n inc answer nothing)
keep_on_done a packet t n inc answer takes says = by (is_coordinator a t && is_present a t && open_now a t nothing) refl
  where
    f : ℕ
    f = packet.«from»

    is_from : Option Op → Bool
    is_from (Some op) = (key_of op).site == packet.«from»
    is_from None = false

    is_unanswered : Option ℕ → Bool
    is_unanswered (Some m) = n == m
    is_unanswered None = false

    the_op : (o : Option Op) → nth_op n (issued t (steps_now a nothing)) ≡ o → is_from o ≡ true →
        (op : Op) × (nth_op n (issued t (steps_now a nothing)) ≡ Some op) × (((key_of op).site == packet.«from») ≡ true)
    the_op None is same = absurd cc
    the_op (Some op) is same = (op, is, same)

    the_n : (o : Option ℕ) → unanswered t (log_now a nothing) (steps_now a nothing) ≡ o → is_unanswered o ≡ true → unanswered t (log_now a nothing) (steps_now a nothing) ≡ Some n
    the_n None is same = absurd cc
    the_n (Some m) is same = is ∙ ap Some (sym (eqb-true n m same))

    counts : (b : Bool) → is_coordinator a t ≡ true → is_present a t ≡ true → open_now a t nothing ≡ true →
        unanswered t (log_now a nothing) (steps_now a nothing) ≡ Some n →
        (op : Op) × (nth_op n (issued t (steps_now a nothing)) ≡ Some op) × (((key_of op).site == packet.«from») ≡ true) →
        ((expected a.site a.life.inc t a.life.steps packet.«from»).count == 0 || (expected a.site a.life.inc t a.life.steps packet.«from»).inc == inc) ≡ b →
        Rule a (if b then and_tell (told.Op t n answer) nothing
        else if may_abort a t nothing then and_abort_for a t (told.Doomed t packet.«from» (expected a.site a.life.inc t a.life.steps packet.«from»).inc inc) nothing else nothing)
    counts true home present still last o is = Hears t n answer (record {
      packet = packet;
      takes = takes;
      inc = inc;
      says = says;
      coordinator = home;
      present = present;
      unanswered = last;
      op = o.0;
      nth = o.1;
      there = o.2;
      same = is;
    })
    counts false home present still last o is = Otherwise _ (keep_choice a (may_abort a t nothing) _ nothing (keep_abort_for a t _ nothing tt still Start) Start)

    passes : (b : Bool) → (is_unanswered (unanswered t (log_now a nothing) (steps_now a nothing)) && is_from (nth_op n (issued t (steps_now a nothing)))) ≡ b →
        (is_coordinator a t && is_present a t && open_now a t nothing) ≡ true → Rule a (on_done a packet.«from» t n inc answer nothing)
    passes true both is =
        let p : _ = and_parts _ _ both in
        let q : _ = and_parts _ _ is in
        let r : _ = and_parts _ _ q.0 in
        rw (is, both) (counts _ r.0 r.1 q.1 (the_n (unanswered t (log_now a nothing) (steps_now a nothing)) refl p.0) (the_op (nth_op n (issued t (steps_now a nothing))) refl p.1) refl)
    passes false both is = rw (is, both) (Otherwise nothing Start)

    by : (b : Bool) → (is_coordinator a t && is_present a t && open_now a t nothing) ≡ b → Rule a (on_done a packet.«from» t n inc answer nothing)
    by true is = passes (is_unanswered (unanswered t (log_now a nothing) (steps_now a nothing)) && is_from (nth_op n (issued t (steps_now a nothing)))) refl is
    by false is = rw is (Otherwise nothing Start)

-- the news that a request died sends an abort at most
keep_on_died : (a : At) (t older : Txn) (made : Made) → Ruled a made → Ruled a (on_died a t older made)
keep_on_died a t older made k = by (may_abort a t made) (is_present a t) refl refl
  where
    by : (b c : Bool) → may_abort a t made ≡ b → is_present a t ≡ c → Ruled a (on_died a t older made)
    by true true is here = rw (is, here) (keep_abort_for a t (told.Died t older) made tt (abort_open a t made is) k)
    by true false is here = rw (is, here) (keep_abort a t made (abort_open a t made is) k)
    by false c is here = rw is k

-- a request for a vote, at the begin of a step
keep_on_vote_req : (a : At) (packet : Packet) (t : Txn) (inc count : ℕ) → a.input ≡ input.Deliver packet → packet.msg ≡ msg.VoteReq t inc count →
    (packet.«from» == a.site) ≡ false → Ruled a (on_vote_req a packet.«from» t inc count nothing)
keep_on_vote_req a packet t inc count takes says away = by (state_now a t nothing) (elected_now a t nothing == 1) refl refl
  where
    sent : (said : Bool) (more : Made) → Ruled a more → Ruled a (and_send a packet.«from» (msg.Vote t said) more)
    sent said more kept = Says packet.«from» (msg.Vote t said) more away tt kept

    judged : (b : Bool) → vote_rule a t inc count nothing ≡ b → state_now a t nothing ≡ Q → (elected_now a t nothing == 1) ≡ true →
        Ruled a (on_vote_req a packet.«from» t inc count nothing)
    judged true rule state first = rw (state, first, rule) (sent true (and_vote a t nothing)
        (Votes t state (inr (record { packet = packet; takes = takes; inc = inc; count = count; says = says; rule = rule }))))
    judged false rule state first = rw (state, first, rule) (sent false (and_decide a t Abort nothing) (keep_decide a t Abort nothing (idle_open t (log_now a nothing) state) Start))

    by : (st : State) (b : Bool) → state_now a t nothing ≡ st → (elected_now a t nothing == 1) ≡ b → Ruled a (on_vote_req a packet.«from» t inc count nothing)
    by A b state first = rw state (sent false nothing Start)
    by W true state first = rw (state, first) (sent true nothing Start)
    by W false state first = rw (state, first) Start
    by Q true state first = judged (vote_rule a t inc count nothing) refl state first
    by Q false state first = rw (state, first) Start
    by Pc b state first = rw state Start
    by Pa b state first = rw state Start
    by C b state first = rw state Start

-- a yes sends the attempt or the decision to commit
keep_on_yes : (a : At) (t : Txn) (made : Made) → Ruled a made → Ruled a (on_yes a t made)
keep_on_yes a t made k = by (is_coordinator a t && same_state (state_now a t made) W && elected_now a t made == 1) refl
  where
    counted : (o : Option (List ℕ)) → yes_votes t (steps_now a made) ≡ o →
        (is_coordinator a t && same_state (state_now a t made) W && elected_now a t made == 1) ≡ true → Ruled a (on_yes a t made)
    counted None votes is = rw (is, votes) k
    counted (Some came) votes is =
        rw (is, votes) (keep_choice a _ _ made (keep_attempt a t 1 Commit t.sites made k) k)

    by : (b : Bool) → (is_coordinator a t && same_state (state_now a t made) W && elected_now a t made == 1) ≡ b → Ruled a (on_yes a t made)
    by true is = counted (yes_votes t (steps_now a made)) refl is
    by false is = rw is k

keep_verdict : (a : At) (t : Txn) (n : ℕ) (group : List ℕ) (reports : List SiteReport) (made : Made) →
    Ruled a made → Ruled a (and_verdict a t n group reports made)
keep_verdict a t n group reports made k = by (verdict_of a.weights t.sites reports) refl
  where
    said : (v : Verdict) → Ruled a (and_tell (told.Verdict t n v) made)
    said v = Tells (told.Verdict t n v) made tt k

    by : (v : Verdict) → verdict_of a.weights t.sites reports ≡ v → Ruled a (and_verdict a t n group reports made)
    by verdict.Abort is = rw is (keep_decided a t group Abort _ (said verdict.Abort))
    by verdict.Commit is = rw is (keep_decided a t group Commit _ (said verdict.Commit))
    by verdict.PreCommit is = rw is (keep_attempt a t n Commit group _ (said verdict.PreCommit))
    by verdict.PreAbort is = rw is (keep_attempt a t n Abort group _ (said verdict.PreAbort))
    by (verdict.Block have total) is = rw is (said (verdict.Block have total))

keep_behind : (a : At) (t : Txn) (n : ℕ) (e : Election) (report : SiteReport) (ss : List ℕ) (more : Made) →
    Ruled a more → Ruled a (behind_join a t n e report ss more)
keep_behind a t n e report [] more k = keep_verdict a t n e.group (report ∷ []) more k
keep_behind a t n e report (s ∷ ss) more k = k

-- an election that is heard sends its number, and where the group is one site what its verdict sends
pub keep_join : (a : At) (t : Txn) (e : Election) (made : Made) → Ruled a made → Ruled a (and_join a t e made)
keep_join a t e made k = by (all_heard e && nat_lt (greatest_heard e) 4294967295 && nat_le (elected_now a t made) (greatest_heard e)) refl
  where
    joined : Ruled a (and_cast a e.group (msg.Elected t (suc (greatest_heard e))) (and_record (log.Join t (suc (greatest_heard e))) made))
    joined = keep_cast a e.group _ _ tt
        (Notes (log.Join t (suc (greatest_heard e))) made tt k)

    by : (b : Bool) → (all_heard e && nat_lt (greatest_heard e) 4294967295 && nat_le (elected_now a t made) (greatest_heard e)) ≡ b → Ruled a (and_join a t e made)
    by true is = rw is (keep_behind a t (suc (greatest_heard e)) e
        (record { site = a.site; state = state_now a t made; attempt = attempt_now a t made }) (others a.site e.group) _ joined)
    by false is = rw is k

-- an answer to a call
keep_on_last : (a : At) (f : ℕ) (t : Txn) (call : Call) (elected : ℕ) (made : Made) → Ruled a made →
    Ruled a (on_last a f t call elected made)
keep_on_last a f t call elected made k = by (election_in_progress a.site a.life.inc t a.life.steps) refl
  where
    heard : (e : Election) (o : Option Election) → election_in_progress a.site a.life.inc t a.life.steps ≡ Some e → hear_in e f call elected ≡ o →
        Ruled a (on_last a f t call elected made)
    heard e None is took = rw (is, took) k
    heard e (Some more) is took = rw (is, took) (keep_join a t more made k)

    by : (o : Option Election) → election_in_progress a.site a.life.inc t a.life.steps ≡ o → Ruled a (on_last a f t call elected made)
    by None is = rw is k
    by (Some e) is = heard e (hear_in e f call elected) is refl

-- a number of an election
keep_on_elected : (a : At) (f : ℕ) (t : Txn) (n : ℕ) (made : Made) → (f == a.site) ≡ false → Ruled a made → Ruled a (on_elected a f t n made)
keep_on_elected a f t n made away k = by (nat_lt (elected_now a t made) n) refl
  where
    by : (b : Bool) → nat_lt (elected_now a t made) n ≡ b → Ruled a (on_elected a f t n made)
    by true is = rw is (Says f (msg.Report t n (state_now a t made) (attempt_now a t made)) _ away tt (Notes (log.Join t n) made tt k))
    by false is = rw is k

-- a report
keep_on_report : (a : At) (t : Txn) (n : ℕ) (report : SiteReport) (made : Made) → Ruled a made →
    Ruled a (on_report a t n report made)
keep_on_report a t n report made k = by (election_in_progress a.site a.life.inc t a.life.steps) refl
  where
    reported : (e : Election) (o : Option Election) → election_in_progress a.site a.life.inc t a.life.steps ≡ Some e → take_report e n report ≡ o →
        Ruled a (on_report a t n report made)
    reported e None is took = rw (is, took) k
    reported e (Some more) is took = rw (is, took) (keep_choice a (all_reported more) _ made (keep_verdict a t n more.group more.reports made k) k)

    by : (o : Option Election) → election_in_progress a.site a.life.inc t a.life.steps ≡ o → Ruled a (on_report a t n report made)
    by None is = rw is k
    by (Some e) is = reported e (take_report e n report) is refl

-- an attempt that is asked of the site
keep_on_pre : (a : At) (f : ℕ) (t : Txn) (n : ℕ) (dir : Dir) (made : Made) → (f == a.site) ≡ false → Ruled a made → Ruled a (on_pre a f t n dir made)
keep_on_pre a f t n dir made away k = by (open_now a t made && elected_now a t made == n) refl
  where
    by : (b : Bool) → (open_now a t made && elected_now a t made == n) ≡ b → Ruled a (on_pre a f t n dir made)
    by true is = rw is (Says f (msg.Ack t n dir) _ away tt
        (keep_choice a (attempt_now a t made == n) made _ k (Notes (log.Attempt t n dir) made tt k)))
    by false is = rw is k

-- an acknowledgement
keep_on_ack : (a : At) (f : ℕ) (t : Txn) (n : ℕ) (dir : Dir) (made : Made) → Ruled a made → Ruled a (on_ack a f t n dir made)
keep_on_ack a f t n dir made k = by (round_in_progress a.site t a.life.steps) refl
  where
    acked : (r : Round) → (b : Bool) → (r.n == n && same_dir r.dir dir && may_decide a t dir made && is_quorum a.weights (a.site ∷ r.acked) t.sites) ≡ b →
        Ruled a (if b then and_cast a r.to (msg.Decide t dir) (and_decide a t dir made) else made)
    acked r true is = keep_told a t dir r.to _ (keep_decide a t dir made (may_open a t dir made (and_parts _ _ (and_parts _ _ is).0).1) k)
    acked r false is = k

    by : (o : Option Round) → round_in_progress a.site t a.life.steps ≡ o → Ruled a (on_ack a f t n dir made)
    by None is = rw is k
    by (Some r) is = rw is (acked (count_ack r f n dir) _ refl)

-- a packet that the step takes
pub keep_delivery : (a : At) (packet : Packet) (x : Message) → a.input ≡ input.Deliver packet → packet.msg ≡ x → (packet.«from» == a.site) ≡ false → Rule a (on_message a packet.«from» x nothing)
keep_delivery a packet (msg.Do t n op) takes says away = keep_on_do a packet.«from» t n op (record { how = inl (packet, takes, says) }) (λ is. away)
keep_delivery a packet (msg.Done t n inc answer) takes says away = keep_on_done a packet t n inc answer takes says
keep_delivery a packet (msg.Died t n older) takes says away = Otherwise _ (keep_on_died a t older nothing Start)
keep_delivery a packet (msg.Ask t call) takes says away = Otherwise _ (Says packet.«from» (msg.LastElected t call (elected_now a t nothing)) nothing away tt Start)
keep_delivery a packet (msg.LastElected t call elected) takes says away = Otherwise _ (keep_on_last a packet.«from» t call elected nothing Start)
keep_delivery a packet (msg.Elected t n) takes says away = Otherwise _ (keep_on_elected a packet.«from» t n nothing away Start)
keep_delivery a packet (msg.Report t n st attempt) takes says away = Otherwise _ (keep_on_report a t n (record { site = packet.«from»; state = st; attempt = attempt }) nothing Start)
keep_delivery a packet (msg.VoteReq t inc count) takes says away = Otherwise _ (keep_on_vote_req a packet t inc count takes says away)
keep_delivery a packet (msg.Vote t true) takes says away = Otherwise _ (keep_on_yes a t nothing Start)
keep_delivery a packet (msg.Vote t false) takes says away = Otherwise _ (by (may_abort a t nothing) refl)
  where
    by : (b : Bool) → may_abort a t nothing ≡ b → Ruled a (if b then and_abort a t nothing else nothing)
    by true is = keep_abort a t nothing (abort_open a t nothing is) Start
    by false is = Start
keep_delivery a packet (msg.Pre t n dir) takes says away = Otherwise _ (keep_on_pre a packet.«from» t n dir nothing away Start)
keep_delivery a packet (msg.Ack t n dir) takes says away = Otherwise _ (keep_on_ack a packet.«from» t n dir nothing Start)
keep_delivery a packet (msg.Decide t dir) takes says away = Otherwise _ (may_keep a t dir nothing Start)

-- inputs of the coordinator
asked_records : (a : At) (t : Txn) (made : Made) (s : ℕ) → (s == a.site) ≡ false → (and_ask a t made s).records ≡ made.records
asked_records a t made s away = rw away refl

keep_asked : (a : At) (t : Txn) (sites : List ℕ) (made : Made) → Commits a t → Each (λ s. (s == a.site) ≡ false) sites → has_voted t made.records ≡ true → Ruled a made → Ruled a (fold (and_ask a t) made sites)
keep_asked a t [] made commits all voted kept = kept
keep_asked a t (s ∷ sites) made commits all voted kept =
    keep_asked a t sites (and_ask a t made s) commits all.1 (ap (has_voted t) (asked_records a t made s all.0) ∙ voted) (Asks s t made all.0 commits voted kept)

others_away : (site : ℕ) (sites : List ℕ) → Each (λ s. (s == site) ≡ false) (others site sites)
others_away site [] = tt
others_away site (s ∷ sites) = by (s == site) refl (others_away site sites)
  where
    by : (b : Bool) → (s == site) ≡ b → Each (λ s. (s == site) ≡ false) (others site sites) → Each (λ s. (s == site) ≡ false) (if not b then s ∷ others site sites else others site sites)
    by true is more = more
    by false is more = (is, more)

pub allowed_parts : (a : At) (t : Txn) → refuse a t false nothing ≡ None →
    (is_present a t ≡ true) × (unanswered t (log_now a nothing) a.life.steps ≡ None) × (state_now a t nothing ≡ Q)
allowed_parts a t allowed = here (is_present a t) refl
  where
    undecided : decision t (log_now a nothing) ≡ None
    undecided = by (decision t (log_now a nothing)) refl (allowed_open a t false allowed)
      where
        by : (d : Option Dir) → decision t (log_now a nothing) ≡ d → open_now a t nothing ≡ true → decision t (log_now a nothing) ≡ None
        by None is still = is
        by (Some dir) is still = absurd (let now : open_now a t nothing ≡ false = rw is refl in let both : true ≡ false = sym still ∙ now in cc)

    late : (st : State) → state_now a t nothing ≡ st → is_present a t ≡ true → unanswered t (log_now a nothing) a.life.steps ≡ None → state_now a t nothing ≡ Q
    late Q is here none = is
    late W is here none = absurd (let now : refuse a t false nothing ≡ Some (refusal.TooLate (attempt_now a t nothing)) = rw (undecided, here, none, is) refl in let both : None ≡ Some (refusal.TooLate (attempt_now a t nothing)) = sym allowed ∙ now in cc)
    late Pc is here none = absurd (let now : refuse a t false nothing ≡ Some (refusal.TooLate (attempt_now a t nothing)) = rw (undecided, here, none, is) refl in let both : None ≡ Some (refusal.TooLate (attempt_now a t nothing)) = sym allowed ∙ now in cc)
    late Pa is here none = absurd (let now : refuse a t false nothing ≡ Some (refusal.TooLate (attempt_now a t nothing)) = rw (undecided, here, none, is) refl in let both : None ≡ Some (refusal.TooLate (attempt_now a t nothing)) = sym allowed ∙ now in cc)
    late C is here none = absurd (let now : refuse a t false nothing ≡ Some (refusal.TooLate (attempt_now a t nothing)) = rw (undecided, here, none, is) refl in let both : None ≡ Some (refusal.TooLate (attempt_now a t nothing)) = sym allowed ∙ now in cc)
    late A is here none = absurd (let now : refuse a t false nothing ≡ Some (refusal.TooLate (attempt_now a t nothing)) = rw (undecided, here, none, is) refl in let both : None ≡ Some (refusal.TooLate (attempt_now a t nothing)) = sym allowed ∙ now in cc)

    busy : (o : Option ℕ) → is_present a t ≡ true → unanswered t (log_now a nothing) a.life.steps ≡ o → (is_present a t ≡ true) × (unanswered t (log_now a nothing) a.life.steps ≡ None) × (state_now a t nothing ≡ Q)
    busy (Some n) here is = absurd (let now : refuse a t false nothing ≡ Some (refusal.Busy n) = rw (undecided, here, is) refl in let both : None ≡ Some (refusal.Busy n) = sym allowed ∙ now in cc)
    busy None here is = (here, is, late (state_now a t nothing) refl here is)

    here : (b : Bool) → is_present a t ≡ b → (is_present a t ≡ true) × (unanswered t (log_now a nothing) a.life.steps ≡ None) × (state_now a t nothing ≡ Q)
    here true is = busy (unanswered t (log_now a nothing) a.life.steps) is refl
    here false is = absurd (let now : refuse a t false nothing ≡ Some refusal.NoTxn = rw (undecided, is) refl in let both : None ≡ Some refusal.NoTxn = sym allowed ∙ now in cc)

pub keep_commit : (a : At) (t : Txn) → Commits a t → Ruled a (on_commit a t nothing)
keep_commit a t commits = by (elected_now a t nothing == 1) refl
  where
    still : open_now a t nothing ≡ true
    still = allowed_open a t false commits.allowed

    voted : Ruled a (and_vote a t nothing)
    voted = Votes t (allowed_parts a t commits.allowed).2 (inl commits)

    alone : (ss : List ℕ) → others a.site t.sites ≡ ss → (elected_now a t nothing == 1) ≡ true → Each (λ s. (s == a.site) ≡ false) ss → Ruled a (on_commit a t nothing)
    alone [] none is away = rw (is, none) (keep_attempt a t 1 Commit t.sites (and_vote a t nothing) voted)
    alone (s ∷ ss) some is away = rw (is, some) (keep_asked a t (s ∷ ss) (and_vote a t nothing) commits away (or_left (same_txn t t) false (same_self t)) voted)

    by : (b : Bool) → (elected_now a t nothing == 1) ≡ b → Ruled a (on_commit a t nothing)
    by true is = alone (others a.site t.sites) refl is (others_away a.site t.sites)
    by false is = rw is (keep_abort a t nothing still Start)

pub keep_expire : (a : At) (t : Txn) → Ruled a (on_expire a t nothing)
keep_expire a t = by (may_abort a t nothing) (state_now a t nothing) refl refl
  where
    by : (b : Bool) (st : State) → may_abort a t nothing ≡ b → state_now a t nothing ≡ st → Ruled a (on_expire a t nothing)
    by true st may is = rw may (keep_abort a t nothing (abort_open a t nothing may) Start)
    by false Q may is = rw (may, is) (keep_decide a t Abort nothing (idle_open t (log_now a nothing) is) Start)
    by false W may is = rw (may, is) (Tells (told.Kept t W) nothing tt Start)
    by false Pc may is = rw (may, is) (Tells (told.Kept t Pc) nothing tt Start)
    by false Pa may is = rw (may, is) (Tells (told.Kept t Pa) nothing tt Start)
    by false C may is = rw (may, is) (Tells (told.Kept t C) nothing tt Start)
    by false A may is = rw (may, is) (Tells (told.Kept t A) nothing tt Start)
