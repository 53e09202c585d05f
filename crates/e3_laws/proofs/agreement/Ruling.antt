-- Each rule of a step tells only what stands in the site's log with the step.
use Rattle.std.proofs.Common.{arith, eqb-true, ◌≡◌, inl, inr, ◌∷◌, [], ◌++◌, ◌==◌, ◌&&◌, ◌||◌, ℕ, suc, Bool, true, false, List, map, Option, Some, None, refl, sym, ap, subst, ◌∙◌, if◌then◌else◌, nat_lt}
use Rattle.std.proofs.lemmas.Bool.{and_parts}
use Rattle.std.specs.Prelude.{nat_le}
use Rattle.std.specs.List.{list_any}
use Rattle.e3_types.specs.declared.entries.Told.TheVariants as told
use Rattle.e3_types.specs.declared.locks.Grant.{Grant}
use Rattle.e3_types.specs.declared.locks.Grant.TheVariants.{Held, Waits, Dies}
use Rattle.e3_types.specs.declared.messages.Message.{Message}
use Rattle.e3_types.specs.declared.messages.Message.TheVariants as msg
use Rattle.e3_types.specs.declared.messages.Packet.{Packet}
use Rattle.e3_types.specs.declared.records.Record.TheVariants as log
use Rattle.e3_types.specs.declared.transactions.Answer.{Answer}
use Rattle.e3_types.specs.declared.transactions.Call.{Call}
use Rattle.e3_types.specs.declared.transactions.Dir.{Dir}
use Rattle.e3_types.specs.declared.transactions.Dir.TheVariants.{Abort, Commit}
use Rattle.e3_types.specs.declared.transactions.Op.{Op}
use Rattle.e3_types.specs.declared.transactions.State.{State}
use Rattle.e3_types.specs.declared.transactions.State.TheVariants.{Q, W, Pc, Pa, C, A}
use Rattle.e3_types.specs.declared.transactions.Txn.{Txn}
use Rattle.e3_types.specs.declared.verdicts.SiteReport.{SiteReport}
use Rattle.e3_types.specs.declared.verdicts.Verdict.{Verdict}
use Rattle.e3_types.specs.declared.verdicts.Verdict.TheVariants as verdict
use Rattle.e3_types.specs.Locks.{lock_grant}
use Rattle.e3_types.specs.Quorums.{is_quorum}
use Rattle.e3_types.specs.Same.{same_dir, same_state, same_txn}
use Rattle.e3_types.specs.Sets.{has_site, is_within, others}
use Rattle.e3_types.specs.Verdicts.{verdict_of}
use Rattle.e3_world.specs.Gatherings.{Election, Round}
use Rattle.e3_world.specs.declared.lives.At.{At}
use Rattle.e3_world.specs.declared.lives.Expected.{Expected}
use Rattle.e3_world.specs.declared.lives.Made.{Made}
use Rattle.e3_world.specs.AttemptRules.{on_pre, on_ack}
use Rattle.e3_world.specs.ElectionRules.{and_verdict, and_join, on_last, on_elected, on_report}
use Rattle.e3_world.specs.Elections.{all_heard, all_reported, greatest_heard, hear, take_report, election_in_progress}
use Rattle.e3_world.specs.Logs.{key_of, mode_of}
use Rattle.e3_world.specs.Making.{nothing, log_now, steps_now, state_now, elected_now, attempt_now, open_now, is_coordinator, is_present, may_abort, may_decide, and_record, and_tell, and_send, and_cast, and_decide, and_abort, and_abort_for, and_attempt, and_vote}
use Rattle.e3_world.specs.Messages.{on_message}
use Rattle.e3_world.specs.OperationRules.{on_do, on_done, on_died}
use Rattle.e3_world.specs.Operations.{same_asked, answers, waiting, holders, queue, expected}
use Rattle.e3_world.specs.Rounds.{count_ack, round_in_progress}
use Rattle.e3_world.specs.Safe.{says, said_told}
use Rattle.e3_world.specs.VoteRules.{vote_rule, on_vote_req, on_yes}
use Rattle.e3_world.specs.Votes.{yes_votes}
use Rattle.e3_laws.specs.agreement.Logs.{IsIn, Final}
use Rattle.e3_laws.specs.agreement.Rules.{Report, Reply, Came}
use Rattle.e3_laws.specs.agreement.Verdicts.{status_in, reply_of, FinalIn, Rules}
use Rattle.e3_laws.specs.agreement.Rows.{Here, Stands}
use Rattle.e3_laws.proofs.agreement.Refinement.Elections.{cast_records}
use Rattle.e3_laws.proofs.agreement.Refinement.Gathered.{NumberedOk, ElectionOk, take_ok, election_stands}
use Rattle.e3_laws.proofs.agreement.Saying.{one_if, ReportsOnce, is_quiet, Tells, tells_nothing, stood_more, tells_record, tells_tell, tells_send, tells_cast, one_said, tells_decide, tells_decided, tells_abort, tells_abort_for, tells_attempt, tells_vote, tells_do}
use Rattle.e3_laws.proofs.agreement.Finding.{final_found, verdict_stands}
use Rattle.e3_laws.proofs.steps.Rules.{by_grant, dies, behind_join}
use Rattle.e3_laws.proofs.steps.Tests.{same_is}
use Rattle.e3_laws.proofs.agreement.Refinement.Verdicts.{rules_of}

tells_dies : (a : At) (made : Made) (u : Txn) (n : ℕ) (older : Txn) (b : Bool) → Tells a made → Tells a (dies a u n made older b)
tells_dies a made u n older true t = tells_abort_for a made u (told.Died u older) t refl
tells_dies a made u n older false t = tells_send a (and_decide a u Abort made) u.site (msg.Died u n older) (tells_decide a made u Abort t) (λ q. refl) (λ v k. refl)

tells_grant : (a : At) (made : Made) (u : Txn) (n : ℕ) (op : Op) (g : Grant) → Tells a made → Tells a (by_grant a u n op made g)
tells_grant a made u n op Held t = tells_do a made u n op t
tells_grant a made u n op Waits t = t
tells_grant a made u n op (Dies older) t = tells_dies a made u n older (is_coordinator a u) t

-- a request for a lock
tells_asked : (a : At) (made : Made) (f : ℕ) (u : Txn) (n : ℕ) (op : Op) → Tells a made → Tells a (on_do a f u n op made)
tells_asked a made f u n op t = by (state_now a u made) refl
  where
    asks : (b : Bool) (g : Grant) → Tells a (if b then made else by_grant a u n op made g)
    asks true g = t
    asks false g = tells_grant a made u n op g t

    answered : (l : List Answer) → state_now a u made ≡ Q → answers (record { txn = u; n = n; op = op }) a.life.steps ≡ l → Tells a (on_do a f u n op made)
    answered [] state is = rw (state, is) (asks
        (list_any (same_asked (record { txn = u; n = n; op = op })) (waiting a.site (log_now a made) a.life.steps))
        (lock_grant (record { txn = u; mode = mode_of op }) (holders a.site (key_of op).name (log_now a made) a.life.steps)
        (queue (key_of op).name (waiting a.site (log_now a made) a.life.steps))))
    answered (answer ∷ more) state is = rw (state, is) (tells_send a made u.site (msg.Done u n a.life.inc answer) t (λ q. refl) (λ v k. refl))

    by : (st : State) → state_now a u made ≡ st → Tells a (on_do a f u n op made)
    by A state = rw state (tells_send a made f (msg.Vote u false) t (λ q. refl) (λ v k. refl))
    by Q state = answered (answers (record { txn = u; n = n; op = op }) a.life.steps) state refl
    by W state = rw state t
    by Pc state = rw state t
    by Pa state = rw state t
    by C state = rw state t

-- the answer to an operation
tells_done : (a : At) (made : Made) (f : ℕ) (u : Txn) (n inc : ℕ) (answer : Answer) → Tells a made → Tells a (on_done a f u n inc answer made)
tells_done a made f u n inc answer t = by (is_coordinator a u && is_present a u && open_now a u made) refl
  where
    aborts : (e : Expected) (b : Bool) → Tells a (if b then and_abort_for a u (told.Doomed u f e.inc inc) made else made)
    aborts e true = tells_abort_for a made u (told.Doomed u f e.inc inc) t refl
    aborts e false = t

    counts : (e : Expected) (b : Bool) →
        Tells a (if b then and_tell (told.Op u n answer) made else if may_abort a u made then and_abort_for a u (told.Doomed u f e.inc inc) made else made)
    counts e true = tells_tell a made (told.Op u n answer) t (λ s k. absurd k)
    counts e false = aborts e (may_abort a u made)

    first : (e : Expected) (b c : Bool) →
        Tells a (if b then if c then and_tell (told.Op u n answer) made else if may_abort a u made then and_abort_for a u (told.Doomed u f e.inc inc) made else made else made)
    first e true c = counts e c
    first e false c = t

    by : (b : Bool) → (is_coordinator a u && is_present a u && open_now a u made) ≡ b → Tells a (on_done a f u n inc answer made)
    by true is =
        let e : Expected = expected a.site a.life.inc u a.life.steps f in
        rw is (first e _ (e.count == 0 || e.inc == inc))
    by false is = rw is t

-- a request that died elsewhere
tells_died : (a : At) (made : Made) (u older : Txn) → Tells a made → Tells a (on_died a u older made)
tells_died a made u older t = by (may_abort a u made) (is_present a u) refl refl
  where
    by : (b c : Bool) → may_abort a u made ≡ b → is_present a u ≡ c → Tells a (on_died a u older made)
    by true true may here = rw (may, here) (tells_abort_for a made u (told.Died u older) t refl)
    by true false may here = rw (may, here) (tells_abort a made u t)
    by false c may here = rw may t

tells_no : (a : At) (made : Made) (u : Txn) (b : Bool) → Tells a made → Tells a (if b then and_abort a u made else made)
tells_no a made u true t = tells_abort a made u t
tells_no a made u false t = t

tells_decides : (a : At) (made : Made) (u : Txn) (d : Dir) (b : Bool) → Tells a made → Tells a (if b then and_decide a u d made else made)
tells_decides a made u d true t = tells_decide a made u d t
tells_decides a made u d false t = t

-- a site that is asked for its vote
tells_vote_req : (a : At) (made : Made) (f : ℕ) (u : Txn) (inc count : ℕ) → Tells a made → Tells a (on_vote_req a f u inc count made)
tells_vote_req a made f u inc count t = by (state_now a u made) (elected_now a u made == 1) refl refl
  where
    say : (b : Bool) → state_now a u made ≡ Q → (elected_now a u made == 1) ≡ true → vote_rule a u inc count made ≡ b → Tells a (on_vote_req a f u inc count made)
    say true is one rule = rw (is, one, rule) (tells_send a (and_vote a u made) f (msg.Vote u true) (tells_vote a made u t) (λ q. refl) (λ v k. refl))
    say false is one rule = rw (is, one, rule) (tells_send a (and_decide a u Abort made) f (msg.Vote u false) (tells_decide a made u Abort t) (λ q. refl) (λ v k. refl))

    by : (st : State) (b : Bool) → state_now a u made ≡ st → (elected_now a u made == 1) ≡ b → Tells a (on_vote_req a f u inc count made)
    by A b is one = rw is (tells_send a made f (msg.Vote u false) t (λ q. refl) (λ v k. refl))
    by W true is one = rw (is, one) (tells_send a made f (msg.Vote u true) t (λ q. refl) (λ v k. refl))
    by Q true is one = say (vote_rule a u inc count made) is one refl
    by W false is one = rw (is, one) t
    by Q false is one = rw (is, one) t
    by Pc b is one = rw is t
    by Pa b is one = rw is t
    by C b is one = rw is t

-- a vote that is yes
tells_yes : (a : At) (made : Made) (u : Txn) → Tells a made → Tells a (on_yes a u made)
tells_yes a made u t = by (is_coordinator a u && same_state (state_now a u made) W && elected_now a u made == 1) refl
  where
    attempts : (b : Bool) → Tells a (if b then and_attempt a u 1 Commit u.sites made else made)
    attempts true = tells_attempt a made u 1 Commit u.sites t
    attempts false = t

    counts : (is_coordinator a u && same_state (state_now a u made) W && elected_now a u made == 1) ≡ true → (o : Option (List ℕ)) → yes_votes u (steps_now a made) ≡ o → Tells a (on_yes a u made)
    counts test None votes = rw (test, votes) t
    counts test (Some came) votes = rw (test, votes) (attempts (is_within (others a.site u.sites) came))

    by : (b : Bool) → (is_coordinator a u && same_state (state_now a u made) W && elected_now a u made == 1) ≡ b → Tells a (on_yes a u made)
    by true test = counts test (yes_votes u (steps_now a made)) refl
    by false test = rw test t

-- an attempt that is asked for
tells_pre : (a : At) (made : Made) (f : ℕ) (u : Txn) (n : ℕ) (d : Dir) → Tells a made → Tells a (on_pre a f u n d made)
tells_pre a made f u n d t = by (open_now a u made && elected_now a u made == n) refl
  where
    tries : (c : Bool) → Tells a (and_send a f (msg.Ack u n d) (if c then made else and_record (log.Attempt u n d) made))
    tries true = tells_send a made f (msg.Ack u n d) t (λ q. refl) (λ v k. refl)
    tries false = tells_send a (and_record (log.Attempt u n d) made) f (msg.Ack u n d) (tells_record a made (log.Attempt u n d) t) (λ q. refl) (λ v k. refl)

    by : (b : Bool) → (open_now a u made && elected_now a u made == n) ≡ b → Tells a (on_pre a f u n d made)
    by true is = rw is (tries (attempt_now a u made == n))
    by false is = rw is t

-- an acknowledgement
tells_ack : (a : At) (made : Made) (f : ℕ) (u : Txn) (n : ℕ) (d : Dir) → Tells a made → Tells a (on_ack a f u n d made)
tells_ack a made f u n d t = by (round_in_progress a.site u a.life.steps) refl
  where
    decides : (r : Round) (b : Bool) → Tells a (if b then and_cast a r.to (msg.Decide u d) (and_decide a u d made) else made)
    decides r true = tells_cast a r.to (msg.Decide u d) (and_decide a u d made) (λ v k. refl) (tells_decide a made u d t)
    decides r false = t

    by : (o : Option Round) → round_in_progress a.site u a.life.steps ≡ o → Tells a (on_ack a f u n d made)
    by None is = rw is t
    by (Some r) is = rw is (decides (count_ack r f n d)
        ((count_ack r f n d).n == n && same_dir (count_ack r f n d).dir d && may_decide a u d made && is_quorum a.weights (a.site ∷ (count_ack r f n d).acked) u.sites))

-- a message that belongs to no election
pub tells_quiet : (a : At) (made : Made) (f : ℕ) (m : Message) → is_quiet m ≡ true → Tells a made → Tells a (on_message a f m made)
tells_quiet a made f (msg.Do u n op) quiet t = tells_asked a made f u n op t
tells_quiet a made f (msg.Done u n inc answer) quiet t = tells_done a made f u n inc answer t
tells_quiet a made f (msg.Died u n older) quiet t = tells_died a made u older t
tells_quiet a made f (msg.VoteReq u inc count) quiet t = tells_vote_req a made f u inc count t
tells_quiet a made f (msg.Vote u true) quiet t = tells_yes a made u t
tells_quiet a made f (msg.Vote u false) quiet t = tells_no a made u (may_abort a u made) t
tells_quiet a made f (msg.Pre u n d) quiet t = tells_pre a made f u n d t
tells_quiet a made f (msg.Ack u n d) quiet t = tells_ack a made f u n d t
tells_quiet a made f (msg.Decide u d) quiet t = tells_decides a made u d (may_decide a u d made) t
tells_quiet a made f (msg.Ask u call) quiet t = cc
tells_quiet a made f (msg.LastElected u call number) quiet t = cc
tells_quiet a made f (msg.Elected u n) quiet t = cc
tells_quiet a made f (msg.Report u n st attempt) quiet t = cc

-- the verdict over reports: what it says as decided is recorded behind it, or stands already
tells_verdict : (a : At) (made : Made) (u : Txn) (n : ℕ) (group : List ℕ) (reports : List SiteReport) → Tells a made
    → ((d : Dir) → FinalIn (map reply_of reports) d → may_decide a u d made ≡ false → IsIn (log.Decision u d) (log_now a made)) → Tells a (and_verdict a u n group reports made)
tells_verdict a made u n group reports t stands = by (verdict_of a.weights u.sites reports) refl (rules_of a.weights u.sites reports)
  where
    more : Verdict → Made
    more v = and_tell (told.Verdict u n v) made

    same_may : (v : Verdict) (d : Dir) → may_decide a u d (more v) ≡ may_decide a u d made
    same_may v Abort = refl
    same_may v Commit = refl

    decided : (d : Dir) (v : Verdict) → said_told (told.Verdict u n v) ≡ says u d → FinalIn (map reply_of reports) d → (b : Bool) → may_decide a u d (more v) ≡ b
        → Tells a (and_cast a group (msg.Decide u d) (if b then and_decide a u d (more v) else more v))
    decided d v one final true may = tells_cast a group (msg.Decide u d) (and_decide a u d (more v)) (λ w k. refl) (tells_decided a made u d (told.Verdict u n v) t one)
    decided d v one final false may =
        tells_cast a group (msg.Decide u d) (more v) (λ w k. refl) (tells_tell a made (told.Verdict u n v) t
        (λ s k. one_said (log_now a made) u d (stands d final (sym (same_may v d) ∙ may)) s (subst (λ z. IsIn s z) one k)))

    by : (v : Verdict) → verdict_of a.weights u.sites reports ≡ v → Rules a.weights u.sites reports (verdict_of a.weights u.sites reports) → Tells a (and_verdict a u n group reports made)
    by verdict.Abort is rules =
        let final : FinalIn (map reply_of reports) Abort = subst (λ v. Rules a.weights u.sites reports v) is rules in
        rw is (decided Abort verdict.Abort refl final (may_decide a u Abort (more verdict.Abort)) refl)
    by verdict.Commit is rules =
        let final : FinalIn (map reply_of reports) Commit = subst (λ v. Rules a.weights u.sites reports v) is rules in
        rw is (decided Commit verdict.Commit refl final (may_decide a u Commit (more verdict.Commit)) refl)
    by verdict.PreCommit is rules = rw is (tells_attempt a (more verdict.PreCommit) u n Commit group (tells_tell a made (told.Verdict u n verdict.PreCommit) t (λ s k. absurd k)))
    by verdict.PreAbort is rules = rw is (tells_attempt a (more verdict.PreAbort) u n Abort group (tells_tell a made (told.Verdict u n verdict.PreAbort) t (λ s k. absurd k)))
    by (verdict.Block have total) is rules = rw is (tells_tell a made (told.Verdict u n (verdict.Block have total)) t (λ s k. absurd k))

-- the whole group was heard: alone in it the site concludes at once, from its own state
pub tells_join : (a : At) (made : Made) (u : Txn) (e : Election) → Tells a made → Tells a (and_join a u e made)
tells_join a made u e t = by (all_heard e && nat_lt (greatest_heard e) 4294967295 && nat_le (elected_now a u made) (greatest_heard e)) refl
  where
    n : ℕ
    n = suc (greatest_heard e)

    report : SiteReport
    report = record { site = a.site; state = state_now a u made; attempt = attempt_now a u made }

    joined : Made
    joined = and_record (log.Join u n) made

    said : Made
    said = and_cast a e.group (msg.Elected u n) joined

    said_tells : Tells a said
    said_tells = tells_cast a e.group (msg.Elected u n) joined (λ v k. refl) (tells_record a made (log.Join u n) t)

    final : (d : Dir) → FinalIn (map reply_of (report ∷ [])) d → IsIn (log.Decision u d) (log_now a said)
    final d (r, inl same, is) =
        let own : status_in (state_now a u made) ≡ Final d = sym (ap (λ (z : Reply). z.stood) same) ∙ is in
        subst (λ rs. IsIn (log.Decision u d) (a.life.log ++ rs)) (sym (cast_records a e.group (msg.Elected u n) joined))
        (stood_more a made (log.Join u n) (log.Decision u d) (final_found u (log_now a made) d own))
    final d (r, inr k, is) = absurd k

    alone : (l : List ℕ) → Tells a (behind_join a u n e report l said)
    alone [] = tells_verdict a said u n e.group (report ∷ []) said_tells (λ d k shut. final d k)
    alone (y ∷ ys) = said_tells

    by : (b : Bool) → (all_heard e && nat_lt (greatest_heard e) 4294967295 && nat_le (elected_now a u made) (greatest_heard e)) ≡ b → Tells a (and_join a u e made)
    by true test = rw test (alone (others a.site e.group))
    by false test = rw test t

-- an answer to the call of the election in progress
pub tells_last : (a : At) (made : Made) (f : ℕ) (u : Txn) (call : Call) (number : ℕ) → Tells a made → Tells a (on_last a f u call number made)
tells_last a made f u call number t = by (election_in_progress a.site a.life.inc u a.life.steps) refl
  where
    hears : (e : Election) → election_in_progress a.site a.life.inc u a.life.steps ≡ Some e → (o : Option Election) → hear e f call number ≡ o → Tells a (on_last a f u call number made)
    hears e is None heard = rw (is, heard) t
    hears e is (Some x) heard = rw (is, heard) (tells_join a made u x t)

    by : (o : Option Election) → election_in_progress a.site a.life.inc u a.life.steps ≡ o → Tells a (on_last a f u call number made)
    by None is = rw is t
    by (Some e) is = hears e is (hear e f call number) refl

-- a greater number of another site's election: the site joins it and reports, which nothing did before it in the step
pub tells_elected : (a : At) (f : ℕ) (u : Txn) (n : ℕ) → (f == a.site) ≡ false → Tells a (on_elected a f u n nothing)
tells_elected a f u n away = by (nat_lt (elected_now a u nothing) n) refl
  where
    report : Packet
    report = record { number = 0; «from» = a.site; to = f; msg = msg.Report u n (state_now a u nothing) (attempt_now a u nothing) }

    once : (t : Txn) (k : ℕ) → ReportsOnce t k (report ∷ []) (log.Join u n ∷ [])
    once t k = go (k == n && same_txn t u) refl
      where
        go : (b : Bool) → (k == n && same_txn t u) ≡ b → ReportsOnce t k (report ∷ []) (log.Join u n ∷ [])
        go false is = inl (let none : one_if (k == n && same_txn t u) ≡ 0 = ap (λ b. one_if b) is in omega (arith, none))
        go true is =
            let p = and_parts (k == n) (same_txn t u) is in
            let one : one_if (k == n && same_txn t u) ≡ 1 = ap (λ b. one_if b) is in
            inr (omega (arith, one), inl (ap (λ z. log.Join t z) (eqb-true k n p.0) ∙ ap (λ v. log.Join v n) (same_is t u p.1)))

    by : (b : Bool) → nat_lt (elected_now a u nothing) n ≡ b → Tells a (on_elected a f u n nothing)
    by true is = rw (is, away) (record { told = λ e k. absurd k; own = refl; once = once })
    by false is = rw is (tells_nothing a)

-- a report to the elector
pub tells_report : (h : Here) (n : ℕ) (r : SiteReport) → Stands h → has_site h.txn.sites h.at.site ≡ true → Came h.before.sent r.site h.at.site (Report n (status_in r.state) r.attempt)
    → Tells h.at (on_report h.at h.txn n r nothing)
tells_report h n r s member came = by (election_in_progress h.at.site h.at.life.inc h.txn h.at.life.steps) refl
  where
    concludes : (e : Election) → NumberedOk h n (Some e) → (b : Bool) → Tells h.at (if b then and_verdict h.at h.txn n e.group e.reports nothing else nothing)
    concludes e ok true =
        tells_verdict h.at nothing h.txn n e.group e.reports (tells_nothing h.at) (λ d final shut. verdict_stands h n e.group e.reports d s member (ok.0.reports n ok.1) final shut)
    concludes e ok false = tells_nothing h.at

    takes : (e : Election) → election_in_progress h.at.site h.at.life.inc h.txn h.at.life.steps ≡ Some e → (o : Option Election) → take_report e n r ≡ o → Tells h.at (on_report h.at h.txn n r nothing)
    takes e is None took = rw (is, took) (tells_nothing h.at)
    takes e is (Some x) took =
        let ok : ElectionOk h (Some e) = subst (λ o. ElectionOk h o) is (election_stands h s) in
        rw (is, took) (concludes x (subst (λ o. NumberedOk h n o) took (take_ok h e n r ok came)) (all_reported x))

    by : (o : Option Election) → election_in_progress h.at.site h.at.life.inc h.txn h.at.life.steps ≡ o → Tells h.at (on_report h.at h.txn n r nothing)
    by None is = rw is (tells_nothing h.at)
    by (Some e) is = takes e is (take_report e n r) refl
