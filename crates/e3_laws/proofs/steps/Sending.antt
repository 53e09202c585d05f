-- A step sends few packets: a rule sends to each of its sites three times at most, and one decision at most has requests done.
use Rattle.std.proofs.Common.{◌≡◌, ◌⊎◌, inl, inr, ◌==◌, ◌&&◌, ◌≤◌, ◌+◌, ◌*◌, ◌++◌, ◌∷◌, [], ℕ, zero, suc, Bool, true, false, not, List, Option, Some, None, refl, sym, subst, ap, ◌∙◌, arith, length, length-append, fold, drop, map, append_assoc, is_none, if◌then◌else◌, nat_lt, nat_le}
use Rattle.std.specs.List.{AllByRecursion as Each, list_any}
use Rattle.std.proofs.lemmas.Grind.{fold-append}
use Rattle.e3_types.specs.declared.entries.Input.{Input}
use Rattle.e3_types.specs.declared.entries.Input.TheVariants as input
use Rattle.e3_types.specs.declared.entries.Refusal.{Refusal}
use Rattle.e3_types.specs.declared.entries.Told.{Told}
use Rattle.e3_types.specs.declared.entries.Told.TheVariants as told
use Rattle.e3_types.specs.declared.locks.Grant.{Grant}
use Rattle.e3_types.specs.declared.locks.Grant.TheVariants.{Held, Waits, Dies}
use Rattle.e3_types.specs.declared.messages.Message.{Message}
use Rattle.e3_types.specs.declared.messages.Message.TheVariants as msg
use Rattle.e3_types.specs.declared.records.Record.{Record}
use Rattle.e3_types.specs.declared.records.Record.TheVariants as log
use Rattle.e3_types.specs.declared.transactions.Answer.{Answer}
use Rattle.e3_types.specs.declared.transactions.Call.{Call}
use Rattle.e3_types.specs.declared.transactions.Dir.{Dir}
use Rattle.e3_types.specs.declared.transactions.Dir.TheVariants.{Abort, Commit}
use Rattle.e3_types.specs.declared.transactions.Op.{Op}
use Rattle.e3_types.specs.declared.transactions.State.{State}
use Rattle.e3_types.specs.declared.transactions.State.TheVariants.{Q, W, Pc, Pa, C, A}
use Rattle.e3_types.specs.declared.transactions.Txn.{Txn}
use Rattle.e3_types.specs.declared.verdicts.SiteReport.{SiteReport}
use Rattle.e3_types.specs.declared.verdicts.Verdict.{Verdict}
use Rattle.e3_types.specs.declared.verdicts.Verdict.TheVariants as verdict
use Rattle.e3_types.specs.Quorums.{is_quorum}
use Rattle.e3_types.specs.Same.{same_call, same_dir, same_state}
use Rattle.e3_types.specs.Sets.{has_site, is_within, others}
use Rattle.e3_types.specs.Verdicts.{verdict_of}
use Rattle.e3_world.specs.declared.lives.Asked.{Asked}
use Rattle.e3_world.specs.declared.lives.At.{At}
use Rattle.e3_world.specs.declared.lives.Expected.{Expected}
use Rattle.e3_world.specs.declared.lives.Made.{Made}
use Rattle.e3_world.specs.AttemptRules.{on_ack, on_pre}
use Rattle.e3_world.specs.ElectionRules.{and_join, and_verdict, on_elected, on_last, on_report}
use Rattle.e3_world.specs.Elections.{all_heard, all_reported, election_in_progress, greatest_heard, hear, take_report, begun, next_call}
use Rattle.e3_world.specs.Gatherings.{Election, Round}
use Rattle.e3_world.specs.Logs.{decision, decision_by, is_undecided, key_of}
use Rattle.e3_world.specs.Making.{answer_now, attempt_now, decides, elected_now, go_on, grants_after, is_coordinator, is_present, log_now, may_abort, may_attempt, may_decide, nothing, open_now, state_now, steps_now, and_abort, and_abort_for, and_attempt, and_cast, and_decide, and_grant, and_grants, and_record, and_send, and_tell, and_vote}
use Rattle.e3_world.specs.Messages.{on_message}
use Rattle.e3_world.specs.OperationRules.{on_died, on_do, on_done}
use Rattle.e3_world.specs.Operations.{answers, done, expected, issued, nth_op, same_asked, unanswered, waiting}
use Rattle.e3_world.specs.Rounds.{count_ack, round_in_progress}
use Rattle.e3_world.specs.Steps.{and_ask, handled, on_commit, on_elect, on_expire, on_input, or_refused, refuse, settle, step_at}
use Rattle.e3_world.specs.VoteRules.{on_vote_req, on_yes, vote_rule}
use Rattle.e3_world.specs.Votes.{yes_votes}
use Rattle.e3_world.proofs.Turns.{self}
use Rattle.e3_laws.specs.steps.Sending.{HasFewSites, HasFewMembers, HasFewReceivers, SendsToFew, StepsSendFew, TakesFew}
use Rattle.e3_laws.proofs.steps.Deciding.{no_grants, present}
use Rattle.e3_laws.proofs.steps.Freed.{grants_few}
use Rattle.e3_laws.proofs.steps.Lists.{dropped}
use Rattle.e3_laws.proofs.steps.Tests.{same_self}
use Rattle.e3_laws.proofs.steps.Rules.{behind_join, by_grant, dies, grant_now}

-- ---- what sends to other sites alone

-- so many packets more at most, and no message more to the own site
record Out (k : ℕ) (was now : Made) : Type 0 where
  pub outs : length now.outs ≤ k + length was.outs
  pub own : now.own ≡ was.own

none : (made : Made) → Out 0 made made
none made = record { outs = omega arith; own = refl }

behind : (j k : ℕ) (x y z : Made) → Out j x y → Out k y z → Out (j + k) x z
behind j k x y z first second = record { outs = (let one = first.outs in let two = second.outs in omega (arith, one, two)); own = second.own ∙ first.own }

more : (j k : ℕ) (x y : Made) → j ≤ k → Out j x y → Out k x y
more j k x y le out = record { outs = (let one = out.outs in omega (arith, le, one)); own = out.own }

recorded : (r : Record) (made : Made) → Out 0 made (and_record r made)
recorded r made = record { outs = omega arith; own = refl }

said : (e : Told) (made : Made) → Out 0 made (and_tell e made)
said e made = record { outs = omega arith; own = refl }

sent : (a : At) (to : ℕ) (m : Message) (made : Made) → (to == a.site) ≡ false → Out 1 made (and_send a to m made)
sent a to m made apart = rw apart (record { outs = (let n = length-append made.outs (record { number = 0; «from» = a.site; to = to; msg = m } ∷ []) in omega (arith, n)); own = refl })

-- a message to each of the other sites of a set, which may depend on the site
all_sent : (a : At) (m : ℕ → Message) (sites : List ℕ) (made : Made) → Out (length sites) made (fold (λ so_far to. and_send a to (m to) so_far) made (others a.site sites))
all_sent a m [] made = none made
all_sent a m (s ∷ sites) made = by (λ now. all_sent a m sites now) (s == a.site) refl
  where
    by : ((now : Made) → Out (length sites) now (fold (λ so_far to. and_send a to (m to) so_far) now (others a.site sites))) →
        (b : Bool) → (s == a.site) ≡ b → Out (suc (length sites)) made (fold (λ so_far to. and_send a to (m to) so_far) made (others a.site (s ∷ sites)))
    by rest true is = rw is (more (length sites) (suc (length sites)) made _ (omega arith) (rest made))
    by rest false is = rw is (more (1 + length sites) (suc (length sites)) made _ (omega arith)
        (behind 1 (length sites) made (and_send a s (m s) made) _ (sent a s (m s) made is) (rest (and_send a s (m s) made))))

cast : (a : At) (sites : List ℕ) (m : Message) (made : Made) → HasFewSites sites → Out 64 made (and_cast a sites m made)
cast a sites m made few = more (length sites) 64 made _ few (all_sent a (λ to. m) sites made)

-- ---- the rules without a reply

decided : (a : At) (t : Txn) (dir : Dir) (made : Made) → Out 0 made (and_decide a t dir made)
decided a t dir made = by (is_coordinator a t && is_present a t) refl
  where
    by : (b : Bool) → (is_coordinator a t && is_present a t) ≡ b → Out 0 made (and_decide a t dir made)
    by true is = rw is (record { outs = omega arith; own = refl })
    by false is = rw is (record { outs = omega arith; own = refl })

may_be_decided : (a : At) (t : Txn) (dir : Dir) (made : Made) → Out 0 made (if may_decide a t dir made then and_decide a t dir made else made)
may_be_decided a t dir made = by (may_decide a t dir made)
  where
    by : (b : Bool) → Out 0 made (if b then and_decide a t dir made else made)
    by true = decided a t dir made
    by false = none made

aborted : (a : At) (t : Txn) (made : Made) → HasFewSites t.sites → Out 64 made (and_abort a t made)
aborted a t made few = behind 0 64 made (and_decide a t Abort made) _ (decided a t Abort made) (cast a t.sites (msg.Decide t Abort) (and_decide a t Abort made) few)

aborted_for : (a : At) (t : Txn) (why : Told) (made : Made) → HasFewSites t.sites → Out 64 made (and_abort_for a t why made)
aborted_for a t why made few =
    let now : Made = and_tell why (and_record (log.Decision t Abort) made) in
    behind 0 64 made now _ (record { outs = omega arith; own = refl }) (cast a t.sites (msg.Decide t Abort) now few)

may_be_aborted : (a : At) (t : Txn) (made : Made) → HasFewSites t.sites → Out 64 made (if may_abort a t made then and_abort a t made else made)
may_be_aborted a t made few = by (may_abort a t made)
  where
    by : (b : Bool) → Out 64 made (if b then and_abort a t made else made)
    by true = aborted a t made few
    by false = more 0 64 made made (omega arith) (none made)

attempted : (a : At) (t : Txn) (n : ℕ) (dir : Dir) (to : List ℕ) (made : Made) → HasFewSites to → Out 64 made (and_attempt a t n dir to made)
attempted a t n dir to made few = by (may_attempt a t n made) refl
  where
    now : Made
    now = and_record (log.Attempt t n dir) made

    alone : (b : Bool) → is_quorum a.weights (a.site ∷ []) t.sites ≡ b → Out 64 made (go_on a t n dir to now)
    alone true is = rw is (behind 0 64 made (and_decide a t dir now) _
        (behind 0 0 made now _ (recorded (log.Attempt t n dir) made) (decided a t dir now)) (cast a to (msg.Decide t dir) (and_decide a t dir now) few))
    alone false is = rw is (behind 0 64 made now _ (recorded (log.Attempt t n dir) made) (cast a to (msg.Pre t n dir) now few))

    by : (b : Bool) → may_attempt a t n made ≡ b → Out 64 made (and_attempt a t n dir to made)
    by true is = rw is (alone (is_quorum a.weights (a.site ∷ []) t.sites) refl)
    by false is = rw is (more 0 64 made made (omega arith) (none made))

concluded : (a : At) (t : Txn) (n : ℕ) (group : List ℕ) (reports : List SiteReport) (made : Made) → HasFewSites group → Out 64 made (and_verdict a t n group reports made)
concluded a t n group reports made few = by (verdict_of a.weights t.sites reports) refl
  where
    telling : Verdict → Made
    telling v = and_tell (told.Verdict t n v) made

    end : (v : Verdict) (dir : Dir) → Out 64 made (and_cast a group (msg.Decide t dir) (if may_decide a t dir (telling v) then and_decide a t dir (telling v) else telling v))
    end v dir = behind 0 64 made _ _ (behind 0 0 made (telling v) _ (said (told.Verdict t n v) made) (may_be_decided a t dir (telling v))) (cast a group (msg.Decide t dir) _ few)

    attempt : (v : Verdict) (dir : Dir) → Out 64 made (and_attempt a t n dir group (telling v))
    attempt v dir = behind 0 64 made (telling v) _ (said (told.Verdict t n v) made) (attempted a t n dir group (telling v) few)

    by : (v : Verdict) → verdict_of a.weights t.sites reports ≡ v → Out 64 made (and_verdict a t n group reports made)
    by verdict.Abort is = rw is (end verdict.Abort Abort)
    by verdict.Commit is = rw is (end verdict.Commit Commit)
    by verdict.PreCommit is = rw is (attempt verdict.PreCommit Commit)
    by verdict.PreAbort is = rw is (attempt verdict.PreAbort Abort)
    by (verdict.Block have total) is = rw is (more 0 64 made _ (omega arith) (said (told.Verdict t n (verdict.Block have total)) made))

joined : (a : At) (t : Txn) (e : Election) (made : Made) → HasFewSites e.group → Out 128 made (and_join a t e made)
joined a t e made few = by (all_heard e && nat_lt (greatest_heard e) 4294967295 && nat_le (elected_now a t made) (greatest_heard e)) refl
  where
    n : ℕ
    n = suc (greatest_heard e)

    report : SiteReport
    report = record { site = a.site; state = state_now a t made; attempt = attempt_now a t made }

    now : Made
    now = and_cast a e.group (msg.Elected t n) (and_record (log.Join t n) made)

    called : Out 64 made now
    called = behind 0 64 made (and_record (log.Join t n) made) _ (recorded (log.Join t n) made) (cast a e.group (msg.Elected t n) (and_record (log.Join t n) made) few)

    alone : (ss : List ℕ) → Out 128 made (behind_join a t n e report ss now)
    alone [] = behind 64 64 made now _ called (concluded a t n e.group (report ∷ []) now few)
    alone (s ∷ ss) = more 64 128 made now (omega arith) called

    by : (b : Bool) → (all_heard e && nat_lt (greatest_heard e) 4294967295 && nat_le (elected_now a t made) (greatest_heard e)) ≡ b → Out 128 made (and_join a t e made)
    by true is = rw is (alone (others a.site e.group))
    by false is = rw is (more 0 128 made made (omega arith) (none made))

-- whatever an election is, where there is one, its group is few
abbrev Few : Option Election → Type 0
Few None = Unit {0}
Few (Some e) = HasFewSites e.group

either : (b : Bool) (e : Election) → HasFewSites e.group → Few (if b then Some e else None)
either true e few = few
either false e few = tt

heard_few : (e : Election) (f : ℕ) (call : Call) (elected : ℕ) → HasFewSites e.group → Few (hear e f call elected)
heard_few e f call elected few = either (same_call e.call call && has_site e.group f && not (list_any (λ h. h.site == f) e.heard)) _ few

reported_few : (e : Election) (n : ℕ) (report : SiteReport) → HasFewSites e.group → Few (take_report e n report)
reported_few e n report few = by e.number refl
  where
    by : (o : Option ℕ) → e.number ≡ o → Few (take_report e n report)
    by None is = rw is tt
    by (Some k) is = rw is (either (n == k && has_site e.group report.site && not (list_any (λ r. r.site == report.site) e.reports)) _ few)

last : (a : At) (f : ℕ) (t : Txn) (call : Call) (elected : ℕ) (made : Made) → HasFewMembers a t → Out 128 made (on_last a f t call elected made)
last a f t call elected made few = by (election_in_progress a.site a.life.inc t a.life.steps) refl
  where
    heard : (e : Election) (o : Option Election) → election_in_progress a.site a.life.inc t a.life.steps ≡ Some e → hear e f call elected ≡ o → Few o → Out 128 made (on_last a f t call elected made)
    heard e None is took all = rw (is, took) (more 0 128 made made (omega arith) (none made))
    heard e (Some x) is took all = rw (is, took) (joined a t x made all)

    by : (o : Option Election) → election_in_progress a.site a.life.inc t a.life.steps ≡ o → Out 128 made (on_last a f t call elected made)
    by None is = rw is (more 0 128 made made (omega arith) (none made))
    by (Some e) is = heard e (hear e f call elected) is refl (heard_few e f call elected (few e is))

reported : (a : At) (t : Txn) (n : ℕ) (report : SiteReport) (made : Made) → HasFewMembers a t → Out 64 made (on_report a t n report made)
reported a t n report made few = by (election_in_progress a.site a.life.inc t a.life.steps) refl
  where
    whole : (x : Election) (b : Bool) → HasFewSites x.group → Out 64 made (if b then and_verdict a t n x.group x.reports made else made)
    whole x true all = concluded a t n x.group x.reports made all
    whole x false all = more 0 64 made made (omega arith) (none made)

    took : (e : Election) (o : Option Election) → election_in_progress a.site a.life.inc t a.life.steps ≡ Some e → take_report e n report ≡ o → Few o → Out 64 made (on_report a t n report made)
    took e None is taken all = rw (is, taken) (more 0 64 made made (omega arith) (none made))
    took e (Some x) is taken all = rw (is, taken) (whole x (all_reported x) all)

    by : (o : Option Election) → election_in_progress a.site a.life.inc t a.life.steps ≡ o → Out 64 made (on_report a t n report made)
    by None is = rw is (more 0 64 made made (omega arith) (none made))
    by (Some e) is = took e (take_report e n report) is refl (reported_few e n report (few e is))

acknowledged : (a : At) (f : ℕ) (t : Txn) (n : ℕ) (dir : Dir) (made : Made) → HasFewReceivers a t → Out 64 made (on_ack a f t n dir made)
acknowledged a f t n dir made few = by (round_in_progress a.site t a.life.steps) refl
  where
    counted_few : (r : Round) → HasFewSites r.to → HasFewSites (count_ack r f n dir).to
    counted_few r all = either (r.n == n && same_dir r.dir dir && has_site r.to f && not (has_site r.acked f))
      where
        either : (b : Bool) → HasFewSites (if b then record r { acked = r.acked ++ f ∷ [] } else r).to
        either true = all
        either false = all

    acked : (r : Round) (b : Bool) → HasFewSites r.to → Out 64 made (if b then and_cast a r.to (msg.Decide t dir) (and_decide a t dir made) else made)
    acked r true all = behind 0 64 made (and_decide a t dir made) _ (decided a t dir made) (cast a r.to (msg.Decide t dir) (and_decide a t dir made) all)
    acked r false all = more 0 64 made made (omega arith) (none made)

    by : (o : Option Round) → round_in_progress a.site t a.life.steps ≡ o → Out 64 made (on_ack a f t n dir made)
    by None is = rw is (more 0 64 made made (omega arith) (none made))
    by (Some r) is = rw is (acked (count_ack r f n dir) _ (counted_few r (few r is)))

agreed : (a : At) (t : Txn) (made : Made) → HasFewSites t.sites → Out 64 made (on_yes a t made)
agreed a t made few = by (is_coordinator a t && same_state (state_now a t made) W && elected_now a t made == 1) refl
  where
    all : (b : Bool) → Out 64 made (if b then and_attempt a t 1 Commit t.sites made else made)
    all true = attempted a t 1 Commit t.sites made few
    all false = more 0 64 made made (omega arith) (none made)

    counted : (o : Option (List ℕ)) → yes_votes t (steps_now a made) ≡ o →
        (is_coordinator a t && same_state (state_now a t made) W && elected_now a t made == 1) ≡ true → Out 64 made (on_yes a t made)
    counted None votes is = rw (is, votes) (more 0 64 made made (omega arith) (none made))
    counted (Some came) votes is = rw (is, votes) (all (is_within (others a.site t.sites) came))

    by : (b : Bool) → (is_coordinator a t && same_state (state_now a t made) W && elected_now a t made == 1) ≡ b → Out 64 made (on_yes a t made)
    by true is = counted (yes_votes t (steps_now a made)) refl is
    by false is = rw is (more 0 64 made made (omega arith) (none made))

died : (a : At) (t older : Txn) (made : Made) → HasFewSites t.sites → Out 64 made (on_died a t older made)
died a t older made few = by (may_abort a t made) (is_present a t) refl refl
  where
    by : (b c : Bool) → may_abort a t made ≡ b → is_present a t ≡ c → Out 64 made (on_died a t older made)
    by true true is here = rw (is, here) (aborted_for a t (told.Died t older) made few)
    by true false is here = rw (is, here) (aborted a t made few)
    by false c is here = rw is (more 0 64 made made (omega arith) (none made))

answered : (a : At) (f : ℕ) (t : Txn) (n inc : ℕ) (answer : Answer) (made : Made) → HasFewSites t.sites → Out 64 made (on_done a f t n inc answer made)
answered a f t n inc answer made few = by (is_coordinator a t && is_present a t && open_now a t made) refl
  where
    is_unanswered : Option ℕ → Bool
    is_unanswered (Some m) = n == m
    is_unanswered None = false

    is_from : Option Op → Bool
    is_from (Some op) = (key_of op).site == f
    is_from None = false

    doomed : (i : ℕ) (b : Bool) → Out 64 made (if b then and_abort_for a t (told.Doomed t f i inc) made else made)
    doomed i true = aborted_for a t (told.Doomed t f i inc) made few
    doomed i false = more 0 64 made made (omega arith) (none made)

    counts : (e : Expected) (b : Bool) →
        Out 64 made (if b then and_tell (told.Op t n answer) made else if may_abort a t made then and_abort_for a t (told.Doomed t f e.inc inc) made else made)
    counts e true = more 0 64 made _ (omega arith) (said (told.Op t n answer) made)
    counts e false = doomed e.inc (may_abort a t made)

    passes : (b : Bool) → (is_unanswered (unanswered t (log_now a made) (steps_now a made)) && is_from (nth_op n (issued t (steps_now a made)))) ≡ b →
        (is_coordinator a t && is_present a t && open_now a t made) ≡ true → Out 64 made (on_done a f t n inc answer made)
    passes true both is = rw (is, both) (counts (expected a.site a.life.inc t a.life.steps f) _)
    passes false both is = rw (is, both) (more 0 64 made made (omega arith) (none made))

    by : (b : Bool) → (is_coordinator a t && is_present a t && open_now a t made) ≡ b → Out 64 made (on_done a f t n inc answer made)
    by true is = passes (is_unanswered (unanswered t (log_now a made) (steps_now a made)) && is_from (nth_op n (issued t (steps_now a made)))) refl is
    by false is = rw is (more 0 64 made made (omega arith) (none made))

-- ---- what a rule leaves for the own site: one message, and then it decides nothing, or such as lead to nothing

abbrev quiet_in : At → List Record → Message → Type 0
quiet_in a records (msg.Done t n inc answer) = (inc == a.life.inc) ≡ true
quiet_in a records (msg.Vote t false) = is_undecided t (a.life.log ++ records) ≡ false
quiet_in a records x = ⊥

record Left (a : At) (k : ℕ) (was now : Made) : Type 0 where
  pub outs : length now.outs ≤ k + length was.outs
  pub undecided : list_any decides (drop (length was.records) now.records) ≡ false
  pub x : Message
  pub own : now.own ≡ x ∷ []
  pub few : SendsToFew a x

record Silent (a : At) (k : ℕ) (was now : Made) : Type 0 where
  pub outs : length now.outs ≤ k + length was.outs
  pub quiet : Each (quiet_in a now.records) now.own

abbrev Goes : At → ℕ → Made → Made → Type 0
Goes a k was now = Left a k was now ⊎ Silent a k was now

goes_out : (a : At) (k : ℕ) (was now : Made) → was.own ≡ [] → Out k was now → Goes a k was now
goes_out a k was now start out = inr (record { outs = out.outs; quiet = (let e : now.own ≡ [] = out.own ∙ start in subst (Each (quiet_in a now.records)) (sym e) tt) })

goes_more : (a : At) (j k : ℕ) (was now : Made) → j ≤ k → Goes a j was now → Goes a k was now
goes_more a j k was now le (inl w) = inl (record { outs = (let o = w.outs in omega (arith, le, o)); undecided = w.undecided; x = w.x; own = w.own; few = w.few })
goes_more a j k was now le (inr s) = inr (record { outs = (let o = s.outs in omega (arith, le, o)); quiet = s.quiet })

-- one message, to the own site or to another, behind records without a decision
replies : (a : At) (to : ℕ) (x : Message) (was now : Made) → was.own ≡ [] → Out 0 was now → list_any decides (drop (length was.records) now.records) ≡ false → SendsToFew a x →
    Goes a 128 was (and_send a to x now)
replies a to x was now start out undecided few = by (to == a.site) refl
  where
    by : (b : Bool) → (to == a.site) ≡ b → Goes a 128 was (and_send a to x now)
    by true is = rw is (inl (record {
      outs = (let o = out.outs in omega (arith, o));
      undecided = undecided;
      x = x;
      own = ap (λ (l : List Message). l ++ x ∷ []) (out.own ∙ start);
      few = few;
    }))
    by false is = goes_more a 1 128 was _ (omega arith) (goes_out a 1 was (and_send a to x now) start (behind 0 1 was now _ out (sent a to x now is)))

nothing_new : (records : List Record) → list_any decides (drop (length records) records) ≡ false
nothing_new records = rw (dropped records) refl

one_new : (records : List Record) (r : Record) → decides r ≡ false → list_any decides (drop (length records) (records ++ r ∷ [])) ≡ false
one_new [] r is = rw is refl
one_new (x ∷ records) r is = one_new records r is

-- ---- the rules with a reply

-- what is left is not decided behind the attempt, the join or the vote of a rule
requested : (a : At) (f : ℕ) (t : Txn) (n : ℕ) (op : Op) (made : Made) → made.own ≡ [] → HasFewSites t.sites → Goes a 128 made (on_do a f t n op made)
requested a f t n op made start few = by (state_now a t made) refl
  where
    stays : Goes a 128 made made
    stays = goes_out a 128 made made start (more 0 128 made made (omega arith) (none made))

    dying : (older : Txn) (b : Bool) → is_coordinator a t ≡ b → Goes a 128 made (dies a t n made older b)
    dying older true is = goes_out a 128 made _ start (more 64 128 made _ (omega arith) (aborted_for a t (told.Died t older) made few))
    dying older false is = goes_out a 128 made _ start (more 1 128 made _ (omega arith)
        (behind 0 1 made (and_decide a t Abort made) _ (decided a t Abort made) (sent a t.site (msg.Died t n older) (and_decide a t Abort made) is)))

    granted : (g : Grant) → Goes a 128 made (by_grant a t n op made g)
    granted Held = replies a t.site _ made made start (none made) (nothing_new made.records) few
    granted Waits = stays
    granted (Dies older) = dying older (is_coordinator a t) refl

    chosen : (b : Bool) → Goes a 128 made (if b then made else by_grant a t n op made (grant_now a t op made))
    chosen true = stays
    chosen false = granted (grant_now a t op made)

    asked : (l : List Answer) → state_now a t made ≡ Q → answers (record { txn = t; n = n; op = op }) a.life.steps ≡ l → Goes a 128 made (on_do a f t n op made)
    asked [] state is = rw (state, is) (chosen (list_any (same_asked (record { txn = t; n = n; op = op })) (waiting a.site (log_now a made) a.life.steps)))
    asked (answer ∷ rest) state is = rw (state, is) (replies a t.site (msg.Done t n a.life.inc answer) made made start (none made) (nothing_new made.records) few)

    by : (st : State) → state_now a t made ≡ st → Goes a 128 made (on_do a f t n op made)
    by A state = rw state (replies a f (msg.Vote t false) made made start (none made) (nothing_new made.records) few)
    by Q state = asked (answers (record { txn = t; n = n; op = op }) a.life.steps) state refl
    by W state = rw state stays
    by Pc state = rw state stays
    by Pa state = rw state stays
    by C state = rw state stays

numbered : (a : At) (f : ℕ) (t : Txn) (n : ℕ) (made : Made) → made.own ≡ [] → HasFewMembers a t → Goes a 128 made (on_elected a f t n made)
numbered a f t n made start few = by (nat_lt (elected_now a t made) n) refl
  where
    by : (b : Bool) → nat_lt (elected_now a t made) n ≡ b → Goes a 128 made (on_elected a f t n made)
    by true is = rw is (replies a f _ made (and_record (log.Join t n) made) start (recorded (log.Join t n) made) (one_new made.records (log.Join t n) refl) few)
    by false is = rw is (goes_out a 128 made made start (more 0 128 made made (omega arith) (none made)))

asked_to : (a : At) (f : ℕ) (t : Txn) (n : ℕ) (dir : Dir) (made : Made) → made.own ≡ [] → HasFewReceivers a t → Goes a 128 made (on_pre a f t n dir made)
asked_to a f t n dir made start few = by (open_now a t made && elected_now a t made == n) refl
  where
    said_so : (b : Bool) → Goes a 128 made (and_send a f (msg.Ack t n dir) (if b then made else and_record (log.Attempt t n dir) made))
    said_so true = replies a f (msg.Ack t n dir) made made start (none made) (nothing_new made.records) few
    said_so false = replies a f (msg.Ack t n dir) made (and_record (log.Attempt t n dir) made) start (recorded (log.Attempt t n dir) made)
        (one_new made.records (log.Attempt t n dir) refl) few

    by : (b : Bool) → (open_now a t made && elected_now a t made == n) ≡ b → Goes a 128 made (on_pre a f t n dir made)
    by true is = rw is (said_so (attempt_now a t made == n))
    by false is = rw is (goes_out a 128 made made start (more 0 128 made made (omega arith) (none made)))

records_decided : (a : At) (t : Txn) (dir : Dir) (made : Made) → (and_decide a t dir made).records ≡ made.records ++ log.Decision t dir ∷ []
records_decided a t dir made = by (is_coordinator a t && is_present a t) refl
  where
    by : (b : Bool) → (is_coordinator a t && is_present a t) ≡ b → (and_decide a t dir made).records ≡ made.records ++ log.Decision t dir ∷ []
    by true is = rw is refl
    by false is = rw is refl

decided_behind : (t : Txn) (dir : Dir) (xs : List Record) → is_undecided t (xs ++ log.Decision t dir ∷ []) ≡ false
decided_behind t dir xs =
    ap is_none (fold-append (decision_by t) None xs (log.Decision t dir ∷ []))
    ∙ ap (λ b. is_none (if b then Some dir else decision t xs)) (same_self t)

-- a no leads to nothing at the own site, where the transaction is decided
closed : (a : At) (t : Txn) (dir : Dir) (made : Made) → is_undecided t (a.life.log ++ (and_decide a t dir made).records) ≡ false
closed a t dir made =
    let rs : (and_decide a t dir made).records ≡ made.records ++ log.Decision t dir ∷ [] = records_decided a t dir made in
    ap (λ (l : List Record). is_undecided t (a.life.log ++ l)) rs
    ∙ ap (is_undecided t) (sym (append_assoc a.life.log made.records (log.Decision t dir ∷ [])))
    ∙ decided_behind t dir (a.life.log ++ made.records)

voted : (a : At) (f : ℕ) (t : Txn) (inc count : ℕ) (made : Made) → made.own ≡ [] → HasFewSites t.sites → Goes a 128 made (on_vote_req a f t inc count made)
voted a f t inc count made start few = by (state_now a t made) (elected_now a t made == 1) refl refl
  where
    stays : Goes a 128 made made
    stays = goes_out a 128 made made start (more 0 128 made made (omega arith) (none made))

    says : (agrees : Bool) → Goes a 128 made (and_send a f (msg.Vote t agrees) made)
    says agrees = replies a f (msg.Vote t agrees) made made start (none made) (nothing_new made.records) few

    vote : Record
    vote = log.Vote t (map (λ p. record { n = p.n; op = p.op }) (done a.site t a.life.steps))

    refused : (b : Bool) → (f == a.site) ≡ b → Goes a 128 made (and_send a f (msg.Vote t false) (and_decide a t Abort made))
    refused true is =
        let out = decided a t Abort made in
        rw is (inr (record {
          outs = (let o = out.outs in omega (arith, o));
          quiet = (let own : (and_decide a t Abort made).own ++ msg.Vote t false ∷ [] ≡ msg.Vote t false ∷ [] = ap (λ (l : List Message). l ++ msg.Vote t false ∷ []) (out.own ∙ start) in
              subst (Each (quiet_in a (and_decide a t Abort made).records)) (sym own) (closed a t Abort made, tt));
        }))
    refused false is = goes_out a 128 made _ start (more 1 128 made _ (omega arith)
        (behind 0 1 made (and_decide a t Abort made) _ (decided a t Abort made) (sent a f (msg.Vote t false) (and_decide a t Abort made) is)))

    ruled : (b : Bool) → vote_rule a t inc count made ≡ b → state_now a t made ≡ Q → (elected_now a t made == 1) ≡ true → Goes a 128 made (on_vote_req a f t inc count made)
    ruled true rule state first = rw (state, first, rule) (replies a f (msg.Vote t true) made (and_vote a t made) start (recorded vote made) (one_new made.records vote refl) few)
    ruled false rule state first = rw (state, first, rule) (refused (f == a.site) refl)

    by : (st : State) (b : Bool) → state_now a t made ≡ st → (elected_now a t made == 1) ≡ b → Goes a 128 made (on_vote_req a f t inc count made)
    by A b state first = rw state (says false)
    by W true state first = rw (state, first) (says true)
    by W false state first = rw (state, first) stays
    by Q true state first = ruled (vote_rule a t inc count made) refl state first
    by Q false state first = rw (state, first) stays
    by Pc b state first = rw state stays
    by Pa b state first = rw state stays
    by C b state first = rw state stays

message : (a : At) (f : ℕ) (x : Message) (made : Made) → made.own ≡ [] → SendsToFew a x → Goes a 128 made (on_message a f x made)
message a f (msg.Do t n op) made start few = requested a f t n op made start few
message a f (msg.Done t n inc answer) made start few = goes_out a 128 made _ start (more 64 128 made _ (omega arith) (answered a f t n inc answer made few))
message a f (msg.Died t n older) made start few = goes_out a 128 made _ start (more 64 128 made _ (omega arith) (died a t older made few))
message a f (msg.Ask t call) made start few = replies a f _ made made start (none made) (nothing_new made.records) few
message a f (msg.LastElected t call elected) made start few = goes_out a 128 made _ start (last a f t call elected made few)
message a f (msg.Elected t n) made start few = numbered a f t n made start few
message a f (msg.Report t n st attempt) made start few = goes_out a 128 made _ start (more 64 128 made _ (omega arith) (reported a t n _ made few))
message a f (msg.VoteReq t inc count) made start few = voted a f t inc count made start few
message a f (msg.Vote t true) made start few = goes_out a 128 made _ start (more 64 128 made _ (omega arith) (agreed a t made few))
message a f (msg.Vote t false) made start few = goes_out a 128 made _ start (more 64 128 made _ (omega arith) (may_be_aborted a t made few))
message a f (msg.Pre t n dir) made start few = asked_to a f t n dir made start few
message a f (msg.Ack t n dir) made start few = goes_out a 128 made _ start (more 64 128 made _ (omega arith) (acknowledged a f t n dir made few))
message a f (msg.Decide t dir) made start few = goes_out a 128 made _ start (more 0 128 made _ (omega arith) (may_be_decided a t dir made))

-- ---- each input

committed : (a : At) (t : Txn) (made : Made) → HasFewSites t.sites → Out 64 made (on_commit a t made)
committed a t made few = by (elected_now a t made == 1) refl
  where
    vote : Out 0 made (and_vote a t made)
    vote = record { outs = omega arith; own = refl }

    alone : (ss : List ℕ) → others a.site t.sites ≡ ss → (elected_now a t made == 1) ≡ true → Out 64 made (on_commit a t made)
    alone [] is first = rw (first, is) (behind 0 64 made (and_vote a t made) _ vote (attempted a t 1 Commit t.sites (and_vote a t made) few))
    alone (s ∷ ss) is first = rw (first, is) (subst (λ (l : List ℕ). Out 64 made (fold (and_ask a t) (and_vote a t made) l)) is
        (behind 0 64 made (and_vote a t made) _ vote (more (length t.sites) 64 (and_vote a t made) _ few
        (all_sent a (λ s. msg.VoteReq t (expected a.site a.life.inc t a.life.steps s).inc (expected a.site a.life.inc t a.life.steps s).count) t.sites (and_vote a t made)))))

    by : (b : Bool) → (elected_now a t made == 1) ≡ b → Out 64 made (on_commit a t made)
    by true is = alone (others a.site t.sites) refl is
    by false is = rw is (aborted a t made few)

expired : (a : At) (t : Txn) (made : Made) → HasFewSites t.sites → Out 64 made (on_expire a t made)
expired a t made few = by (may_abort a t made) (state_now a t made) refl refl
  where
    kept : (st : State) → Out 64 made (and_tell (told.Kept t st) made)
    kept st = more 0 64 made _ (omega arith) (said (told.Kept t st) made)

    by : (b : Bool) (st : State) → may_abort a t made ≡ b → state_now a t made ≡ st → Out 64 made (on_expire a t made)
    by true st is state = rw is (aborted a t made few)
    by false Q is state = rw (is, state) (more 0 64 made _ (omega arith) (decided a t Abort made))
    by false W is state = rw (is, state) (kept W)
    by false Pc is state = rw (is, state) (kept Pc)
    by false Pa is state = rw (is, state) (kept Pa)
    by false C is state = rw (is, state) (kept C)
    by false A is state = rw (is, state) (kept A)

called : (a : At) (t : Txn) (group : List ℕ) (made : Made) → HasFewSites group → Out 192 made (on_elect a t group made)
called a t group made few =
    let e : Election = begun a.site (next_call a.life.inc a.life.steps) group (elected_now a t made) in
    behind 64 128 made (and_cast a group (msg.Ask t e.call) made) _ (cast a group (msg.Ask t e.call) made few) (joined a t e (and_cast a group (msg.Ask t e.call) made) few)

-- a call that is not refused, by a step that made nothing yet
allowed : (a : At) (t : Txn) (made : Made) (o : Option Refusal) → Goes a 192 nothing made → Goes a 192 nothing (or_refused t o made)
allowed a t made None goes = goes
allowed a t made (Some why) goes = goes_out a 192 nothing _ refl (more 0 192 nothing _ (omega arith) (said (told.Refused t why) nothing))

taken : (a : At) (i : Input) → TakesFew a i → Goes a 192 nothing (on_input a i nothing)
taken a (input.Begin sites) few = goes_out a 192 nothing _ refl (record { outs = omega arith; own = refl })
taken a (input.Do t op) few = allowed a t _ (refuse a t false nothing) (goes_more a 128 192 nothing _ (omega arith) (replies a (key_of op).site _ nothing nothing refl (none nothing) refl few))
taken a (input.Commit t) few = allowed a t _ (refuse a t false nothing) (goes_out a 192 nothing _ refl (more 64 192 nothing _ (omega arith) (committed a t nothing few)))
taken a (input.Cancel t) few = allowed a t _ (refuse a t true nothing) (goes_out a 192 nothing _ refl (more 64 192 nothing _ (omega arith) (aborted a t nothing few)))
taken a (input.Expire t) few = goes_out a 192 nothing _ refl (more 64 192 nothing _ (omega arith) (expired a t nothing few))
taken a (input.Elect t group) few = goes_out a 192 nothing _ refl (called a t group nothing few)
taken a (input.Deliver packet) few = goes_more a 128 192 nothing _ (omega arith) (message a packet.«from» packet.msg nothing refl few)

-- ---- the requests that a decision has freed

one_each : {X : Type 0} (P : X → Type 0) (xs : List X) (x : X) → Each P xs → P x → Each P (xs ++ x ∷ [])
one_each P [] x all one = (one, tt)
one_each P (y ∷ xs) x all one = (all.0, one_each P xs x all.1 one)

record Given (a : At) (k : ℕ) (was now : Made) : Type 0 where
  pub records : now.records ≡ was.records
  pub outs : length now.outs ≤ k + length was.outs
  pub quiet : Each (quiet_in a was.records) now.own

given : (a : At) (qs : List Asked) (made : Made) → Each (quiet_in a made.records) made.own → Given a (length qs) made (fold (and_grant a) made qs)
given a [] made quiet = record { records = refl; outs = omega arith; quiet = quiet }
given a (q ∷ qs) made quiet = by (λ now. given a qs now) (q.txn.site == a.site) refl
  where
    m : Message
    m = msg.Done q.txn q.n a.life.inc (answer_now a q.txn q.op made)

    next : Made
    next = and_grant a made q

    goes_on : (records : next.records ≡ made.records) (outs : length next.outs ≤ 1 + length made.outs) (quiet : Each (quiet_in a made.records) next.own) →
        ((now : Made) → Each (quiet_in a now.records) now.own → Given a (length qs) now (fold (and_grant a) now qs)) → Given a (suc (length qs)) made (fold (and_grant a) next qs)
    goes_on records outs quiet rest =
        let g = rest next (subst (λ (l : List Record). Each (quiet_in a l) next.own) (sym records) quiet) in
        record {
          records = g.records ∙ records;
          outs = (let o = g.outs in omega (arith, outs, o));
          quiet = subst (λ (l : List Record). Each (quiet_in a l) (fold (and_grant a) next qs).own) records g.quiet;
        }

    by : ((now : Made) → Each (quiet_in a now.records) now.own → Given a (length qs) now (fold (and_grant a) now qs)) → (b : Bool) → (q.txn.site == a.site) ≡ b →
        Given a (suc (length qs)) made (fold (and_grant a) next qs)
    by rest true is = goes_on (rw is refl) (rw is (omega arith)) (rw is (one_each (quiet_in a made.records) made.own m quiet (self a.life.inc))) rest
    by rest false is = goes_on (rw is refl)
        (rw is (let n = length-append made.outs (record { number = 0; «from» = a.site; to = q.txn.site; msg = m } ∷ []) in omega (arith, n))) (rw is quiet) rest

freed : (a : At) (seen k : ℕ) (was now : Made) → Silent a k was now → Silent a (suc (length a.life.steps) + k) was (and_grants a seen now)
freed a seen k was now silent = by (list_any decides (drop seen now.records)) refl
  where
    by : (b : Bool) → list_any decides (drop seen now.records) ≡ b → Silent a (suc (length a.life.steps) + k) was (and_grants a seen now)
    by true is =
        let g = given a (grants_after a now) now silent.quiet in
        let count = grants_few a now in
        rw is (record {
          outs = (let o = silent.outs in let p = g.outs in omega (arith, count, o, p));
          quiet = subst (λ (l : List Record). Each (quiet_in a l) (fold (and_grant a) now (grants_after a now)).own) (sym g.records) g.quiet;
        })
    by false is = rw is (record { outs = (let o = silent.outs in omega (arith, o)); quiet = silent.quiet })

-- ---- what the own site makes of what is left

record Still (was now : Made) : Type 0 where
  pub records : now.records ≡ was.records
  pub outs : now.outs ≡ was.outs
  pub own : now.own ≡ was.own

no_abort : (a : At) (t : Txn) (made : Made) → open_now a t made ≡ false → may_abort a t made ≡ false
no_abort a t made is = by (is_coordinator a t) refl
  where
    by : (b : Bool) → is_coordinator a t ≡ b → may_abort a t made ≡ false
    by true known = rw (known, is) refl
    by false known = rw known refl

still_one : (a : At) (made : Made) (x : Message) → quiet_in a made.records x → Still made (handled a made x)
still_one a made (msg.Done t n inc answer) quiet = by (is_coordinator a t && is_present a t && open_now a t made) refl
  where
    told_it : Made
    told_it = and_tell (told.Op t n answer) made

    choice : (b : Bool) → Still made (and_grants a (length made.records) (if b then told_it else made))
    choice true = rw (no_grants a made told_it refl) (record { records = refl; outs = refl; own = refl })
    choice false = rw (no_grants a made made refl) (record { records = refl; outs = refl; own = refl })

    by : (b : Bool) → (is_coordinator a t && is_present a t && open_now a t made) ≡ b → Still made (handled a made (msg.Done t n inc answer))
    by true known = rw (known, present a t inc quiet) (choice _)
    by false known = rw known (rw (no_grants a made made refl) (record { records = refl; outs = refl; own = refl }))
still_one a made (msg.Vote t false) quiet = rw (no_abort a t made quiet) (rw (no_grants a made made refl) (record { records = refl; outs = refl; own = refl }))
still_one a made (msg.Vote t true) quiet = absurd quiet
still_one a made (msg.Do t n op) quiet = absurd quiet
still_one a made (msg.Died t n older) quiet = absurd quiet
still_one a made (msg.Ask t call) quiet = absurd quiet
still_one a made (msg.LastElected t call elected) quiet = absurd quiet
still_one a made (msg.Elected t n) quiet = absurd quiet
still_one a made (msg.Report t n st attempt) quiet = absurd quiet
still_one a made (msg.VoteReq t inc count) quiet = absurd quiet
still_one a made (msg.Pre t n dir) quiet = absurd quiet
still_one a made (msg.Ack t n dir) quiet = absurd quiet
still_one a made (msg.Decide t dir) quiet = absurd quiet

still_all : (a : At) (xs : List Message) (made : Made) → Each (quiet_in a made.records) xs → Still made (fold (handled a) made xs)
still_all a [] made quiet = record { records = refl; outs = refl; own = refl }
still_all a (x ∷ xs) made quiet =
    let one = still_one a made x quiet.0 in
    let rest = still_all a xs (handled a made x) (subst (λ (l : List Record). Each (quiet_in a l) xs) (sym one.records) quiet.1) in
    record { records = rest.records ∙ one.records; outs = rest.outs ∙ one.outs; own = rest.own ∙ one.own }

settled : (a : At) (k : ℕ) (made : Made) → Each (quiet_in a made.records) made.own → (settle k a made).outs ≡ made.outs
settled a zero made quiet = refl
settled a (suc k) made quiet =
    let now : Made = fold (handled a) (record made { own = [] }) made.own in
    let s : Still (record made { own = [] }) now = still_all a made.own (record made { own = [] }) quiet in
    settled a k now (subst (Each (quiet_in a now.records)) (sym s.own) tt) ∙ s.outs

left : (a : At) (k : ℕ) (made : Made) (x : Message) → made.own ≡ x ∷ [] → SendsToFew a x → length (settle k a made).outs ≤ k * 128 + (suc (length a.life.steps) + length made.outs)
left a zero made x own few = omega arith
left a (suc k) made x own few = rw own (by (message a a.site x start refl few) (λ now y is all. left a k now y is all))
  where
    start : Made
    start = record made { own = [] }

    next : Made
    next = on_message a a.site x start

    by : Goes a 128 start next →
        ((now : Made) (y : Message) → now.own ≡ y ∷ [] → SendsToFew a y → length (settle k a now).outs ≤ k * 128 + (suc (length a.life.steps) + length now.outs)) →
        length (settle k a (and_grants a (length made.records) next)).outs ≤ suc k * 128 + (suc (length a.life.steps) + length made.outs)
    by (inl w) rest = rw w.undecided (let o = w.outs in let r = rest next w.x w.own w.few in omega (arith, o, r))
    by (inr s) rest =
        let f = freed a (length made.records) 128 start next s in
        let same = ap length (settled a k (and_grants a (length made.records) next) f.quiet) in
        let o = f.outs in
        omega (arith, o, same)

pub send_few : StepsSendFew
send_few a few = by (taken a a.input few)
  where
    base : Made
    base = on_input a a.input nothing

    by : Goes a 192 nothing base → length (step_at a).outs ≤ suc (length a.life.steps) + 9 * 64
    by (inl w) = rw w.undecided (let o = w.outs in let r = left a 3 base w.x w.own w.few in omega (arith, o, r))
    by (inr s) =
        let f = freed a 0 192 nothing base s in
        let same = ap length (settled a 3 (and_grants a 0 base) f.quiet) in
        let o = f.outs in
        omega (arith, o, same)
