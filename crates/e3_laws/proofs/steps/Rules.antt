-- Each rule keeps a property that each record, event and message keeps: what a rule may add stands in a table, by the message.
use Rattle.std.proofs.Common.{◌≡◌, ◌==◌, ◌&&◌, ◌||◌, ◌∷◌, [], ℕ, zero, suc, Bool, true, false, List, Option, Some, None, refl, if◌then◌else◌, fold, length, nat_lt, nat_le}
use Rattle.std.specs.List.{AllByRecursion as Each, list_any}
use Rattle.std.proofs.lemmas.Bool.{and_parts}
use Rattle.e3_types.specs.declared.entries.Told.{Told}
use Rattle.e3_types.specs.declared.entries.Told.TheVariants as told
use Rattle.e3_types.specs.declared.locks.Grant.{Grant}
use Rattle.e3_types.specs.declared.locks.Grant.TheVariants.{Held, Waits, Dies}
use Rattle.e3_types.specs.declared.messages.Message.{Message}
use Rattle.e3_types.specs.declared.messages.Message.TheVariants as msg
use Rattle.e3_types.specs.declared.records.Record.{Record}
use Rattle.e3_types.specs.declared.records.Record.TheVariants as log
use Rattle.e3_types.specs.declared.transactions.Answer.{Answer}
use Rattle.e3_types.specs.declared.transactions.Call.{Call}
use Rattle.e3_types.specs.declared.transactions.Dir.{Dir}
use Rattle.e3_types.specs.declared.transactions.Dir.TheVariants.{Abort, Commit}
use Rattle.e3_types.specs.declared.transactions.Op.{Op}
use Rattle.e3_types.specs.declared.transactions.State.{State}
use Rattle.e3_types.specs.declared.transactions.State.TheVariants.{Q, W, Pc, Pa, C, A}
use Rattle.e3_types.specs.declared.transactions.Txn.{Txn}
use Rattle.e3_types.specs.declared.verdicts.SiteReport.{SiteReport}
use Rattle.e3_types.specs.declared.verdicts.Verdict.{Verdict}
use Rattle.e3_types.specs.declared.verdicts.Verdict.TheVariants as verdict
use Rattle.e3_types.specs.Locks.{lock_grant}
use Rattle.e3_types.specs.Quorums.{is_quorum}
use Rattle.e3_types.specs.Same.{same_dir, same_state}
use Rattle.e3_types.specs.Sets.{others}
use Rattle.e3_types.specs.Verdicts.{verdict_of}
use Rattle.e3_world.specs.Gatherings.{Election, Round}
use Rattle.e3_world.specs.declared.lives.At.{At}
use Rattle.e3_world.specs.declared.lives.Expected.{Expected}
use Rattle.e3_world.specs.declared.lives.Made.{Made}
use Rattle.e3_world.specs.AttemptRules.{on_ack, on_pre}
use Rattle.e3_world.specs.ElectionRules.{and_join, and_verdict, on_elected, on_last, on_report}
use Rattle.e3_world.specs.Elections.{all_heard, all_reported, election_in_progress, greatest_heard, hear, take_report}
use Rattle.e3_world.specs.Logs.{key_of, mode_of}
use Rattle.e3_world.specs.Making.{attempt_now, elected_now, is_coordinator, is_present, log_now, may_abort, may_decide, open_now, state_now, steps_now, and_record, and_tell, and_send, and_cast, and_decide, and_abort, and_abort_for, and_do, and_vote, grants_after}
use Rattle.e3_world.specs.Messages.{on_message}
use Rattle.e3_world.specs.OperationRules.{on_died, on_do, on_done}
use Rattle.e3_world.specs.Operations.{answers, expected, holders, issued, nth_op, queue, same_asked, unanswered, waiting}
use Rattle.e3_world.specs.Rounds.{count_ack, round_in_progress}
use Rattle.e3_world.specs.Sound.{txn_in}
use Rattle.e3_world.specs.Steps.{handled, settle}
use Rattle.e3_world.specs.VoteRules.{on_vote_req, on_yes, vote_rule}
use Rattle.e3_world.specs.Votes.{yes_votes}
use Rattle.e3_laws.proofs.steps.Adding.{Preserves, Casts, Allows, MayAnswer, idle_open, abort_open, may_open, keep_choice, keep_cast, keep_decide, keep_may, keep_abort, keep_abort_for, keep_attempt, keep_vote, keep_grants}

-- what a request for a lock comes to where it does not wait
abbrev pub dies : At → Txn → ℕ → Made → Txn → Bool → Made
dies a t n made older true = and_abort_for a t (told.Died t older) made
dies a t n made older false = and_send a t.site (msg.Died t n older) (and_decide a t Abort made)

abbrev pub by_grant : At → Txn → ℕ → Op → Made → Grant → Made
by_grant a t n op made Held = and_do a t n op made
by_grant a t n op made Waits = made
by_grant a t n op made (Dies older) = dies a t n made older (is_coordinator a t)

-- what the lock rule says of a request
abbrev pub grant_now : At → Txn → Op → Made → Grant
grant_now a t op made = lock_grant (record { txn = t; mode = mode_of op }) (holders a.site (key_of op).name (log_now a made) a.life.steps)
    (queue (key_of op).name (waiting a.site (log_now a made) a.life.steps))

-- a group of one site goes on with the verdict
abbrev pub behind_join : At → Txn → ℕ → Election → SiteReport → List ℕ → Made → Made
behind_join a t n e report [] more = and_verdict a t n e.group (report ∷ []) more
behind_join a t n e report (s ∷ ss) more = more

-- what a request for a lock may add
pub record AsksLock (a : At) (T : Told → Type 0) (S : ℕ → Message → Type 0) (P : Made → Type 0) (f : ℕ) (t : Txn) (n : ℕ) (op : Op) : Type 0 where
  pub done : MayAnswer a S P (record { txn = t; n = n; op = op })
  pub again : (answer : Answer) (more : List Answer) → answers (record { txn = t; n = n; op = op }) a.life.steps ≡ answer ∷ more → S t.site (msg.Done t n a.life.inc answer)
  pub no : S f (msg.Vote t false)
  pub told : (older : Txn) (made : Made) → P made → grant_now a t op made ≡ Dies older → T (told.Died t older)
  pub died : (older : Txn) (made : Made) → P made → grant_now a t op made ≡ Dies older → is_coordinator a t ≡ false → S t.site (msg.Died t n older)
  pub abort : Casts a S (msg.Decide t Abort) t.sites

-- the answer that is told is one to an operation that was issued, on a key of the site that it comes from
pub record IsHeard (a : At) (f : ℕ) (t : Txn) (n : ℕ) (made : Made) : Type 0 where
  pub op : Op
  pub nth : nth_op n (issued t (steps_now a made)) ≡ Some op
  pub there : ((key_of op).site == f) ≡ true

-- decisions and attempts of a transaction may go to these sites
pub record Concludes (a : At) (S : ℕ → Message → Type 0) (t : Txn) (sites : List ℕ) : Type 0 where
  pub decide : (dir : Dir) → Casts a S (msg.Decide t dir) sites
  pub pre : (n : ℕ) (dir : Dir) → Casts a S (msg.Pre t n dir) sites

-- what an election that is heard may add
pub record Joins (a : At) (R : Record → Type 0) (S : ℕ → Message → Type 0) (t : Txn) (e : Election) : Type 0 where
  pub join : all_heard e ≡ true → R (log.Join t (suc (greatest_heard e)))
  pub elected : all_heard e ≡ true → Casts a S (msg.Elected t (suc (greatest_heard e))) e.group
  pub concludes : Concludes a S t e.group

-- what a message from site f may add, beside what rules record of its transaction
abbrev pub Hears : At → (Record → Type 0) → (Told → Type 0) → (ℕ → Message → Type 0) → (Made → Type 0) → ℕ → Message → Type 0
Hears a R T S P f (msg.Do t n op) = AsksLock a T S P f t n op
Hears a R T S P f (msg.Done t n inc answer) = ((made : Made) → P made → IsHeard a f t n made → T (told.Op t n answer)) × Casts a S (msg.Decide t Abort) t.sites
Hears a R T S P f (msg.Died t n older) = T (told.Died t older) × Casts a S (msg.Decide t Abort) t.sites
Hears a R T S P f (msg.Ask t call) = (n : ℕ) → S f (msg.LastElected t call n)
Hears a R T S P f (msg.LastElected t call n) = (e more : Election) → election_in_progress a.site a.life.inc t a.life.steps ≡ Some e → hear e f call n ≡ Some more → Joins a R S t more
Hears a R T S P f (msg.Elected t n) = R (log.Join t n) × ((st : State) (attempt : ℕ) → S f (msg.Report t n st attempt))
Hears a R T S P f (msg.Report t n st attempt) = (e more : Election) → election_in_progress a.site a.life.inc t a.life.steps ≡ Some e →
    take_report e n (record { site = f; state = st; attempt = attempt }) ≡ Some more → Concludes a S t more.group
Hears a R T S P f (msg.VoteReq t inc count) = (said : Bool) → S f (msg.Vote t said)
Hears a R T S P f (msg.Vote t true) = Concludes a S t t.sites
Hears a R T S P f (msg.Vote t false) = Casts a S (msg.Decide t Abort) t.sites
Hears a R T S P f (msg.Pre t n dir) = S f (msg.Ack t n dir)
Hears a R T S P f (msg.Ack t n dir) = (r : Round) → round_in_progress a.site t a.life.steps ≡ Some r → Casts a S (msg.Decide t dir) (count_ack r f n dir).to
Hears a R T S P f (msg.Decide t dir) = Unit {0}

module _ {a : At} {R : Record → Type 0} {T : Told → Type 0} {S : ℕ → Message → Type 0} {P : Made → Type 0} (k : Preserves a R T S P) where
  keep_dies : (t : Txn) (n : ℕ) (made : Made) (older : Txn) → Allows a R T t → T (told.Died t older) → (is_coordinator a t ≡ false → S t.site (msg.Died t n older)) →
      Casts a S (msg.Decide t Abort) t.sites → open_now a t made ≡ true → P made → (b : Bool) → is_coordinator a t ≡ b → P (dies a t n made older b)
  keep_dies t n made older al why news may free p true is = keep_abort_for k t (told.Died t older) made al may why free p
  keep_dies t n made older al why news may free p false is = k.sends t.site (msg.Died t n older) (and_decide a t Abort made) (news is) (keep_decide k t Abort made al free p)

  keep_grant : (f : ℕ) (t : Txn) (n : ℕ) (op : Op) (made : Made) → Allows a R T t → AsksLock a T S P f t n op → open_now a t made ≡ true → P made →
      (g : Grant) → grant_now a t op made ≡ g → P (by_grant a t n op made g)
  keep_grant f t n op made al may free p Held is = k.sends t.site _ made (may.done made p) p
  keep_grant f t n op made al may free p Waits is = p
  keep_grant f t n op made al may free p (Dies older) is =
      keep_dies t n made older al (may.told older made p is) (may.died older made p is) may.abort free p (is_coordinator a t) refl

  -- a request for a lock sends its answer, a no, or the news that it died
  keep_on_do : (f : ℕ) (t : Txn) (n : ℕ) (op : Op) (made : Made) → Allows a R T t → AsksLock a T S P f t n op → P made → P (on_do a f t n op made)
  keep_on_do f t n op made al may p = by (state_now a t made) refl
    where
      answered : (l : List Answer) → state_now a t made ≡ Q → answers (record { txn = t; n = n; op = op }) a.life.steps ≡ l → P (on_do a f t n op made)
      answered [] state is = rw (state, is) (keep_choice k
          (list_any (same_asked (record { txn = t; n = n; op = op })) (waiting a.site (log_now a made) a.life.steps)) made _ p
          (keep_grant f t n op made al may (idle_open t (log_now a made) state) p (grant_now a t op made) refl))
      answered (answer ∷ more) state is = rw (state, is) (k.sends t.site (msg.Done t n a.life.inc answer) made (may.again answer more is) p)

      by : (st : State) → state_now a t made ≡ st → P (on_do a f t n op made)
      by A state = rw state (k.sends f (msg.Vote t false) made may.no p)
      by Q state = answered (answers (record { txn = t; n = n; op = op }) a.life.steps) state refl
      by W state = rw state p
      by Pc state = rw state p
      by Pa state = rw state p
      by C state = rw state p

  -- an answer is told where it comes from the site of its operation's key, or it dooms its transaction
  keep_on_done : (f : ℕ) (t : Txn) (n inc : ℕ) (answer : Answer) (made : Made) → Allows a R T t → (IsHeard a f t n made → T (told.Op t n answer)) →
      Casts a S (msg.Decide t Abort) t.sites → P made → P (on_done a f t n inc answer made)
  keep_on_done f t n inc answer made al tell may p = by (is_coordinator a t && is_present a t && open_now a t made) refl
    where
      is_from : Option Op → Bool
      is_from (Some op) = (key_of op).site == f
      is_from None = false

      is_unanswered : Option ℕ → Bool
      is_unanswered (Some m) = n == m
      is_unanswered None = false

      heard : (o : Option Op) → nth_op n (issued t (steps_now a made)) ≡ o → is_from o ≡ true → IsHeard a f t n made
      heard None is same = absurd cc
      heard (Some op) is same = record { op = op; nth = is; there = same }

      doomed : (i : ℕ) (b : Bool) → may_abort a t made ≡ b → P (if b then and_abort_for a t (told.Doomed t f i inc) made else made)
      doomed i true is = keep_abort_for k t (told.Doomed t f i inc) made al may (al.doomed f i inc) (abort_open a t made is) p
      doomed i false is = p

      counts : IsHeard a f t n made → (e : Expected) →
          P (if e.count == 0 || e.inc == inc then and_tell (told.Op t n answer) made else if may_abort a t made then and_abort_for a t (told.Doomed t f e.inc inc) made else made)
      counts from e = keep_choice k (e.count == 0 || e.inc == inc) _ _ (k.tells (told.Op t n answer) made (tell from) p) (doomed e.inc (may_abort a t made) refl)

      passes : (b : Bool) → (is_unanswered (unanswered t (log_now a made) (steps_now a made)) && is_from (nth_op n (issued t (steps_now a made)))) ≡ b →
          (is_coordinator a t && is_present a t && open_now a t made) ≡ true → P (on_done a f t n inc answer made)
      passes true both is = rw (is, both) (counts (heard (nth_op n (issued t (steps_now a made))) refl (and_parts _ _ both).1) (expected a.site a.life.inc t a.life.steps f))
      passes false both is = rw (is, both) p

      by : (b : Bool) → (is_coordinator a t && is_present a t && open_now a t made) ≡ b → P (on_done a f t n inc answer made)
      by true is = passes (is_unanswered (unanswered t (log_now a made) (steps_now a made)) && is_from (nth_op n (issued t (steps_now a made)))) refl is
      by false is = rw is p

  -- the news that a request died sends an abort at most
  keep_on_died : (t older : Txn) (made : Made) → Allows a R T t → T (told.Died t older) → Casts a S (msg.Decide t Abort) t.sites → P made → P (on_died a t older made)
  keep_on_died t older made al why may p = by (may_abort a t made) (is_present a t) refl refl
    where
      by : (b c : Bool) → may_abort a t made ≡ b → is_present a t ≡ c → P (on_died a t older made)
      by true true is here = rw (is, here) (keep_abort_for k t (told.Died t older) made al may why (abort_open a t made is) p)
      by true false is here = rw (is, here) (keep_abort k t made al may (abort_open a t made is) p)
      by false c is here = rw is p

  -- a request for a vote sends the vote
  keep_on_vote_req : (f : ℕ) (t : Txn) (inc count : ℕ) (made : Made) → Allows a R T t → ((said : Bool) → S f (msg.Vote t said)) → P made → P (on_vote_req a f t inc count made)
  keep_on_vote_req f t inc count made al may p = by (state_now a t made) (elected_now a t made == 1) refl refl
    where
      sent : (said : Bool) (more : Made) → P more → P (and_send a f (msg.Vote t said) more)
      sent said more kept = k.sends f (msg.Vote t said) more (may said) kept

      ruled : (b : Bool) → vote_rule a t inc count made ≡ b → state_now a t made ≡ Q → (elected_now a t made == 1) ≡ true → P (on_vote_req a f t inc count made)
      ruled true rule state first = rw (state, first, rule) (sent true (and_vote a t made) (keep_vote k t made al (idle_open t (log_now a made) state) p))
      ruled false rule state first = rw (state, first, rule) (sent false (and_decide a t Abort made) (keep_decide k t Abort made al (idle_open t (log_now a made) state) p))

      by : (st : State) (b : Bool) → state_now a t made ≡ st → (elected_now a t made == 1) ≡ b → P (on_vote_req a f t inc count made)
      by A b state first = rw state (sent false made p)
      by W true state first = rw (state, first) (sent true made p)
      by W false state first = rw (state, first) p
      by Q true state first = ruled (vote_rule a t inc count made) refl state first
      by Q false state first = rw (state, first) p
      by Pc b state first = rw state p
      by Pa b state first = rw state p
      by C b state first = rw state p

  -- a yes sends the attempt or the decision to commit
  keep_on_yes : (t : Txn) (made : Made) → Allows a R T t → Concludes a S t t.sites → P made → P (on_yes a t made)
  keep_on_yes t made al may p = by (is_coordinator a t && same_state (state_now a t made) W && elected_now a t made == 1) refl
    where
      counted : (o : Option (List ℕ)) → yes_votes t (steps_now a made) ≡ o →
          (is_coordinator a t && same_state (state_now a t made) W && elected_now a t made == 1) ≡ true → P (on_yes a t made)
      counted None votes is = rw (is, votes) p
      counted (Some came) votes is = rw (is, votes) (keep_choice k _ _ made (keep_attempt k t 1 Commit t.sites made al (may.decide Commit) (may.pre 1 Commit) p) p)

      by : (b : Bool) → (is_coordinator a t && same_state (state_now a t made) W && elected_now a t made == 1) ≡ b → P (on_yes a t made)
      by true is = counted (yes_votes t (steps_now a made)) refl is
      by false is = rw is p

  keep_verdict : (t : Txn) (n : ℕ) (group : List ℕ) (reports : List SiteReport) (made : Made) → Allows a R T t → Concludes a S t group → P made →
      P (and_verdict a t n group reports made)
  keep_verdict t n group reports made al may p = by (verdict_of a.weights t.sites reports) refl
    where
      said : (v : Verdict) → P (and_tell (told.Verdict t n v) made)
      said v = k.tells (told.Verdict t n v) made (al.verdict n v) p

      decided : (dir : Dir) (more : Made) → P more → P (and_cast a group (msg.Decide t dir) (if may_decide a t dir more then and_decide a t dir more else more))
      decided dir more kept = keep_cast k group (msg.Decide t dir) _ (may.decide dir) (keep_may k t dir more al kept)

      by : (v : Verdict) → verdict_of a.weights t.sites reports ≡ v → P (and_verdict a t n group reports made)
      by verdict.Abort is = rw is (decided Abort _ (said verdict.Abort))
      by verdict.Commit is = rw is (decided Commit _ (said verdict.Commit))
      by verdict.PreCommit is = rw is (keep_attempt k t n Commit group _ al (may.decide Commit) (may.pre n Commit) (said verdict.PreCommit))
      by verdict.PreAbort is = rw is (keep_attempt k t n Abort group _ al (may.decide Abort) (may.pre n Abort) (said verdict.PreAbort))
      by (verdict.Block have total) is = rw is (said (verdict.Block have total))

  keep_behind : (t : Txn) (n : ℕ) (e : Election) (report : SiteReport) (ss : List ℕ) (more : Made) → Allows a R T t → Concludes a S t e.group → P more →
      P (behind_join a t n e report ss more)
  keep_behind t n e report [] more al may p = keep_verdict t n e.group (report ∷ []) more al may p
  keep_behind t n e report (s ∷ ss) more al may p = p

  -- an election that is heard sends its number, and where the group is one site what its verdict sends
  pub keep_join : (t : Txn) (e : Election) (made : Made) → Allows a R T t → Joins a R S t e → P made → P (and_join a t e made)
  keep_join t e made al may p = by (all_heard e && nat_lt (greatest_heard e) 4294967295 && nat_le (elected_now a t made) (greatest_heard e)) refl
    where
      joined : all_heard e ≡ true → P (and_cast a e.group (msg.Elected t (suc (greatest_heard e))) (and_record (log.Join t (suc (greatest_heard e))) made))
      joined all = keep_cast k e.group _ _ (may.elected all) (k.records (log.Join t (suc (greatest_heard e))) made (may.join all) p)

      by : (b : Bool) → (all_heard e && nat_lt (greatest_heard e) 4294967295 && nat_le (elected_now a t made) (greatest_heard e)) ≡ b → P (and_join a t e made)
      by true is = rw is (keep_behind t (suc (greatest_heard e)) e
          (record { site = a.site; state = state_now a t made; attempt = attempt_now a t made }) (others a.site e.group) _ al may.concludes
          (joined (and_parts _ _ (and_parts _ _ is).0).0))
      by false is = rw is p

  -- an answer to a call
  keep_on_last : (f : ℕ) (t : Txn) (call : Call) (n : ℕ) (made : Made) → Allows a R T t → Hears a R T S P f (msg.LastElected t call n) → P made → P (on_last a f t call n made)
  keep_on_last f t call n made al may p = by (election_in_progress a.site a.life.inc t a.life.steps) refl
    where
      heard : (e : Election) (o : Option Election) → election_in_progress a.site a.life.inc t a.life.steps ≡ Some e → hear e f call n ≡ o → P (on_last a f t call n made)
      heard e None is took = rw (is, took) p
      heard e (Some more) is took = rw (is, took) (keep_join t more made al (may e more is took) p)

      by : (o : Option Election) → election_in_progress a.site a.life.inc t a.life.steps ≡ o → P (on_last a f t call n made)
      by None is = rw is p
      by (Some e) is = heard e (hear e f call n) is refl

  -- a number of an election
  keep_on_elected : (f : ℕ) (t : Txn) (n : ℕ) (made : Made) → R (log.Join t n) → ((st : State) (attempt : ℕ) → S f (msg.Report t n st attempt)) → P made →
      P (on_elected a f t n made)
  keep_on_elected f t n made join may p = by (nat_lt (elected_now a t made) n) refl
    where
      by : (b : Bool) → nat_lt (elected_now a t made) n ≡ b → P (on_elected a f t n made)
      by true is = rw is (k.sends f _ _ (may (state_now a t made) (attempt_now a t made)) (k.records (log.Join t n) made join p))
      by false is = rw is p

  -- a report
  keep_on_report : (t : Txn) (n : ℕ) (report : SiteReport) (made : Made) → Allows a R T t →
      ((e more : Election) → election_in_progress a.site a.life.inc t a.life.steps ≡ Some e → take_report e n report ≡ Some more → Concludes a S t more.group) → P made →
      P (on_report a t n report made)
  keep_on_report t n report made al may p = by (election_in_progress a.site a.life.inc t a.life.steps) refl
    where
      reported : (e : Election) (o : Option Election) → election_in_progress a.site a.life.inc t a.life.steps ≡ Some e → take_report e n report ≡ o → P (on_report a t n report made)
      reported e None is took = rw (is, took) p
      reported e (Some more) is took = rw (is, took) (keep_choice k (all_reported more) _ made (keep_verdict t n more.group more.reports made al (may e more is took) p) p)

      by : (o : Option Election) → election_in_progress a.site a.life.inc t a.life.steps ≡ o → P (on_report a t n report made)
      by None is = rw is p
      by (Some e) is = reported e (take_report e n report) is refl

  -- an attempt that is asked of the site
  keep_on_pre : (f : ℕ) (t : Txn) (n : ℕ) (dir : Dir) (made : Made) → Allows a R T t → S f (msg.Ack t n dir) → P made → P (on_pre a f t n dir made)
  keep_on_pre f t n dir made al may p = by (open_now a t made && elected_now a t made == n) refl
    where
      by : (b : Bool) → (open_now a t made && elected_now a t made == n) ≡ b → P (on_pre a f t n dir made)
      by true is = rw is (k.sends f (msg.Ack t n dir) _ may
          (keep_choice k (attempt_now a t made == n) made _ p (k.records (log.Attempt t n dir) made (al.attempt n dir made (and_parts _ _ is).0) p)))
      by false is = rw is p

  -- an acknowledgement
  keep_on_ack : (f : ℕ) (t : Txn) (n : ℕ) (dir : Dir) (made : Made) → Allows a R T t → Hears a R T S P f (msg.Ack t n dir) → P made → P (on_ack a f t n dir made)
  keep_on_ack f t n dir made al may p = by (round_in_progress a.site t a.life.steps) refl
    where
      acked : (r : Round) → Casts a S (msg.Decide t dir) r.to → (b : Bool) →
          (r.n == n && same_dir r.dir dir && may_decide a t dir made && is_quorum a.weights (a.site ∷ r.acked) t.sites) ≡ b →
          P (if b then and_cast a r.to (msg.Decide t dir) (and_decide a t dir made) else made)
      acked r to true is = keep_cast k r.to (msg.Decide t dir) _ to (keep_decide k t dir made al (may_open a t dir made (and_parts _ _ (and_parts _ _ is).0).1) p)
      acked r to false is = p

      by : (o : Option Round) → round_in_progress a.site t a.life.steps ≡ o → P (on_ack a f t n dir made)
      by None is = rw is p
      by (Some r) is = rw is (acked (count_ack r f n dir) (may r is) _ refl)

  -- each message
  pub keep_message : (f : ℕ) (x : Message) (made : Made) → Allows a R T (txn_in x) → Hears a R T S P f x → P made → P (on_message a f x made)
  keep_message f (msg.Do t n op) made al may p = keep_on_do f t n op made al may p
  keep_message f (msg.Done t n inc answer) made al may p = keep_on_done f t n inc answer made al (may.0 made p) may.1 p
  keep_message f (msg.Died t n older) made al may p = keep_on_died t older made al may.0 may.1 p
  keep_message f (msg.Ask t call) made al may p = k.sends f (msg.LastElected t call (elected_now a t made)) made (may (elected_now a t made)) p
  keep_message f (msg.LastElected t call n) made al may p = keep_on_last f t call n made al may p
  keep_message f (msg.Elected t n) made al may p = keep_on_elected f t n made may.0 may.1 p
  keep_message f (msg.Report t n st attempt) made al may p = keep_on_report t n (record { site = f; state = st; attempt = attempt }) made al may p
  keep_message f (msg.VoteReq t inc count) made al may p = keep_on_vote_req f t inc count made al may p
  keep_message f (msg.Vote t true) made al may p = keep_on_yes t made al may p
  keep_message f (msg.Vote t false) made al may p = by (may_abort a t made) refl
    where
      by : (b : Bool) → may_abort a t made ≡ b → P (if b then and_abort a t made else made)
      by true is = keep_abort k t made al may (abort_open a t made is) p
      by false is = p
  keep_message f (msg.Pre t n dir) made al may p = keep_on_pre f t n dir made al may p
  keep_message f (msg.Ack t n dir) made al may p = keep_on_ack f t n dir made al may p
  keep_message f (msg.Decide t dir) made al may p = keep_may k t dir made al p

-- what a step makes of its messages to its own site: what is known of each, and of the requests that decisions free
pub record Settles (a : At) (R : Record → Type 0) (T : Told → Type 0) (S : ℕ → Message → Type 0) (P : Made → Type 0) : Type 0 where
  pub own : (made : Made) → P made → Each (λ x. Allows a R T (txn_in x) × Hears a R T S P a.site x) made.own
  pub emptied : (made : Made) → P made → P (record made { own = [] })
  pub freed : (made : Made) → P made → Each (MayAnswer a S P) (grants_after a made)

module _ {a : At} {R : Record → Type 0} {T : Told → Type 0} {S : ℕ → Message → Type 0} {P : Made → Type 0} (k : Preserves a R T S P) (s : Settles a R T S P) where
  keep_own : (xs : List Message) (made : Made) → Each (λ x. Allows a R T (txn_in x) × Hears a R T S P a.site x) xs → P made → P (fold (handled a) made xs)
  keep_own [] made may p = p
  keep_own (x ∷ xs) made may p = keep_own xs (handled a made x) may.1
      (keep_grants k (length made.records) (on_message a a.site x made) (s.freed (on_message a a.site x made)) (keep_message k a.site x made may.0.0 may.0.1 p))

  -- the messages of a step to its own site
  pub keep_settled : (n : ℕ) (made : Made) → P made → P (settle n a made)
  keep_settled zero made p = p
  keep_settled (suc n) made p = keep_settled n (fold (handled a) (record made { own = [] }) made.own) (keep_own made.own (record made { own = [] }) (s.own made p) (s.emptied made p))
