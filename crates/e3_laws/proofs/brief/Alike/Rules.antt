-- Each rule makes the same of a step at two places that are alike.
use Rattle.std.proofs.Common.{◌≡◌, ◌==◌, ◌&&◌, ◌||◌, ◌∷◌, [], ℕ, suc, Bool, true, false, List, Option, Some, None, refl, sym, ap, subst, ◌∙◌, if◌then◌else◌, fold, drop, length, map, nat_le, nat_lt, not}
use Rattle.std.specs.List.{list_any}
use Rattle.e3_types.specs.declared.entries.Told.TheVariants as told
use Rattle.e3_types.specs.declared.locks.Grant.{Grant}
use Rattle.e3_types.specs.declared.locks.Grant.TheVariants.{Held, Waits, Dies}
use Rattle.e3_types.specs.declared.messages.Message.{Message}
use Rattle.e3_types.specs.declared.messages.Message.TheVariants as msg
use Rattle.e3_types.specs.declared.records.Record.TheVariants as log
use Rattle.e3_types.specs.declared.transactions.Answer.{Answer}
use Rattle.e3_types.specs.declared.transactions.Call.{Call}
use Rattle.e3_types.specs.declared.transactions.Dir.{Dir}
use Rattle.e3_types.specs.declared.transactions.Dir.TheVariants.{Abort, Commit}
use Rattle.e3_types.specs.declared.transactions.Op.{Op}
use Rattle.e3_types.specs.declared.transactions.State.{State}
use Rattle.e3_types.specs.declared.transactions.State.TheVariants.{Q, W, Pc, Pa, C, A}
use Rattle.e3_types.specs.declared.transactions.Txn.{Txn}
use Rattle.e3_types.specs.declared.verdicts.SiteReport.{SiteReport}
use Rattle.e3_types.specs.declared.verdicts.Verdict.{Verdict}
use Rattle.e3_types.specs.declared.verdicts.Verdict.TheVariants as verdict
use Rattle.e3_types.specs.Quorums.{is_quorum}
use Rattle.e3_types.specs.Same.{same_dir, same_state, same_txn}
use Rattle.e3_types.specs.Sets.{is_within, others}
use Rattle.e3_types.specs.Verdicts.{verdict_of}
use Rattle.e3_world.specs.Gatherings.{Election, Round}
use Rattle.e3_world.specs.declared.lives.Asked.{Asked}
use Rattle.e3_world.specs.declared.lives.At.{At}
use Rattle.e3_world.specs.declared.lives.Made.{Made}
use Rattle.e3_world.specs.declared.lives.Performed.{Performed}
use Rattle.e3_world.specs.AttemptRules.{on_ack, on_pre}
use Rattle.e3_world.specs.ElectionRules.{and_join, and_verdict, on_elected, on_last, on_report}
use Rattle.e3_world.specs.Elections.{all_heard, all_reported, election_in_progress, greatest_heard, hear, take_report}
use Rattle.e3_world.specs.Logs.{key_of, mode_of}
use Rattle.e3_world.specs.Making.{and_abort, and_abort_for, and_attempt, and_cast, and_decide, and_do, and_grant, and_grants, and_record, and_send, and_tell, and_vote, attempt_now, decides, elected_now, go_on, grants_after, is_coordinator, log_now, may_abort, may_attempt, may_decide, open_now, state_now, steps_now}
use Rattle.e3_world.specs.Messages.{on_message}
use Rattle.e3_world.specs.OperationRules.{on_died, on_do, on_done}
use Rattle.e3_world.specs.Operations.{answers, expected, issued, nth_op, same_asked, unanswered, waiting}
use Rattle.e3_world.specs.Rounds.{count_ack, round_in_progress}
use Rattle.e3_world.specs.VoteRules.{on_vote_req, on_yes, vote_rule}
use Rattle.e3_world.specs.Votes.{yes_votes}
use Rattle.e3_laws.proofs.steps.Rules.{behind_join, by_grant, dies, grant_now}
use Rattle.e3_laws.proofs.brief.Alike.Elections.{election_twins, round_twins}
use Rattle.e3_laws.proofs.brief.Alike.Pairs.{Pair, SameTable, answer_same, attempt_same, elected_same, grant_same, grants_same, issued_now, may_abort_same, may_attempt_same, may_decide_same, one, open_same, other, state_same, unanswered_now, waits_same, yes_now}
use Rattle.e3_laws.proofs.brief.Alike.Twins.{answers_twins, done_twins, expected_twins, left, right}

-- a decision, and the news of it
pub decide_same : (p : Pair) (t : Txn) (dir : Dir) (made : Made) → and_decide (one p) t dir made ≡ and_decide (other p) t dir made
decide_same p t dir made = by (t.site == p.site && t.inc == p.inc) refl
  where
    by : (b : Bool) → (t.site == p.site && t.inc == p.inc) ≡ b → and_decide (one p) t dir made ≡ and_decide (other p) t dir made
    by true is = rw is refl
    by false is = rw is refl

pub abort_same : (p : Pair) (t : Txn) (made : Made) → and_abort (one p) t made ≡ and_abort (other p) t made
abort_same p t made = ap (λ (m : Made). and_cast (one p) t.sites (msg.Decide t Abort) m) (decide_same p t Abort made)

-- a decision where the site may decide
may_same : (p : Pair) (t : Txn) (dir : Dir) (made : Made)
    → (if may_decide (one p) t dir made then and_decide (one p) t dir made else made) ≡ (if may_decide (other p) t dir made then and_decide (other p) t dir made else made)
may_same p t dir made = λ i. if may_decide_same p t dir made i then decide_same p t dir made i else made

go_on_same : (p : Pair) (t : Txn) (n : ℕ) (dir : Dir) (to : List ℕ) (made : Made) → go_on (one p) t n dir to made ≡ go_on (other p) t n dir to made
go_on_same p t n dir to made = by (is_quorum p.weights (p.site ∷ []) t.sites) refl
  where
    by : (b : Bool) → is_quorum p.weights (p.site ∷ []) t.sites ≡ b → go_on (one p) t n dir to made ≡ go_on (other p) t n dir to made
    by true is = rw is (ap (λ (m : Made). and_cast (one p) to (msg.Decide t dir) m) (decide_same p t dir made))
    by false is = rw is refl

pub attempted_same : (p : Pair) (t : Txn) (n : ℕ) (dir : Dir) (to : List ℕ) (made : Made) → and_attempt (one p) t n dir to made ≡ and_attempt (other p) t n dir to made
attempted_same p t n dir to made = by (may_attempt (one p) t n made) refl (sym (may_attempt_same p t n made))
  where
    by : (b : Bool) → may_attempt (one p) t n made ≡ b → may_attempt (other p) t n made ≡ may_attempt (one p) t n made
        → and_attempt (one p) t n dir to made ≡ and_attempt (other p) t n dir to made
    by true is back = let there : may_attempt (other p) t n made ≡ true = back ∙ is in rw (is, there) (go_on_same p t n dir to (and_record (log.Attempt t n dir) made))
    by false is back = let there : may_attempt (other p) t n made ≡ false = back ∙ is in rw (is, there) refl

pub vote_same : (p : Pair) (t : Txn) (made : Made) → and_vote (one p) t made ≡ and_vote (other p) t made
vote_same p t made =
    ap (λ (ps : List Performed). and_record (log.Vote t (map (λ (q : Performed). record { n = q.n; op = q.op }) ps)) made) (done_twins p.site t p.steps)

-- the answer to an operation that is done now
do_same : (p : Pair) (t : Txn) (n : ℕ) (op : Op) (made : Made) → SameTable p made.records → and_do (one p) t n op made ≡ and_do (other p) t n op made
do_same p t n op made table = ap (λ (a : Answer). and_send (one p) t.site (msg.Done t n p.inc a) made) (answer_same p t op made table)

-- a message leaves the records
sent_records : (a : At) (to : ℕ) (m : Message) (made : Made) → (and_send a to m made).records ≡ made.records
sent_records a to m made = by (to == a.site) refl
  where
    by : (b : Bool) → (to == a.site) ≡ b → (and_send a to m made).records ≡ made.records
    by true is = rw is refl
    by false is = rw is refl

granted_all : (p : Pair) (qs : List Asked) (made : Made) → SameTable p made.records → fold (and_grant (one p)) made qs ≡ fold (and_grant (other p)) made qs
granted_all p [] made table = refl
granted_all p (q ∷ qs) made table =
    ap (λ (m : Made). fold (and_grant (one p)) m qs) (do_same p q.txn q.n q.op made table)
    ∙ granted_all p qs (and_grant (other p) made q) (subst (SameTable p) (sym (sent_records (other p) q.txn.site _ made)) table)

-- the requests that a decision has freed
pub freed_same : (p : Pair) (seen : ℕ) (made : Made) → SameTable p made.records → and_grants (one p) seen made ≡ and_grants (other p) seen made
freed_same p seen made table = by (list_any decides (drop seen made.records)) refl
  where
    by : (b : Bool) → list_any decides (drop seen made.records) ≡ b → and_grants (one p) seen made ≡ and_grants (other p) seen made
    by true is = rw is (granted_all p (grants_after (one p) made) made table ∙ ap (λ (qs : List Asked). fold (and_grant (other p)) made qs) (grants_same p made))
    by false is = rw is refl

-- a request for a lock
dies_same : (p : Pair) (t : Txn) (n : ℕ) (made : Made) (older : Txn) (b : Bool) → dies (one p) t n made older b ≡ dies (other p) t n made older b
dies_same p t n made older true = refl
dies_same p t n made older false = ap (λ (m : Made). and_send (one p) t.site (msg.Died t n older) m) (decide_same p t Abort made)

by_grant_same : (p : Pair) (t : Txn) (n : ℕ) (op : Op) (made : Made) → SameTable p made.records → (g : Grant) → by_grant (one p) t n op made g ≡ by_grant (other p) t n op made g
by_grant_same p t n op made table Held = do_same p t n op made table
by_grant_same p t n op made table Waits = refl
by_grant_same p t n op made table (Dies older) = dies_same p t n made older (t.site == p.site)

choice : (b c : Bool) → b ≡ c → (m x y : Made) → x ≡ y → (if b then m else x) ≡ (if c then m else y)
choice b c e m x y same = λ i. if e i then m else same i

on_do_same : (p : Pair) (f : ℕ) (t : Txn) (n : ℕ) (op : Op) (made : Made) → SameTable p made.records → on_do (one p) f t n op made ≡ on_do (other p) f t n op made
on_do_same p f t n op made table = by (state_now (one p) t made) refl (sym (state_same p t made))
  where
    q : Asked
    q = record { txn = t; n = n; op = op }

    asks : (if list_any (same_asked q) (waiting p.site (log_now (one p) made) (left p.steps)) then made else by_grant (one p) t n op made (grant_now (one p) t op made))
        ≡ (if list_any (same_asked q) (waiting p.site (log_now (other p) made) (right p.steps)) then made else by_grant (other p) t n op made (grant_now (other p) t op made))
    asks = choice _ _ (ap (λ (l : List Asked). list_any (same_asked q) l) (waits_same p made)) made _ _
        (ap (λ (g : Grant). by_grant (one p) t n op made g) (grant_same p made (key_of op).name (record { txn = t; mode = mode_of op }))
        ∙ by_grant_same p t n op made table (grant_now (other p) t op made))

    answered : (l : List Answer) → state_now (one p) t made ≡ Q → state_now (other p) t made ≡ Q → answers q (left p.steps) ≡ l → answers q (right p.steps) ≡ l
        → on_do (one p) f t n op made ≡ on_do (other p) f t n op made
    answered [] here there is also = rw (here, there, is, also) asks
    answered (answer ∷ more) here there is also = rw (here, there, is, also) refl

    by : (st : State) → state_now (one p) t made ≡ st → state_now (other p) t made ≡ state_now (one p) t made → on_do (one p) f t n op made ≡ on_do (other p) f t n op made
    by A here back = let there : state_now (other p) t made ≡ A = back ∙ here in rw (here, there) refl
    by Q here back = answered (answers q (left p.steps)) here (back ∙ here) refl (sym (answers_twins q p.steps))
    by W here back = let there : state_now (other p) t made ≡ W = back ∙ here in rw (here, there) refl
    by Pc here back = let there : state_now (other p) t made ≡ Pc = back ∙ here in rw (here, there) refl
    by Pa here back = let there : state_now (other p) t made ≡ Pa = back ∙ here in rw (here, there) refl
    by C here back = let there : state_now (other p) t made ≡ C = back ∙ here in rw (here, there) refl

-- an answer to an operation
abbrev is_number : ℕ → Option ℕ → Bool
is_number n (Some m) = n == m
is_number n None = false

abbrev is_from : ℕ → Option Op → Bool
is_from f (Some op) = (key_of op).site == f
is_from f None = false

abbrev is_awaited : At → ℕ → Txn → ℕ → Made → Bool
is_awaited a f t n made = is_number n (unanswered t (log_now a made) (steps_now a made)) && is_from f (nth_op n (issued t (steps_now a made)))

awaited_same : (p : Pair) (f : ℕ) (t : Txn) (n : ℕ) (made : Made) → is_awaited (one p) f t n made ≡ is_awaited (other p) f t n made
awaited_same p f t n made = λ i. is_number n (unanswered_now p t made i) && is_from f (nth_op n (issued_now p t made i))

on_done_same : (p : Pair) (f : ℕ) (t : Txn) (n inc : ℕ) (answer : Answer) (made : Made) → on_done (one p) f t n inc answer made ≡ on_done (other p) f t n inc answer made
on_done_same p f t n inc answer made = by (t.site == p.site && t.inc == p.inc && open_now (one p) t made) refl
  where
    known : (t.site == p.site && t.inc == p.inc && open_now (one p) t made) ≡ (t.site == p.site && t.inc == p.inc && open_now (other p) t made)
    known = λ i. t.site == p.site && t.inc == p.inc && open_same p t made i

    counts : (if (expected p.site p.inc t (left p.steps) f).count == 0 || (expected p.site p.inc t (left p.steps) f).inc == inc then and_tell (told.Op t n answer) made
        else if may_abort (one p) t made then and_abort_for (one p) t (told.Doomed t f (expected p.site p.inc t (left p.steps) f).inc inc) made else made)
        ≡ (if (expected p.site p.inc t (right p.steps) f).count == 0 || (expected p.site p.inc t (right p.steps) f).inc == inc then and_tell (told.Op t n answer) made
        else if may_abort (other p) t made then and_abort_for (other p) t (told.Doomed t f (expected p.site p.inc t (right p.steps) f).inc inc) made else made)
    counts = λ i. if (expected_twins p.site p.inc t f p.steps i).count == 0 || (expected_twins p.site p.inc t f p.steps i).inc == inc then and_tell (told.Op t n answer) made
        else if may_abort_same p t made i then and_abort_for (one p) t (told.Doomed t f (expected_twins p.site p.inc t f p.steps i).inc inc) made else made

    passes : (b : Bool) → (t.site == p.site && t.inc == p.inc && open_now (one p) t made) ≡ true → (t.site == p.site && t.inc == p.inc && open_now (other p) t made) ≡ true
        → is_awaited (one p) f t n made ≡ b → is_awaited (other p) f t n made ≡ b → on_done (one p) f t n inc answer made ≡ on_done (other p) f t n inc answer made
    passes true here there is also = rw (here, there, is, also) counts
    passes false here there is also = rw (here, there, is, also) refl

    by : (b : Bool) → (t.site == p.site && t.inc == p.inc && open_now (one p) t made) ≡ b → on_done (one p) f t n inc answer made ≡ on_done (other p) f t n inc answer made
    by true here = passes (is_awaited (one p) f t n made) here (sym known ∙ here) refl (sym (awaited_same p f t n made))
    by false here = let there : (t.site == p.site && t.inc == p.inc && open_now (other p) t made) ≡ false = sym known ∙ here in rw (here, there) refl

-- the news that a request died
on_died_same : (p : Pair) (t older : Txn) (made : Made) → on_died (one p) t older made ≡ on_died (other p) t older made
on_died_same p t older made = by (may_abort (one p) t made) refl (sym (may_abort_same p t made)) (t.inc == p.inc) refl
  where
    by : (b : Bool) → may_abort (one p) t made ≡ b → may_abort (other p) t made ≡ may_abort (one p) t made → (c : Bool) → (t.inc == p.inc) ≡ c
        → on_died (one p) t older made ≡ on_died (other p) t older made
    by true is back true here = let there : may_abort (other p) t made ≡ true = back ∙ is in rw (is, there, here) refl
    by true is back false here = let there : may_abort (other p) t made ≡ true = back ∙ is in rw (is, there, here) (abort_same p t made)
    by false is back c here = let there : may_abort (other p) t made ≡ false = back ∙ is in rw (is, there) refl

-- a request for a vote
rule_same : (p : Pair) (t : Txn) (inc count : ℕ) (made : Made) → vote_rule (one p) t inc count made ≡ vote_rule (other p) t inc count made
rule_same p t inc count made = λ i.
    count == length (done_twins p.site t p.steps i) && (count == 0 || inc == p.inc) && not (list_any (λ (q : Asked). same_txn t q.txn) (waits_same p made i))

on_vote_req_same : (p : Pair) (f : ℕ) (t : Txn) (inc count : ℕ) (made : Made) → on_vote_req (one p) f t inc count made ≡ on_vote_req (other p) f t inc count made
on_vote_req_same p f t inc count made = by (state_now (one p) t made) (elected_now (one p) t made == 1) refl (sym (state_same p t made)) refl
    (ap (λ (n : ℕ). n == 1) (sym (elected_same p t made)))
  where
    ruled : (b : Bool) → vote_rule (one p) t inc count made ≡ b → vote_rule (other p) t inc count made ≡ b → state_now (one p) t made ≡ Q → state_now (other p) t made ≡ Q
        → (elected_now (one p) t made == 1) ≡ true → (elected_now (other p) t made == 1) ≡ true → on_vote_req (one p) f t inc count made ≡ on_vote_req (other p) f t inc count made
    ruled true rule also here there first second = rw (here, there, first, second, rule, also) (ap (λ (m : Made). and_send (one p) f (msg.Vote t true) m) (vote_same p t made))
    ruled false rule also here there first second = rw (here, there, first, second, rule, also) (ap (λ (m : Made). and_send (one p) f (msg.Vote t false) m) (decide_same p t Abort made))

    by : (st : State) (b : Bool) → state_now (one p) t made ≡ st → state_now (other p) t made ≡ state_now (one p) t made
        → (elected_now (one p) t made == 1) ≡ b → (elected_now (other p) t made == 1) ≡ (elected_now (one p) t made == 1)
        → on_vote_req (one p) f t inc count made ≡ on_vote_req (other p) f t inc count made
    by A b here back first more = let there : state_now (other p) t made ≡ A = back ∙ here in rw (here, there) refl
    by W true here back first more =
        let there : state_now (other p) t made ≡ W = back ∙ here in let second : (elected_now (other p) t made == 1) ≡ true = more ∙ first in rw (here, there, first, second) refl
    by W false here back first more =
        let there : state_now (other p) t made ≡ W = back ∙ here in let second : (elected_now (other p) t made == 1) ≡ false = more ∙ first in rw (here, there, first, second) refl
    by Q true here back first more = ruled (vote_rule (one p) t inc count made) refl (sym (rule_same p t inc count made)) here (back ∙ here) first (more ∙ first)
    by Q false here back first more =
        let there : state_now (other p) t made ≡ Q = back ∙ here in let second : (elected_now (other p) t made == 1) ≡ false = more ∙ first in rw (here, there, first, second) refl
    by Pc b here back first more = let there : state_now (other p) t made ≡ Pc = back ∙ here in rw (here, there) refl
    by Pa b here back first more = let there : state_now (other p) t made ≡ Pa = back ∙ here in rw (here, there) refl
    by C b here back first more = let there : state_now (other p) t made ≡ C = back ∙ here in rw (here, there) refl

-- a yes
abbrev is_voter : At → Txn → Made → Bool
is_voter a t made = is_coordinator a t && same_state (state_now a t made) W && elected_now a t made == 1

voter_same : (p : Pair) (t : Txn) (made : Made) → is_voter (one p) t made ≡ is_voter (other p) t made
voter_same p t made = λ i. t.site == p.site && same_state (state_same p t made i) W && elected_same p t made i == 1

on_yes_same : (p : Pair) (t : Txn) (made : Made) → on_yes (one p) t made ≡ on_yes (other p) t made
on_yes_same p t made = by (is_voter (one p) t made) refl (sym (voter_same p t made))
  where
    counted : (o : Option (List ℕ)) → is_voter (one p) t made ≡ true → is_voter (other p) t made ≡ true
        → yes_votes t (steps_now (one p) made) ≡ o → yes_votes t (steps_now (other p) made) ≡ o → on_yes (one p) t made ≡ on_yes (other p) t made
    counted None here there is also = rw (here, there, is, also) refl
    counted (Some came) here there is also = rw (here, there, is, also)
        (λ i. if is_within (others p.site t.sites) came then attempted_same p t 1 Commit t.sites made i else made)

    by : (b : Bool) → is_voter (one p) t made ≡ b → is_voter (other p) t made ≡ is_voter (one p) t made → on_yes (one p) t made ≡ on_yes (other p) t made
    by true here back = counted (yes_votes t (steps_now (one p) made)) here (back ∙ here) refl (sym (yes_now p t made))
    by false here back = let there : is_voter (other p) t made ≡ false = back ∙ here in rw (here, there) refl

-- a verdict
verdict_same : (p : Pair) (t : Txn) (n : ℕ) (group : List ℕ) (reports : List SiteReport) (made : Made) → and_verdict (one p) t n group reports made ≡ and_verdict (other p) t n group reports made
verdict_same p t n group reports made = by (verdict_of p.weights t.sites reports) refl
  where
    decided : (dir : Dir) (more : Made)
        → and_cast (one p) group (msg.Decide t dir) (if may_decide (one p) t dir more then and_decide (one p) t dir more else more)
        ≡ and_cast (other p) group (msg.Decide t dir) (if may_decide (other p) t dir more then and_decide (other p) t dir more else more)
    decided dir more = ap (λ (m : Made). and_cast (one p) group (msg.Decide t dir) m) (may_same p t dir more)

    by : (v : Verdict) → verdict_of p.weights t.sites reports ≡ v → and_verdict (one p) t n group reports made ≡ and_verdict (other p) t n group reports made
    by verdict.Abort is = rw is (decided Abort (and_tell (told.Verdict t n verdict.Abort) made))
    by verdict.Commit is = rw is (decided Commit (and_tell (told.Verdict t n verdict.Commit) made))
    by verdict.PreCommit is = rw is (attempted_same p t n Commit group (and_tell (told.Verdict t n verdict.PreCommit) made))
    by verdict.PreAbort is = rw is (attempted_same p t n Abort group (and_tell (told.Verdict t n verdict.PreAbort) made))
    by (verdict.Block have total) is = rw is refl

-- an election that is heard
abbrev report_now : At → Txn → Made → SiteReport
report_now a t made = record { site = a.site; state = state_now a t made; attempt = attempt_now a t made }

report_same : (p : Pair) (t : Txn) (made : Made) → report_now (one p) t made ≡ report_now (other p) t made
report_same p t made = λ i. record { site = p.site; state = state_same p t made i; attempt = attempt_same p t made i }

behind_same : (p : Pair) (t : Txn) (n : ℕ) (e : Election) (ra rb : SiteReport) → ra ≡ rb → (ss : List ℕ) (more : Made) → behind_join (one p) t n e ra ss more ≡ behind_join (other p) t n e rb ss more
behind_same p t n e ra rb same [] more =
    ap (λ (r : SiteReport). and_verdict (one p) t n e.group (r ∷ []) more) same ∙ verdict_same p t n e.group (rb ∷ []) more
behind_same p t n e ra rb same (s ∷ ss) more = refl

abbrev joins : At → Txn → Election → Made → Bool
joins a t e made = all_heard e && nat_lt (greatest_heard e) 4294967295 && nat_le (elected_now a t made) (greatest_heard e)

pub join_same : (p : Pair) (t : Txn) (e : Election) (made : Made) → and_join (one p) t e made ≡ and_join (other p) t e made
join_same p t e made = by (joins (one p) t e made) refl
    (λ i. all_heard e && nat_lt (greatest_heard e) 4294967295 && nat_le (sym (elected_same p t made) i) (greatest_heard e))
  where
    n : ℕ
    n = suc (greatest_heard e)

    by : (b : Bool) → joins (one p) t e made ≡ b → joins (other p) t e made ≡ joins (one p) t e made → and_join (one p) t e made ≡ and_join (other p) t e made
    by true here back =
        let there : joins (other p) t e made ≡ true = back ∙ here in
        rw (here, there) (behind_same p t n e (report_now (one p) t made) (report_now (other p) t made) (report_same p t made) (others p.site e.group)
        (and_cast (one p) e.group (msg.Elected t n) (and_record (log.Join t n) made)))
    by false here back = let there : joins (other p) t e made ≡ false = back ∙ here in rw (here, there) refl

on_last_same : (p : Pair) (f : ℕ) (t : Txn) (call : Call) (n : ℕ) (made : Made) → on_last (one p) f t call n made ≡ on_last (other p) f t call n made
on_last_same p f t call n made = by (election_in_progress p.site p.inc t (left p.steps)) refl (sym (election_twins p.site p.inc t p.steps))
  where
    heard : (e : Election) (o : Option Election) → election_in_progress p.site p.inc t (left p.steps) ≡ Some e → election_in_progress p.site p.inc t (right p.steps) ≡ Some e
        → hear e f call n ≡ o → on_last (one p) f t call n made ≡ on_last (other p) f t call n made
    heard e None here there is = rw (here, there, is) refl
    heard e (Some more) here there is = rw (here, there, is) (join_same p t more made)

    by : (o : Option Election) → election_in_progress p.site p.inc t (left p.steps) ≡ o
        → election_in_progress p.site p.inc t (right p.steps) ≡ election_in_progress p.site p.inc t (left p.steps) → on_last (one p) f t call n made ≡ on_last (other p) f t call n made
    by None here back = let there : election_in_progress p.site p.inc t (right p.steps) ≡ None = back ∙ here in rw (here, there) refl
    by (Some e) here back = heard e (hear e f call n) here (back ∙ here) refl

-- a number of an election
on_elected_same : (p : Pair) (f : ℕ) (t : Txn) (n : ℕ) (made : Made) → on_elected (one p) f t n made ≡ on_elected (other p) f t n made
on_elected_same p f t n made = by (nat_lt (elected_now (one p) t made) n) refl (ap (λ (k : ℕ). nat_lt k n) (sym (elected_same p t made)))
  where
    by : (b : Bool) → nat_lt (elected_now (one p) t made) n ≡ b → nat_lt (elected_now (other p) t made) n ≡ nat_lt (elected_now (one p) t made) n
        → on_elected (one p) f t n made ≡ on_elected (other p) f t n made
    by true here back =
        let there : nat_lt (elected_now (other p) t made) n ≡ true = back ∙ here in
        rw (here, there) (λ i. and_send (one p) f (msg.Report t n (state_same p t made i) (attempt_same p t made i)) (and_record (log.Join t n) made))
    by false here back = let there : nat_lt (elected_now (other p) t made) n ≡ false = back ∙ here in rw (here, there) refl

-- a report
on_report_same : (p : Pair) (t : Txn) (n : ℕ) (report : SiteReport) (made : Made) → on_report (one p) t n report made ≡ on_report (other p) t n report made
on_report_same p t n report made = by (election_in_progress p.site p.inc t (left p.steps)) refl (sym (election_twins p.site p.inc t p.steps))
  where
    reported : (e : Election) (o : Option Election) → election_in_progress p.site p.inc t (left p.steps) ≡ Some e → election_in_progress p.site p.inc t (right p.steps) ≡ Some e
        → take_report e n report ≡ o → on_report (one p) t n report made ≡ on_report (other p) t n report made
    reported e None here there is = rw (here, there, is) refl
    reported e (Some more) here there is = rw (here, there, is) (λ i. if all_reported more then verdict_same p t n more.group more.reports made i else made)

    by : (o : Option Election) → election_in_progress p.site p.inc t (left p.steps) ≡ o
        → election_in_progress p.site p.inc t (right p.steps) ≡ election_in_progress p.site p.inc t (left p.steps) → on_report (one p) t n report made ≡ on_report (other p) t n report made
    by None here back = let there : election_in_progress p.site p.inc t (right p.steps) ≡ None = back ∙ here in rw (here, there) refl
    by (Some e) here back = reported e (take_report e n report) here (back ∙ here) refl

-- an attempt that is asked of the site
abbrev follows : At → Txn → ℕ → Made → Bool
follows a t n made = open_now a t made && elected_now a t made == n

on_pre_same : (p : Pair) (f : ℕ) (t : Txn) (n : ℕ) (dir : Dir) (made : Made) → on_pre (one p) f t n dir made ≡ on_pre (other p) f t n dir made
on_pre_same p f t n dir made = by (follows (one p) t n made) refl (λ i. sym (open_same p t made) i && sym (elected_same p t made) i == n)
  where
    by : (b : Bool) → follows (one p) t n made ≡ b → follows (other p) t n made ≡ follows (one p) t n made → on_pre (one p) f t n dir made ≡ on_pre (other p) f t n dir made
    by true here back =
        let there : follows (other p) t n made ≡ true = back ∙ here in
        rw (here, there) (λ i. and_send (one p) f (msg.Ack t n dir) (if attempt_same p t made i == n then made else and_record (log.Attempt t n dir) made))
    by false here back = let there : follows (other p) t n made ≡ false = back ∙ here in rw (here, there) refl

-- an acknowledgement
acked_same : (p : Pair) (t : Txn) (n : ℕ) (dir : Dir) (r : Round) (made : Made)
    → (if r.n == n && same_dir r.dir dir && may_decide (one p) t dir made && is_quorum p.weights (p.site ∷ r.acked) t.sites
    then and_cast (one p) r.to (msg.Decide t dir) (and_decide (one p) t dir made) else made)
    ≡ (if r.n == n && same_dir r.dir dir && may_decide (other p) t dir made && is_quorum p.weights (p.site ∷ r.acked) t.sites
    then and_cast (other p) r.to (msg.Decide t dir) (and_decide (other p) t dir made) else made)
acked_same p t n dir r made = λ i.
    if r.n == n && same_dir r.dir dir && may_decide_same p t dir made i && is_quorum p.weights (p.site ∷ r.acked) t.sites
    then and_cast (one p) r.to (msg.Decide t dir) (decide_same p t dir made i) else made

on_ack_same : (p : Pair) (f : ℕ) (t : Txn) (n : ℕ) (dir : Dir) (made : Made) → on_ack (one p) f t n dir made ≡ on_ack (other p) f t n dir made
on_ack_same p f t n dir made = by (round_in_progress p.site t (left p.steps)) refl (sym (round_twins p.site t p.steps))
  where
    by : (o : Option Round) → round_in_progress p.site t (left p.steps) ≡ o → round_in_progress p.site t (right p.steps) ≡ round_in_progress p.site t (left p.steps)
        → on_ack (one p) f t n dir made ≡ on_ack (other p) f t n dir made
    by None here back = let there : round_in_progress p.site t (right p.steps) ≡ None = back ∙ here in rw (here, there) refl
    by (Some r) here back = let there : round_in_progress p.site t (right p.steps) ≡ Some r = back ∙ here in rw (here, there) (acked_same p t n dir (count_ack r f n dir) made)

-- each message
pub message_same : (p : Pair) (f : ℕ) (x : Message) (made : Made) → SameTable p made.records → on_message (one p) f x made ≡ on_message (other p) f x made
message_same p f (msg.Do t n op) made table = on_do_same p f t n op made table
message_same p f (msg.Done t n inc answer) made table = on_done_same p f t n inc answer made
message_same p f (msg.Died t n older) made table = on_died_same p t older made
message_same p f (msg.Ask t call) made table = ap (λ (n : ℕ). and_send (one p) f (msg.LastElected t call n) made) (elected_same p t made)
message_same p f (msg.LastElected t call n) made table = on_last_same p f t call n made
message_same p f (msg.Elected t n) made table = on_elected_same p f t n made
message_same p f (msg.Report t n st attempt) made table = on_report_same p t n (record { site = f; state = st; attempt = attempt }) made
message_same p f (msg.VoteReq t inc count) made table = on_vote_req_same p f t inc count made
message_same p f (msg.Vote t true) made table = on_yes_same p t made
message_same p f (msg.Vote t false) made table = λ i. if may_abort_same p t made i then abort_same p t made i else made
message_same p f (msg.Pre t n dir) made table = on_pre_same p f t n dir made
message_same p f (msg.Ack t n dir) made table = on_ack_same p f t n dir made
message_same p f (msg.Decide t dir) made table = may_same p t dir made
