-- A site that is asked for an attempt of a number above 1 has reported for it to the one who asks.
use Rattle.std.proofs.Common.{◌≡◌, ◌⊎◌, inl, inr, ◌==◌, ◌&&◌, ◌||◌, ◌∷◌, ◌++◌, [], ◌≤◌, ℕ, suc, Bool, true, false, List, Option, Some, None, refl, ap, sym, subst, ◌∙◌, arith, if◌then◌else◌, fold, length, nat_lt, nat_le, eqb-true, eq-eqb}
use Rattle.std.specs.Prelude.{not}
use Rattle.std.specs.List.{list_all}
use Rattle.std.proofs.lemmas.List.{length-map}
use Rattle.std.proofs.lemmas.Bool.{and_parts}
use Rattle.e3_types.specs.declared.entries.Input.{Input}
use Rattle.e3_types.specs.declared.entries.Input.TheVariants as input
use Rattle.e3_types.specs.declared.entries.Refusal.{Refusal}
use Rattle.e3_types.specs.declared.entries.Told.TheVariants as told
use Rattle.e3_types.specs.declared.messages.Message.{Message}
use Rattle.e3_types.specs.declared.messages.Message.TheVariants as msg
use Rattle.e3_types.specs.declared.messages.Packet.{Packet}
use Rattle.e3_types.specs.declared.records.Record.TheVariants as log
use Rattle.e3_types.specs.declared.transactions.Call.{Call}
use Rattle.e3_types.specs.declared.transactions.Dir.{Dir}
use Rattle.e3_types.specs.declared.transactions.Dir.TheVariants.{Abort, Commit}
use Rattle.e3_types.specs.declared.transactions.State.{State}
use Rattle.e3_types.specs.declared.transactions.State.TheVariants.{W}
use Rattle.e3_types.specs.declared.transactions.Txn.{Txn}
use Rattle.e3_types.specs.declared.verdicts.SiteReport.{SiteReport}
use Rattle.e3_types.specs.declared.verdicts.Verdict.{Verdict}
use Rattle.e3_types.specs.declared.verdicts.Verdict.TheVariants as verdict
use Rattle.e3_types.specs.Same.{same_txn, same_state}
use Rattle.e3_types.specs.Sets.{has_site, is_within, others}
use Rattle.e3_types.specs.Verdicts.{verdict_of}
use Rattle.e3_world.specs.declared.lives.Made.{Made}
use Rattle.e3_world.specs.AttemptRules.{on_pre}
use Rattle.e3_world.specs.ElectionRules.{and_join, and_verdict, on_elected, on_last, on_report}
use Rattle.e3_world.specs.Elections.{all_heard, all_reported, begun, election_in_progress, greatest_heard, hear, next_call, take_report}
use Rattle.e3_world.specs.Gatherings.{Election}
use Rattle.e3_world.specs.Making.{nothing, open_now, elected_now, attempt_now, state_now, is_coordinator, may_decide, steps_now, and_record, and_tell, and_send, and_cast, and_decide, and_attempt, and_vote}
use Rattle.e3_world.specs.Messages.{on_message}
use Rattle.e3_world.specs.Sound.{txn_in}
use Rattle.e3_world.specs.Steps.{and_ask, on_commit, on_elect, on_input, or_refused, refuse, step_at}
use Rattle.e3_world.specs.VoteRules.{on_yes}
use Rattle.e3_world.specs.Votes.{yes_votes}
use Rattle.e3_laws.specs.agreement.Guards.{IsLastReport}
use Rattle.e3_laws.specs.agreement.Logs.{IsIn, Status}
use Rattle.e3_laws.specs.agreement.Rules.{Came, Report, Reply, own_reply}
use Rattle.e3_laws.specs.agreement.Rows.{Here, MayTake, Stands, own_log}
use Rattle.e3_laws.specs.agreement.Verdicts.{reply_of}
use Rattle.e3_laws.specs.agreement.Weights.{differ}
use Rattle.e3_laws.proofs.agreement.Guarding.Calm.{Adds, asks_none, is_plain, is_plain_message}
use Rattle.e3_laws.proofs.agreement.Guarding.Quiet.{Quiet, IsOther, asks_none_of, quiet_commit, quiet_plain, quiet_other, quiet_step, step_adds}
use Rattle.e3_laws.proofs.agreement.Guarding.Voted.{last_stands}
use Rattle.e3_laws.proofs.agreement.Protocol.Reached.{in_parts}
use Rattle.e3_laws.proofs.agreement.Protocol.Shares.{in_from_has}
use Rattle.e3_laws.proofs.agreement.Refinement.Gathered.{Reported, reporters}
use Rattle.e3_laws.proofs.agreement.Refinement.Lists.{has_from_in, in_map, in_others}
use Rattle.e3_laws.proofs.agreement.Refinement.Sites.{within_from, within_in}
use Rattle.e3_laws.proofs.steps.Adding.{Preserves, Casts, keep_attempt, keep_cast, keep_choice, keep_may}
use Rattle.e3_laws.proofs.steps.Each.{each-of}
use Rattle.e3_laws.proofs.steps.Keeping.{AnyRecord, allows}
use Rattle.e3_laws.proofs.steps.Rules.{behind_join}
use Rattle.e3_laws.proofs.steps.Tests.{same_is, same_self}
use Rattle.e3_laws.proofs.steps.Whatever.{AnyTold}

-- sites that differ, among as many: all of them
others_fewer : (x : ℕ) (ys : List ℕ) → length (others x ys) ≤ length ys
others_fewer x [] = omega arith
others_fewer x (y ∷ ys) = by (others_fewer x ys) (y == x) refl
  where
    by : length (others x ys) ≤ length ys → (b : Bool) → (y == x) ≡ b → length (others x (y ∷ ys)) ≤ length (y ∷ ys)
    by less true is = rw is (omega (arith, less))
    by less false is = rw is (omega (arith, less))

one_fewer : (x : ℕ) (ys : List ℕ) → has_site ys x ≡ true → suc (length (others x ys)) ≤ length ys
one_fewer x [] has = cc
one_fewer x (y ∷ ys) has = by (λ more. one_fewer x ys more) (others_fewer x ys) (y == x) refl has
  where
    by : (has_site ys x ≡ true → suc (length (others x ys)) ≤ length ys) → length (others x ys) ≤ length ys → (b : Bool) → (y == x) ≡ b → ((y == x) || has_site ys x) ≡ true →
        suc (length (others x (y ∷ ys))) ≤ length (y ∷ ys)
    by rest less true is has = rw is (omega (arith, less))
    by rest less false is has = rw is (let more : has_site ys x ≡ true = subst (λ b. (b || has_site ys x) ≡ true) is has in let low = rest more in omega (arith, low))

as_many : (xs ys : List ℕ) → differ xs ≡ true → is_within xs ys ≡ true → length xs ≤ length ys
as_many [] ys apart inside = omega arith
as_many (x ∷ xs) ys apart inside =
    let p = and_parts (not (has_site xs x)) (differ xs) apart in
    let q = and_parts (has_site ys x) (is_within xs ys) inside in
    let there : is_within xs (others x ys) ≡ true = within_from xs (others x ys) (λ z k. in_others x z ys (within_in xs ys q.1 z k) (λ same. other (has_site xs x) p.0 (has_from_in x xs (subst (λ w. IsIn w xs) same k)))) in
    let low = as_many xs (others x ys) p.1 there in
    let less = one_fewer x ys q.0 in
    omega (arith, low, less)
  where
    other : (b : Bool) → not b ≡ true → b ≡ true → ⊥
    other true off here = cc
    other false off here = cc

all_there : (xs ys : List ℕ) (z : ℕ) → differ xs ≡ true → is_within xs ys ≡ true → length xs ≡ length ys → has_site ys z ≡ true → has_site xs z ≡ true
all_there xs ys z apart inside many has = by (has_site xs z) refl
  where
    by : (b : Bool) → has_site xs z ≡ b → has_site xs z ≡ true
    by true is = is
    by false is = absurd (
        let first : differ (z ∷ xs) ≡ true = rw (is, apart) refl in
        let among : is_within (z ∷ xs) ys ≡ true = rw (has, inside) refl in
        let more : suc (length xs) ≤ length ys = as_many (z ∷ xs) ys first among in
        omega (arith, more, many))

-- the site has reported to this one for the number
abbrev pub HasReported : Here → ℕ → ℕ → Type 0
HasReported h y n = (st : Status) × (b : ℕ) × Came h.before.sent y h.at.site (Report n st b)

-- it may be sent to: it has reported for the number of the attempt that it is asked for, where that is above 1
abbrev AskedSo : Here → ℕ → Message → Type 0
AskedSo h to m = (n : ℕ) (d : Dir) → m ≡ msg.Pre h.txn n d → 2 ≤ n → HasReported h to n

abbrev pub AllAsked : Here → Made → Type 0
AllAsked h made = (p : Packet) → IsIn p made.outs → AskedSo h p.to p.msg

asked_more : (h : Here) (outs : List Packet) (q : Packet) → ((p : Packet) → IsIn p outs → AskedSo h p.to p.msg) → AskedSo h q.to q.msg → (p : Packet) → IsIn p (outs ++ q ∷ []) → AskedSo h p.to p.msg
asked_more h outs q all may p k = by p (in_parts p outs (q ∷ []) k)
  where
    by : (p : Packet) → IsIn p outs ⊎ IsIn p (q ∷ []) → AskedSo h p.to p.msg
    by p (inl old) = all p old
    by p (inr (inl same)) = subst (λ (z : Packet). AskedSo h z.to z.msg) (sym same) may
    by p (inr (inr none)) = absurd none

kept : (h : Here) → Preserves h.at AnyRecord AnyTold (AskedSo h) (AllAsked h)
kept h = record { records = λ r made any all. all; tells = λ e made any all. all; sends = sent }
  where
    sent : (to : ℕ) (m : Message) (made : Made) → AskedSo h to m → AllAsked h made → AllAsked h (and_send h.at to m made)
    sent to m made may all = by (to == h.at.site) refl
      where
        by : (b : Bool) → (to == h.at.site) ≡ b → AllAsked h (and_send h.at to m made)
        by true is = rw is all
        by false is = rw is (asked_more h made.outs (record { number = 0; «from» = h.at.site; to = to; msg = m }) all may)

-- a message that is no pre
no_pre : (h : Here) (to : ℕ) (m : Message) → asks_none m ≡ true → AskedSo h to m
no_pre h to m none n d is low = absurd (let is_pre : asks_none m ≡ false = ap asks_none is in let clash : true ≡ false = sym none ∙ is_pre in cc)

casts_none : (h : Here) (m : Message) (sites : List ℕ) → asks_none m ≡ true → Casts h.at (AskedSo h) m sites
casts_none h m sites none = each-of (λ s. (s == h.at.site) ≡ false → AskedSo h s m) (λ s apart. no_pre h s m none) sites

start : (h : Here) → AllAsked h nothing
start h p k = absurd k

first_asks : (h : Here) (dir : Dir) (sites : List ℕ) → Casts h.at (AskedSo h) (msg.Pre h.txn 1 dir) sites
first_asks h dir sites = each-of (λ s. (s == h.at.site) ≡ false → AskedSo h s (msg.Pre h.txn 1 dir)) (λ s apart n d is low. absurd (let one : 1 ≡ n = cc in omega (arith, one, low))) sites

-- the coordinator's own attempt has the number 1
first_attempt : (h : Here) (made : Made) → AllAsked h made → AllAsked h (and_attempt h.at h.txn 1 Commit h.txn.sites made)
first_attempt h made all =
    keep_attempt (kept h) h.txn 1 Commit h.txn.sites made (allows h.at h.txn) (casts_none h (msg.Decide h.txn Commit) h.txn.sites refl) (first_asks h Commit h.txn.sites) all

asks_votes : (h : Here) (u : Txn) (sites : List ℕ) (made : Made) → AllAsked h made → AllAsked h (fold (and_ask h.at u) made sites)
asks_votes h u [] made all = all
asks_votes h u (s ∷ sites) made all = asks_votes h u sites (and_ask h.at u made s) ((kept h).sends s _ made (no_pre h s _ refl) all)

commit_asks : (h : Here) → (elected_now h.at h.txn nothing == 1) ≡ true → AllAsked h (on_commit h.at h.txn nothing)
commit_asks h one = alone (others h.at.site h.txn.sites) refl
  where
    voted : AllAsked h (and_vote h.at h.txn nothing)
    voted = start h

    alone : (l : List ℕ) → others h.at.site h.txn.sites ≡ l → AllAsked h (on_commit h.at h.txn nothing)
    alone [] none = rw (one, none) (first_attempt h (and_vote h.at h.txn nothing) voted)
    alone (s ∷ ss) some = rw (one, some) (asks_votes h h.txn (s ∷ ss) (and_vote h.at h.txn nothing) voted)

refused_asks : (h : Here) (u : Txn) (cancels : Bool) (made : Made) → AllAsked h made → AllAsked h (or_refused u (refuse h.at u cancels nothing) made)
refused_asks h u cancels made all = by (refuse h.at u cancels nothing) refl
  where
    by : (o : Option Refusal) → refuse h.at u cancels nothing ≡ o → AllAsked h (or_refused u (refuse h.at u cancels nothing) made)
    by None is = rw is all
    by (Some why) is = rw is (start h)

yes_asks : (h : Here) → AllAsked h (on_yes h.at h.txn nothing)
yes_asks h = by (is_coordinator h.at h.txn && same_state (state_now h.at h.txn nothing) W && elected_now h.at h.txn nothing == 1) refl
  where
    counted : (o : Option (List ℕ)) → yes_votes h.txn (steps_now h.at nothing) ≡ o →
        (is_coordinator h.at h.txn && same_state (state_now h.at h.txn nothing) W && elected_now h.at h.txn nothing == 1) ≡ true → AllAsked h (on_yes h.at h.txn nothing)
    counted None votes is = rw (is, votes) (start h)
    counted (Some came) votes is = rw (is, votes) (keep_choice (kept h) (is_within (others h.at.site h.txn.sites) came) _ nothing (first_attempt h nothing (start h)) (start h))

    by : (b : Bool) → (is_coordinator h.at h.txn && same_state (state_now h.at h.txn nothing) W && elected_now h.at h.txn nothing == 1) ≡ b → AllAsked h (on_yes h.at h.txn nothing)
    by true is = counted (yes_votes h.txn (steps_now h.at nothing)) refl is
    by false is = rw is (start h)

pre_asks : (h : Here) (f k : ℕ) (dir : Dir) → AllAsked h (on_pre h.at f h.txn k dir nothing)
pre_asks h f k dir = by (open_now h.at h.txn nothing && elected_now h.at h.txn nothing == k) refl
  where
    by : (b : Bool) → (open_now h.at h.txn nothing && elected_now h.at h.txn nothing == k) ≡ b → AllAsked h (on_pre h.at f h.txn k dir nothing)
    by true is = rw is ((kept h).sends f (msg.Ack h.txn k dir) _ (no_pre h f (msg.Ack h.txn k dir) refl)
        (keep_choice (kept h) (attempt_now h.at h.txn nothing == k) nothing (and_record (log.Attempt h.txn k dir) nothing) (start h) (start h)))
    by false is = rw is (start h)

elected_asks : (h : Here) (f k : ℕ) → AllAsked h (on_elected h.at f h.txn k nothing)
elected_asks h f k = by (nat_lt (elected_now h.at h.txn nothing) k) refl
  where
    by : (b : Bool) → nat_lt (elected_now h.at h.txn nothing) k ≡ b → AllAsked h (on_elected h.at f h.txn k nothing)
    by true is = rw is ((kept h).sends f (msg.Report h.txn k (state_now h.at h.txn nothing) (attempt_now h.at h.txn nothing)) (and_record (log.Join h.txn k) nothing)
        (no_pre h f (msg.Report h.txn k (state_now h.at h.txn nothing) (attempt_now h.at h.txn nothing)) refl) (start h))
    by false is = rw is (start h)

-- a verdict over the reports of the group
verdict_asks : (h : Here) (n : ℕ) (group : List ℕ) (reports : List SiteReport) (made : Made) → ((dir : Dir) → Casts h.at (AskedSo h) (msg.Pre h.txn n dir) group) → AllAsked h made →
    AllAsked h (and_verdict h.at h.txn n group reports made)
verdict_asks h n group reports made may all = by (verdict_of h.at.weights h.txn.sites reports) refl
  where
    decided : (dir : Dir) (more : Made) → AllAsked h more → AllAsked h (and_cast h.at group (msg.Decide h.txn dir) (if may_decide h.at h.txn dir more then and_decide h.at h.txn dir more else more))
    decided dir more kept_all = keep_cast (kept h) group (msg.Decide h.txn dir) _ (casts_none h (msg.Decide h.txn dir) group refl) (keep_may (kept h) h.txn dir more (allows h.at h.txn) kept_all)

    tried : (dir : Dir) (more : Made) → AllAsked h more → AllAsked h (and_attempt h.at h.txn n dir group more)
    tried dir more kept_all = keep_attempt (kept h) h.txn n dir group more (allows h.at h.txn) (casts_none h (msg.Decide h.txn dir) group refl) (may dir) kept_all

    by : (v : Verdict) → verdict_of h.at.weights h.txn.sites reports ≡ v → AllAsked h (and_verdict h.at h.txn n group reports made)
    by verdict.Abort is = rw is (decided Abort (and_tell (told.Verdict h.txn n verdict.Abort) made) all)
    by verdict.Commit is = rw is (decided Commit (and_tell (told.Verdict h.txn n verdict.Commit) made) all)
    by verdict.PreCommit is = rw is (tried Commit (and_tell (told.Verdict h.txn n verdict.PreCommit) made) all)
    by verdict.PreAbort is = rw is (tried Abort (and_tell (told.Verdict h.txn n verdict.PreAbort) made) all)
    by (verdict.Block have total) is = rw is all

-- a group without other sites
alone_asks : (h : Here) (n : ℕ) (dir : Dir) (group : List ℕ) → others h.at.site group ≡ [] → Casts h.at (AskedSo h) (msg.Pre h.txn n dir) group
alone_asks h n dir [] none = tt
alone_asks h n dir (s ∷ group) none = by (λ rest. alone_asks h n dir group rest) (s == h.at.site) refl none
  where
    by : (others h.at.site group ≡ [] → Casts h.at (AskedSo h) (msg.Pre h.txn n dir) group) → (b : Bool) → (s == h.at.site) ≡ b → others h.at.site (s ∷ group) ≡ [] →
        Casts h.at (AskedSo h) (msg.Pre h.txn n dir) (s ∷ group)
    by rest true is = rw is (λ none. ((λ apart. absurd (let clash : true ≡ false = apart in cc)), rest none))
    by rest false is = rw is (λ none. absurd (let clash : s ∷ others h.at.site group ≡ [] = none in cc))

join_asks : (h : Here) (x : Election) (made : Made) → AllAsked h made → AllAsked h (and_join h.at h.txn x made)
join_asks h x made all = by (all_heard x && nat_lt (greatest_heard x) 4294967295 && nat_le (elected_now h.at h.txn made) (greatest_heard x)) refl
  where
    called : AllAsked h (and_cast h.at x.group (msg.Elected h.txn (suc (greatest_heard x))) (and_record (log.Join h.txn (suc (greatest_heard x))) made))
    called = keep_cast (kept h) x.group (msg.Elected h.txn (suc (greatest_heard x))) _ (casts_none h (msg.Elected h.txn (suc (greatest_heard x))) x.group refl) all

    report : SiteReport
    report = record { site = h.at.site; state = state_now h.at h.txn made; attempt = attempt_now h.at h.txn made }

    alone : (l : List ℕ) → others h.at.site x.group ≡ l →
        AllAsked h (behind_join h.at h.txn (suc (greatest_heard x)) x report l (and_cast h.at x.group (msg.Elected h.txn (suc (greatest_heard x))) (and_record (log.Join h.txn (suc (greatest_heard x))) made)))
    alone [] none = verdict_asks h (suc (greatest_heard x)) x.group (report ∷ []) _ (λ dir. alone_asks h (suc (greatest_heard x)) dir x.group none) called
    alone (s ∷ ss) some = called

    by : (b : Bool) → (all_heard x && nat_lt (greatest_heard x) 4294967295 && nat_le (elected_now h.at h.txn made) (greatest_heard x)) ≡ b → AllAsked h (and_join h.at h.txn x made)
    by true is = rw is (alone (others h.at.site x.group) refl)
    by false is = rw is all

last_asks : (h : Here) (f : ℕ) (call : Call) (k : ℕ) → AllAsked h (on_last h.at f h.txn call k nothing)
last_asks h f call k = by (election_in_progress h.at.site h.at.life.inc h.txn h.at.life.steps) refl
  where
    heard : (e : Election) (o : Option Election) → election_in_progress h.at.site h.at.life.inc h.txn h.at.life.steps ≡ Some e → hear e f call k ≡ o → AllAsked h (on_last h.at f h.txn call k nothing)
    heard e None is took = rw (is, took) (start h)
    heard e (Some x) is took = rw (is, took) (join_asks h x nothing (start h))

    by : (o : Option Election) → election_in_progress h.at.site h.at.life.inc h.txn h.at.life.steps ≡ o → AllAsked h (on_last h.at f h.txn call k nothing)
    by None is = rw is (start h)
    by (Some e) is = heard e (hear e f call k) is refl

elect_asks : (h : Here) (group : List ℕ) → AllAsked h (on_elect h.at h.txn group nothing)
elect_asks h group = join_asks h e (and_cast h.at group (msg.Ask h.txn e.call) nothing) (keep_cast (kept h) group (msg.Ask h.txn e.call) nothing (casts_none h (msg.Ask h.txn e.call) group refl) (start h))
  where
    e : Election
    e = begun h.at.site (next_call h.at.life.inc h.at.life.steps) group (elected_now h.at h.txn nothing)

-- behind the last report each other member of the group has reported
members_reported : (h : Here) (n : ℕ) (e : Election) (y : ℕ) → Stands h → IsLastReport h.at h.txn n e → has_site e.group y ≡ true → (y == h.at.site) ≡ false → HasReported h y n
members_reported h n e y s last member apart = go (in_map (λ (r : SiteReport). r.site) y e.reports (in_from_has y (reporters e.reports) there))
  where
    ok : Reported h (own_log h) e.group n e.reports
    ok = let k = last_stands h n e s last in k.0.reports n k.1

    many : length (reporters e.reports) ≡ length e.group
    many = length-map e.reports (λ (r : SiteReport). r.site) ∙ eqb-true (length e.reports) (length e.group) last.complete

    there : has_site (reporters e.reports) y ≡ true
    there = all_there (reporters e.reports) e.group y ok.apart ok.among many member

    go : (r : SiteReport) × IsIn r e.reports × (y ≡ r.site) → HasReported h y n
    go f = by (ok.replied f.0 f.1)
      where
        by : Came h.before.sent f.0.site h.at.site (Report n (reply_of f.0).stood (reply_of f.0).tried) ⊎ (reply_of f.0 ≡ own_reply (own_log h) h.at.site n) → HasReported h y n
        by (inl came) = ((reply_of f.0).stood, (reply_of f.0).tried, subst (λ z. Came h.before.sent z h.at.site (Report n (reply_of f.0).stood (reply_of f.0).tried)) (sym f.2) came)
        by (inr own) = absurd (
            let here : f.0.site ≡ h.at.site = ap (λ (z : Reply). z.site) own in
            let same : (y == h.at.site) ≡ true = eq-eqb y h.at.site (f.2 ∙ here) in
            let clash : true ≡ false = sym same ∙ apart in
            cc)

report_asks : (h : Here) (packet : Packet) (k : ℕ) (st : State) (attempt : ℕ) → Stands h → h.at.input ≡ input.Deliver packet → packet.msg ≡ msg.Report h.txn k st attempt →
    AllAsked h (on_report h.at h.txn k (record { site = packet.«from»; state = st; attempt = attempt }) nothing)
report_asks h packet k st attempt s is says = by (election_in_progress h.at.site h.at.life.inc h.txn h.at.life.steps) refl
  where
    r : SiteReport
    r = record { site = packet.«from»; state = st; attempt = attempt }

    members : (x : Election) → IsLastReport h.at h.txn k x → (dir : Dir) (sites : List ℕ) → ((y : ℕ) → has_site sites y ≡ true → has_site x.group y ≡ true) → Casts h.at (AskedSo h) (msg.Pre h.txn k dir) sites
    members x last dir [] inside = tt
    members x last dir (y ∷ sites) inside = (
      (λ apart n d same low. (
          let one : k ≡ n = numbers k dir n d same in
          subst (λ z. HasReported h y z) one (members_reported h k x y s last (inside y (rw (eq-eqb y y refl) refl)) apart))),
      members x last dir sites (λ z has. inside z (more (y == z) (has_site sites z) has)),
    )
      where
        numbers : (p : ℕ) (d : Dir) (q : ℕ) (e : Dir) → msg.Pre h.txn p d ≡ msg.Pre h.txn q e → p ≡ q
        numbers p d q e same = cc

        more : (b c : Bool) → c ≡ true → (b || c) ≡ true
        more true c has = refl
        more false c has = has

    counts : (e : Election) → election_in_progress h.at.site h.at.life.inc h.txn h.at.life.steps ≡ Some e → (x : Election) → take_report e k r ≡ Some x → (b : Bool) → all_reported x ≡ b →
        AllAsked h (if b then and_verdict h.at h.txn k x.group x.reports nothing else nothing)
    counts e here x took true all =
        verdict_asks h k x.group x.reports nothing
        (λ dir. members x (record { packet = packet; taken = is; state = st; attempt = attempt; reports = says; was = e; in_progress = here; counts = took; complete = all }) dir x.group (λ y has. has)) (start h)
    counts e here x took false all = start h

    takes : (e : Election) → election_in_progress h.at.site h.at.life.inc h.txn h.at.life.steps ≡ Some e → (o : Option Election) → take_report e k r ≡ o → AllAsked h (on_report h.at h.txn k r nothing)
    takes e here None took = rw (here, took) (start h)
    takes e here (Some x) took = rw (here, took) (counts e here x took (all_reported x) refl)

    by : (o : Option Election) → election_in_progress h.at.site h.at.life.inc h.txn h.at.life.steps ≡ o → AllAsked h (on_report h.at h.txn k r nothing)
    by None here = rw here (start h)
    by (Some e) here = takes e here (take_report e k r) refl

-- a calm step asks nobody
quiet_asks : (h : Here) (made : Made) → Quiet h.txn made → AllAsked h made
quiet_asks h made q p k n d is low = absurd (
    let none : asks_none_of h.txn p.msg ≡ true = each p made.outs q.outs k in
    let asks : asks_none_of h.txn p.msg ≡ false = ap (asks_none_of h.txn) is ∙ rw (same_self h.txn) refl in
    let clash : true ≡ false = sym none ∙ asks in
    cc)
  where
    each : (p : Packet) (ps : List Packet) → list_all (λ q. asks_none_of h.txn q.msg) ps ≡ true → IsIn p ps → asks_none_of h.txn p.msg ≡ true
    each p [] all k = absurd k
    each p (q ∷ ps) all (inl same) = ap (λ (z : Packet). asks_none_of h.txn z.msg) same ∙ (and_parts (asks_none_of h.txn q.msg) (list_all (λ q. asks_none_of h.txn q.msg) ps) all).0
    each p (q ∷ ps) all (inr k) = each p ps (and_parts (asks_none_of h.txn q.msg) (list_all (λ q. asks_none_of h.txn q.msg) ps) all).1 k

-- and behind what its input makes a step asks nobody more
rest_asks : (h : Here) (made : Made) → Stands h → MayTake h.at.site h.at.input → on_input h.at h.at.input nothing ≡ made → AllAsked h made → AllAsked h (step_at h.at)
rest_asks h made s fits is all p k = by (in_parts p made.outs x.sent (subst (λ z. IsIn p z) x.outs k))
  where
    x : Adds made (step_at h.at)
    x = step_adds h made s fits is

    none : (p : Packet) (ps : List Packet) → list_all (λ q. asks_none q.msg) ps ≡ true → IsIn p ps → asks_none p.msg ≡ true
    none p [] all k = absurd k
    none p (q ∷ ps) all (inl same) = ap (λ (z : Packet). asks_none z.msg) same ∙ (and_parts (asks_none q.msg) (list_all (λ q. asks_none q.msg) ps) all).0
    none p (q ∷ ps) all (inr k) = none p ps (and_parts (asks_none q.msg) (list_all (λ q. asks_none q.msg) ps) all).1 k

    by : IsIn p made.outs ⊎ IsIn p x.sent → AskedSo h p.to p.msg
    by (inl old) = all p old
    by (inr new) = no_pre h p.to p.msg (none p x.sent x.asks new)

-- whatever the site takes
pub step_asks : (h : Here) → Stands h → MayTake h.at.site h.at.input → AllAsked h (step_at h.at)
step_asks h s fits = by h.at.input refl
  where
    t : Txn
    t = h.txn

    plain : (i : Input) → h.at.input ≡ i → is_plain i ≡ true → AllAsked h (step_at h.at)
    plain i is none = quiet_asks h (step_at h.at) (quiet_plain h s fits (ap is_plain is ∙ none))

    other : (i : Input) → h.at.input ≡ i → is_plain i ≡ false → IsOther t i → AllAsked h (step_at h.at)
    other i is tried apart = quiet_asks h (step_at h.at) (quiet_step h (on_input h.at i nothing) s fits (ap (λ z. on_input h.at z nothing) is) (quiet_other h.at t i tried apart))

    own : (made : Made) → on_input h.at h.at.input nothing ≡ made → AllAsked h made → AllAsked h (step_at h.at)
    own made is all = rest_asks h made s fits is all

    commits : (u : Txn) → h.at.input ≡ input.Commit u → (b : Bool) → same_txn t u ≡ b → AllAsked h (step_at h.at)
    commits u is true same = first (is ∙ ap input.Commit (sym (same_is t u same))) (elected_now h.at t nothing == 1) refl
      where
        first : h.at.input ≡ input.Commit t → (b : Bool) → (elected_now h.at t nothing == 1) ≡ b → AllAsked h (step_at h.at)
        first is true one = own (on_input h.at (input.Commit t) nothing) (ap (λ i. on_input h.at i nothing) is) (refused_asks h t false (on_commit h.at t nothing) (commit_asks h one))
        first is false late = quiet_asks h (step_at h.at) (quiet_commit h s fits is late)
    commits u is false apart = other (input.Commit u) is refl apart

    elects : (u : Txn) (group : List ℕ) → h.at.input ≡ input.Elect u group → (b : Bool) → same_txn t u ≡ b → AllAsked h (step_at h.at)
    elects u group is true same = own (on_elect h.at t group nothing) (ap (λ i. on_input h.at i nothing) (is ∙ ap (λ v. input.Elect v group) (sym (same_is t u same)))) (elect_asks h group)
    elects u group is false apart = other (input.Elect u group) is refl apart

    message : (packet : Packet) → h.at.input ≡ input.Deliver packet → (z : Message) → packet.msg ≡ z → AllAsked h (step_at h.at)
    message packet is z says = of_message z says
      where
        calm : (z : Message) → packet.msg ≡ z → is_plain_message z ≡ true → AllAsked h (step_at h.at)
        calm z says none = plain (input.Deliver packet) is (ap is_plain_message says ∙ none)

        pick : (u : Txn) (z : Message) → packet.msg ≡ z → is_plain_message z ≡ false → same_txn t (txn_in z) ≡ same_txn t u → (same_txn t u ≡ true → AllAsked h (step_at h.at)) → (b : Bool) → same_txn t u ≡ b →
            AllAsked h (step_at h.at)
        pick u z says tried of mine true same = mine same
        pick u z says tried of mine false apart = other (input.Deliver packet) is (ap is_plain_message says ∙ tried) (ap (λ (w : Message). same_txn t (txn_in w)) says ∙ of ∙ apart)

        takes : (z : Message) → packet.msg ≡ z → on_input h.at h.at.input nothing ≡ on_message h.at packet.«from» z nothing
        takes z says = ap (λ i. on_input h.at i nothing) is ∙ ap (λ y. on_message h.at packet.«from» y nothing) says

        of_message : (z : Message) → packet.msg ≡ z → AllAsked h (step_at h.at)
        of_message (msg.Do u k op) says = calm (msg.Do u k op) says refl
        of_message (msg.Done u k inc answer) says = calm (msg.Done u k inc answer) says refl
        of_message (msg.Died u k older) says = calm (msg.Died u k older) says refl
        of_message (msg.Ask u call) says = calm (msg.Ask u call) says refl
        of_message (msg.VoteReq u inc count) says = calm (msg.VoteReq u inc count) says refl
        of_message (msg.Vote u false) says = calm (msg.Vote u false) says refl
        of_message (msg.Ack u k dir) says = calm (msg.Ack u k dir) says refl
        of_message (msg.Decide u dir) says = calm (msg.Decide u dir) says refl
        of_message (msg.LastElected u call k) says =
            pick u (msg.LastElected u call k) says refl refl
            (λ same. own (on_last h.at packet.«from» t call k nothing) (takes (msg.LastElected t call k) (says ∙ ap (λ v. msg.LastElected v call k) (sym (same_is t u same)))) (last_asks h packet.«from» call k)) (same_txn t u) refl
        of_message (msg.Elected u k) says =
            pick u (msg.Elected u k) says refl refl
            (λ same. own (on_elected h.at packet.«from» t k nothing) (takes (msg.Elected t k) (says ∙ ap (λ v. msg.Elected v k) (sym (same_is t u same)))) (elected_asks h packet.«from» k)) (same_txn t u) refl
        of_message (msg.Report u k st attempt) says =
            pick u (msg.Report u k st attempt) says refl refl
            (λ same. (let word : packet.msg ≡ msg.Report t k st attempt = says ∙ ap (λ v. msg.Report v k st attempt) (sym (same_is t u same)) in
            own (on_report h.at t k (record { site = packet.«from»; state = st; attempt = attempt }) nothing) (takes (msg.Report t k st attempt) word) (report_asks h packet k st attempt s is word))) (same_txn t u) refl
        of_message (msg.Vote u true) says =
            pick u (msg.Vote u true) says refl refl
            (λ same. own (on_yes h.at t nothing) (takes (msg.Vote t true) (says ∙ ap (λ v. msg.Vote v true) (sym (same_is t u same)))) (yes_asks h)) (same_txn t u) refl
        of_message (msg.Pre u k dir) says =
            pick u (msg.Pre u k dir) says refl refl
            (λ same. own (on_pre h.at packet.«from» t k dir nothing) (takes (msg.Pre t k dir) (says ∙ ap (λ v. msg.Pre v k dir) (sym (same_is t u same)))) (pre_asks h packet.«from» k dir)) (same_txn t u) refl

    by : (i : Input) → h.at.input ≡ i → AllAsked h (step_at h.at)
    by (input.Begin sites) is = plain (input.Begin sites) is refl
    by (input.Do u op) is = plain (input.Do u op) is refl
    by (input.Cancel u) is = plain (input.Cancel u) is refl
    by (input.Expire u) is = plain (input.Expire u) is refl
    by (input.Commit u) is = commits u is (same_txn t u) refl
    by (input.Elect u group) is = elects u group is (same_txn t u) refl
    by (input.Deliver packet) is = message packet is packet.msg refl
