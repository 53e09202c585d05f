-- An election in progress at its elector, once it has a number: that is the last that the site joined; the site is undecided, or
-- was decided when it joined; and it attempted the number only where another site asked it to.
use Rattle.std.proofs.Common.{◌≡◌, ◌⊎◌, inl, inr, ◌==◌, ◌&&◌, ◌||◌, ◌∷◌, ◌++◌, [], ◌<◌, ◌≤◌, ℕ, Bool, true, false, List, Option, Some, None, is_none, refl, ap, sym, subst, ◌∙◌, arith, append-nil, if◌then◌else◌, fold, map}
use Rattle.std.specs.Prelude.{not}
use Rattle.std.specs.List.{list_all, list_any}
use Rattle.std.proofs.lemmas.Bool.{and_parts, or_parts}
use Rattle.std.proofs.lemmas.List.Folds.{list_any-append}
use Rattle.std.proofs.lemmas.List.Sums.{fold-append}
use Rattle.e3_types.specs.declared.entries.Input.{Input}
use Rattle.e3_types.specs.declared.entries.Input.TheVariants as input
use Rattle.e3_types.specs.declared.entries.Told.{Told}
use Rattle.e3_types.specs.declared.entries.Told.TheVariants as told
use Rattle.e3_types.specs.declared.messages.Message.{Message}
use Rattle.e3_types.specs.declared.messages.Message.TheVariants as msg
use Rattle.e3_types.specs.declared.messages.Packet.{Packet}
use Rattle.e3_types.specs.declared.records.Record.{Record}
use Rattle.e3_types.specs.declared.records.Record.TheVariants as log
use Rattle.e3_types.specs.declared.transactions.Call.{Call}
use Rattle.e3_types.specs.declared.transactions.Dir.{Dir}
use Rattle.e3_types.specs.declared.transactions.Dir.TheVariants.{Abort, Commit}
use Rattle.e3_types.specs.declared.transactions.State.TheVariants.{C, A}
use Rattle.e3_types.specs.declared.transactions.Txn.{Txn}
use Rattle.e3_types.specs.declared.verdicts.SiteReport.{SiteReport}
use Rattle.e3_types.specs.declared.verdicts.Verdict.{Verdict}
use Rattle.e3_types.specs.declared.verdicts.Verdict.TheVariants as verdict
use Rattle.e3_types.specs.Same.{same_txn, same_call, same_state}
use Rattle.e3_types.specs.Sets.{has_site}
use Rattle.e3_types.specs.Verdicts.{verdict_of, reports_state}
use Rattle.e3_world.specs.declared.lives.At.{At}
use Rattle.e3_world.specs.declared.lives.Life.{Life}
use Rattle.e3_world.specs.declared.lives.Made.{Made}
use Rattle.e3_world.specs.declared.lives.Moment.{Moment}
use Rattle.e3_world.specs.ElectionRules.{and_verdict}
use Rattle.e3_world.specs.Elections.{ends_election, election_by, election_with, hear, heard_more, is_decision, is_join, joined_in, or_same, take_report, tells_verdict}
use Rattle.e3_world.specs.Gatherings.{Election, Elections}
use Rattle.e3_world.specs.Logs.{decision, decision_by, is_undecided, last_attempt, last_attempt_by, last_elected, last_elected_by, state_of}
use Rattle.e3_world.specs.Making.{log_now, open_now, elected_now, attempt_now, may_decide, and_tell, and_send, and_cast, and_decide, and_attempt}
use Rattle.e3_world.specs.Moves.{unnumbered}
use Rattle.e3_laws.specs.agreement.Rows.{Here, Stands, own_log}
use Rattle.e3_laws.proofs.agreement.Guarding.Calm.{Adds}
use Rattle.e3_laws.proofs.agreement.Guarding.Quiet.{Quiet, is_calm_of}
use Rattle.e3_laws.proofs.agreement.Protocol.Logs.{attempt-elected, elected_some}
use Rattle.e3_laws.specs.agreement.Logs.{IsIn}
use Rattle.e3_laws.proofs.agreement.Refinement.Lists.{in_left}
use Rattle.e3_laws.proofs.steps.Adding.{Preserves, Casts, keep_attempt, keep_cast, keep_may}
use Rattle.e3_laws.proofs.steps.Each.{each-of}
use Rattle.e3_laws.proofs.steps.Keeping.{AnyRecord, allows}
use Rattle.e3_laws.proofs.steps.Tests.{same_self}
use Rattle.e3_laws.proofs.steps.Whatever.{AnyTold, AnySent}

-- what records that are calm leave
join_calm : (t : Txn) (r : Record) → is_calm_of t r ≡ true → is_join t r ≡ false
join_calm t (log.Join u n) calm = by (same_txn t u) refl
  where
    by : (b : Bool) → same_txn t u ≡ b → same_txn t u ≡ false
    by false is = is
    by true is = absurd (let clash : true ≡ false = sym calm ∙ ap not is in cc)
join_calm t (log.Attempt u n dir) calm = refl
join_calm t (log.Vote u ops) calm = refl
join_calm t (log.Decision u dir) calm = refl
join_calm t (log.Birth format site weights rows) calm = refl
join_calm t (log.Inc inc) calm = refl

pub no_joins : (t : Txn) (rs : List Record) → list_all (is_calm_of t) rs ≡ true → list_any (is_join t) rs ≡ false
no_joins t [] all = refl
no_joins t (r ∷ rs) all =
    let p = and_parts (is_calm_of t r) (list_all (is_calm_of t) rs) all in
    rw (join_calm t r p.0, no_joins t rs p.1) refl

pub joined_none : (t : Txn) (rs : List Record) → list_any (is_join t) rs ≡ false → joined_in t rs ≡ None
joined_none t [] none = refl
joined_none t (log.Join u n ∷ rs) none = let p = or_parts (same_txn t u) (list_any (is_join t) rs) none in rw p.0 (joined_none t rs p.1)
joined_none t (log.Attempt u n dir ∷ rs) none = joined_none t rs none
joined_none t (log.Vote u ops ∷ rs) none = joined_none t rs none
joined_none t (log.Decision u dir ∷ rs) none = joined_none t rs none
joined_none t (log.Birth format site weights rows ∷ rs) none = joined_none t rs none
joined_none t (log.Inc inc ∷ rs) none = joined_none t rs none

-- without a join the last number that was joined is the same
elected_by_same : (t : Txn) (n : ℕ) (r : Record) → is_join t r ≡ false → last_elected_by t n r ≡ n
elected_by_same t n (log.Join u m) none = rw none refl
elected_by_same t n (log.Attempt u m dir) none = refl
elected_by_same t n (log.Vote u ops) none = refl
elected_by_same t n (log.Decision u dir) none = refl
elected_by_same t n (log.Birth format site weights rows) none = refl
elected_by_same t n (log.Inc inc) none = refl

pub elected_on : (t : Txn) (n : ℕ) (rs : List Record) → list_any (is_join t) rs ≡ false → fold (last_elected_by t) n rs ≡ n
elected_on t n [] none = refl
elected_on t n (r ∷ rs) none =
    let p = or_parts (is_join t r) (list_any (is_join t) rs) none in
    ap (λ k. fold (last_elected_by t) k rs) (elected_by_same t n r p.0) ∙ elected_on t n rs p.1

pub elected_same : (t : Txn) (l rs : List Record) → list_any (is_join t) rs ≡ false → last_elected t (l ++ rs) ≡ last_elected t l
elected_same t l rs none = fold-append (last_elected_by t) 1 l rs ∙ elected_on t (last_elected t l) rs none

-- and without an attempt the last attempt
attempt_by_same : (t : Txn) (n : ℕ) (r : Record) → is_calm_of t r ≡ true → last_attempt_by t n r ≡ n
attempt_by_same t n (log.Attempt u m dir) calm = by (same_txn t u) refl
  where
    by : (b : Bool) → same_txn t u ≡ b → last_attempt_by t n (log.Attempt u m dir) ≡ n
    by false is = rw is refl
    by true is = absurd (let clash : true ≡ false = sym calm ∙ ap not is in cc)
attempt_by_same t n (log.Join u m) calm = refl
attempt_by_same t n (log.Vote u ops) calm = refl
attempt_by_same t n (log.Decision u dir) calm = refl
attempt_by_same t n (log.Birth format site weights rows) calm = refl
attempt_by_same t n (log.Inc inc) calm = refl

pub attempt_on : (t : Txn) (n : ℕ) (rs : List Record) → list_all (is_calm_of t) rs ≡ true → fold (last_attempt_by t) n rs ≡ n
attempt_on t n [] all = refl
attempt_on t n (r ∷ rs) all =
    let p = and_parts (is_calm_of t r) (list_all (is_calm_of t) rs) all in
    ap (λ k. fold (last_attempt_by t) k rs) (attempt_by_same t n r p.0) ∙ attempt_on t n rs p.1

pub attempt_same : (t : Txn) (l rs : List Record) → list_all (is_calm_of t) rs ≡ true → last_attempt t (l ++ rs) ≡ last_attempt t l
attempt_same t l rs all = fold-append (last_attempt_by t) 0 l rs ∙ attempt_on t (last_attempt t l) rs all

-- without a decision it stays undecided
decision_by_same : (t : Txn) (was : Option Dir) (r : Record) → is_decision t r ≡ false → decision_by t was r ≡ was
decision_by_same t was (log.Decision u dir) none = rw none refl
decision_by_same t was (log.Join u m) none = refl
decision_by_same t was (log.Attempt u m dir) none = refl
decision_by_same t was (log.Vote u ops) none = refl
decision_by_same t was (log.Birth format site weights rows) none = refl
decision_by_same t was (log.Inc inc) none = refl

decision_on : (t : Txn) (was : Option Dir) (rs : List Record) → list_any (is_decision t) rs ≡ false → fold (decision_by t) was rs ≡ was
decision_on t was [] none = refl
decision_on t was (r ∷ rs) none =
    let p = or_parts (is_decision t r) (list_any (is_decision t) rs) none in
    ap (λ (k : Option Dir). fold (decision_by t) k rs) (decision_by_same t was r p.0) ∙ decision_on t was rs p.1

pub open_same : (t : Txn) (l rs : List Record) → list_any (is_decision t) rs ≡ false → is_undecided t (l ++ rs) ≡ is_undecided t l
open_same t l rs none = ap is_none (fold-append (decision_by t) None l rs ∙ decision_on t (decision t l) rs none)

-- some site reports that it has decided
abbrev pub HasFinal : List SiteReport → Type 0
HasFinal reports = (reports_state A reports ≡ true) ⊎ (reports_state C reports ≡ true)

-- one of the steps took the number's attempt that another site asked for
pub record TookPre (t : Txn) (n : ℕ) (steps : List Moment) : Type 0 where
  pub step : Moment
  pub made : IsIn step steps
  pub packet : Packet
  pub taken : step.input ≡ input.Deliver packet
  pub dir : Dir
  pub says : packet.msg ≡ msg.Pre t n dir

-- what holds of the election's number
pub record Led (t : Txn) (life : Life) (reports : List SiteReport) (n : ℕ) : Type 0 where
  pub some : 2 ≤ n
  pub joined : last_elected t life.log ≡ n
  pub state : (is_undecided t life.log ≡ true) ⊎ HasFinal reports
  pub fresh : (last_attempt t life.log < n) ⊎ TookPre t n life.steps

-- a step that is made, and the life behind it
abbrev pub moment_of : At → Made → Moment
moment_of a made = record { before = a.life.log; input = a.input; records = made.records; outs = map unnumbered made.outs; told = made.told }

abbrev pub behind_step : At → Made → Life
behind_step a made = record { log = a.life.log ++ made.records; inc = a.life.inc; steps = a.life.steps ++ moment_of a made ∷ [] }

pub no_decision : (t : Txn) (m : Moment) → ends_election t m ≡ false → list_any (is_decision t) m.records ≡ false
no_decision t m goes = (or_parts (list_any (is_decision t) m.records) (list_any (tells_verdict t) m.told) goes).0

-- a step that does not end the election, and joins none
pub grow_led : (t : Txn) (a : At) (made : Made) (reports : List SiteReport) (n : ℕ) → Led t a.life reports n → list_any (is_join t) made.records ≡ false →
    ends_election t (moment_of a made) ≡ false → (last_attempt t (a.life.log ++ made.records) ≡ last_attempt t a.life.log) ⊎ TookPre t n (behind_step a made).steps → Led t (behind_step a made) reports n
grow_led t a made reports n led none goes tries = record {
  some = led.some;
  joined = elected_same t a.life.log made.records none ∙ led.joined;
  state = elim led.state [ inl free ↦ inl (open_same t a.life.log made.records (no_decision t (moment_of a made) goes) ∙ free) | inr final ↦ inr final ];
  fresh = by tries led.fresh;
}
  where
    by : (last_attempt t (a.life.log ++ made.records) ≡ last_attempt t a.life.log) ⊎ TookPre t n (behind_step a made).steps → (last_attempt t a.life.log < n) ⊎ TookPre t n a.life.steps →
        (last_attempt t (a.life.log ++ made.records) < n) ⊎ TookPre t n (behind_step a made).steps
    by (inr took) was = inr took
    by (inl same) (inl low) = inl (subst (λ k. k < n) (sym same) low)
    by (inl same) (inr took) = inr (record { step = took.step; made = in_left took.step a.life.steps (moment_of a made ∷ []) took.made; packet = took.packet; taken = took.taken; dir = took.dir; says = took.says })

pub quiet_led : (t : Txn) (a : At) (made : Made) (reports : List SiteReport) (n : ℕ) → Quiet t made → ends_election t (moment_of a made) ≡ false → Led t a.life reports n → Led t (behind_step a made) reports n
quiet_led t a made reports n q goes led = grow_led t a made reports n led (no_joins t made.records q.records) goes (inl (attempt_same t a.life.log made.records q.records))

-- what there is behind a choice
pub cond_some : {X : Type 0} (b : Bool) (o : Option X) (x : X) → (if b then None else o) ≡ Some x → (b ≡ false) × (o ≡ Some x)
cond_some true o x is = cc
cond_some false o x is = (refl, is)

pub one_of : {X : Type 0} (x y : X) → Some x ≡ Some y → x ≡ y
one_of x y is = cc

-- the input leaves each election of the transaction as it was, or ends it
abbrev pub keeps_message : Txn → Message → Bool
keeps_message t (msg.LastElected u call number) = not (same_txn t u)
keeps_message t (msg.Report u n st attempt) = not (same_txn t u)
keeps_message t m = true

abbrev pub keeps_election : Txn → Input → Bool
keeps_election t (input.Elect u group) = not (same_txn t u)
keeps_election t (input.Deliver packet) = keeps_message t packet.msg
keeps_election t i = true

other_of : (b : Bool) → not b ≡ true → b ≡ false
other_of true is = cc
other_of false is = refl

with_kept : (site : ℕ) (t : Txn) (m : Moment) (was e : Election) (f : ℕ) (z : Message) → keeps_message t z ≡ true → election_with site t m was f z ≡ Some e → was ≡ e
with_kept site t m was e f (msg.LastElected u call number) keeps is =
    one_of was e (subst (λ b. (if b then heard_more site t m was (hear was f call number) else Some was) ≡ Some e) (other_of (same_txn t u) keeps) is)
with_kept site t m was e f (msg.Report u n st attempt) keeps is =
    one_of was e (subst (λ b. (if b then or_same was (take_report was n (record { site = f; state = st; attempt = attempt })) else Some was) ≡ Some e) (other_of (same_txn t u) keeps) is)
with_kept site t m was e f (msg.Elected u n) keeps is = one_of was e (cond_some (list_any (is_join t) m.records) (Some was) e is).1
with_kept site t m was e f (msg.Do u n op) keeps is = one_of was e is
with_kept site t m was e f (msg.Done u n inc answer) keeps is = one_of was e is
with_kept site t m was e f (msg.Died u n older) keeps is = one_of was e is
with_kept site t m was e f (msg.Ask u call) keeps is = one_of was e is
with_kept site t m was e f (msg.VoteReq u inc count) keeps is = one_of was e is
with_kept site t m was e f (msg.Vote u true) keeps is = one_of was e is
with_kept site t m was e f (msg.Vote u false) keeps is = one_of was e is
with_kept site t m was e f (msg.Pre u n dir) keeps is = one_of was e is
with_kept site t m was e f (msg.Ack u n dir) keeps is = one_of was e is
with_kept site t m was e f (msg.Decide u dir) keeps is = one_of was e is

-- what is in progress behind a step that took a packet
pub record Behind (site : ℕ) (t : Txn) (was : Elections) (m : Moment) (packet : Packet) (e : Election) : Type 0 where
  pub goes : ends_election t m ≡ false
  pub before : Election
  pub now : was.now ≡ Some before
  pub with : election_with site t m before packet.«from» packet.msg ≡ Some e

pub behind_packet : (site inc : ℕ) (t : Txn) (was : Elections) (m : Moment) (packet : Packet) (e : Election) → m.input ≡ input.Deliver packet → (election_by site inc t was m).now ≡ Some e → Behind site t was m packet e
behind_packet site inc t was m packet e is = by was.now refl
  where
    by : (o : Option Election) → was.now ≡ o → (election_by site inc t was m).now ≡ Some e → Behind site t was m packet e
    by None now = rw (is, now) (λ some. absurd (let none : None ≡ Some e = (cond_some (ends_election t m) None e some).1 in cc))
    by (Some before) now = rw (is, now) (λ some. (
        let p = cond_some _ _ e some in
        record { goes = p.0; before = before; now = refl; with = p.1 }))

pub kept_now : (site inc : ℕ) (t : Txn) (was : Elections) (m : Moment) (i : Input) (e : Election) → m.input ≡ i → keeps_election t i ≡ true → (election_by site inc t was m).now ≡ Some e →
    (ends_election t m ≡ false) × (was.now ≡ Some e)
kept_now site inc t was m (input.Begin sites) e is keeps = rw is (λ some. cond_some (ends_election t m) was.now e some)
kept_now site inc t was m (input.Do u op) e is keeps = rw is (λ some. cond_some (ends_election t m) was.now e some)
kept_now site inc t was m (input.Commit u) e is keeps = rw is (λ some. cond_some (ends_election t m) was.now e some)
kept_now site inc t was m (input.Cancel u) e is keeps = rw is (λ some. cond_some (ends_election t m) was.now e some)
kept_now site inc t was m (input.Expire u) e is keeps = rw is (λ some. cond_some (ends_election t m) was.now e some)
kept_now site inc t was m (input.Elect u group) e is keeps = rw (is, other_of (same_txn t u) keeps) (λ some. cond_some (ends_election t m) was.now e some)
kept_now site inc t was m (input.Deliver packet) e is keeps = λ some.
    let b = behind_packet site inc t was m packet e is some in
    (b.goes, b.now ∙ ap Some (with_kept site t m b.before e packet.«from» packet.msg keeps b.with))

-- what a report that counts leaves of the election
pub taken_is : (e : Election) (n : ℕ) (r : SiteReport) (x : Election) → take_report e n r ≡ Some x → (x.number ≡ e.number) × (x.reports ≡ e.reports ++ r ∷ [])
taken_is e n r x = by e.number refl
  where
    by : (o : Option ℕ) → e.number ≡ o → take_report e n r ≡ Some x → (x.number ≡ e.number) × (x.reports ≡ e.reports ++ r ∷ [])
    by None number = rw number (λ is. absurd (let none : None ≡ Some x = is in cc))
    by (Some k) number = rw number (choose (n == k && has_site e.group r.site && not (list_any (λ q. q.site == r.site) e.reports)))
      where
        choose : (b : Bool) → (if b then Some (record { call = e.call; group = e.group; heard = e.heard; number = Some k; reports = e.reports ++ r ∷ [] }) else None) ≡ Some x → (x.number ≡ Some k) × (x.reports ≡ e.reports ++ r ∷ [])
        choose true is = let same = one_of (record { call = e.call; group = e.group; heard = e.heard; number = Some k; reports = e.reports ++ r ∷ [] }) x is in (sym (ap (λ (z : Election). z.number) same), sym (ap (λ (z : Election). z.reports) same))
        choose false is = cc

pub heard_is : (e : Election) (f : ℕ) (call : Call) (number : ℕ) (x : Election) → hear e f call number ≡ Some x → (x.number ≡ e.number) × (x.reports ≡ e.reports)
heard_is e f call number x = by (same_call e.call call && has_site e.group f && not (list_any (λ h. h.site == f) e.heard))
  where
    by : (b : Bool) → (if b then Some (record e { heard = e.heard ++ record { site = f; elected = number } ∷ [] }) else None) ≡ Some x → (x.number ≡ e.number) × (x.reports ≡ e.reports)
    by true is = let same = one_of (record e { heard = e.heard ++ record { site = f; elected = number } ∷ [] }) x is in (sym (ap (λ (z : Election). z.number) same), sym (ap (λ (z : Election). z.reports) same))
    by false is = cc

pub final_more : (rs : List SiteReport) (r : SiteReport) → HasFinal rs → HasFinal (rs ++ r ∷ [])
final_more rs r (inl is) = inl (list_any-append (λ q. same_state q.state A) rs (r ∷ []) ∙ rw is refl)
final_more rs r (inr is) = inr (list_any-append (λ q. same_state q.state C) rs (r ∷ []) ∙ rw is refl)

-- the verdict is told
abbrev pub TellsVerdict : Txn → Made → Type 0
TellsVerdict t made = list_any (tells_verdict t) made.told ≡ true

tells_on : (t : Txn) (es more : List Told) → list_any (tells_verdict t) es ≡ true → list_any (tells_verdict t) (es ++ more) ≡ true
tells_on t es more is = list_any-append (tells_verdict t) es more ∙ rw is refl

tells_kept : (a : At) (t : Txn) → Preserves a AnyRecord AnyTold AnySent (TellsVerdict t)
tells_kept a t = record {
  records = λ r made any k. k;
  tells = λ e made any k. tells_on t made.told (e ∷ []) k;
  sends = λ to m made any k. sent to m made k (to == a.site) refl;
}
  where
    sent : (to : ℕ) (m : Message) (made : Made) → TellsVerdict t made → (b : Bool) → (to == a.site) ≡ b → TellsVerdict t (and_send a to m made)
    sent to m made k true is = rw is k
    sent to m made k false is = rw is k

pub verdict_told : (a : At) (t : Txn) (n : ℕ) (group : List ℕ) (reports : List SiteReport) (made : Made) → TellsVerdict t (and_verdict a t n group reports made)
verdict_told a t n group reports made = by (verdict_of a.weights t.sites reports) refl
  where
    said : (v : Verdict) → TellsVerdict t (and_tell (told.Verdict t n v) made)
    said v = list_any-append (tells_verdict t) made.told (told.Verdict t n v ∷ []) ∙ last (list_any (tells_verdict t) made.told)
      where
        last : (b : Bool) → (b || (same_txn t t || false)) ≡ true
        last true = refl
        last false = rw (same_self t) refl

    casts : (m : Message) → Casts a AnySent m group
    casts m = each-of (λ s. (s == a.site) ≡ false → AnySent s m) (λ s apart. tt) group

    decided : (dir : Dir) (more : Made) → TellsVerdict t more → TellsVerdict t (and_cast a group (msg.Decide t dir) (if may_decide a t dir more then and_decide a t dir more else more))
    decided dir more kept = keep_cast (tells_kept a t) group (msg.Decide t dir) _ (casts (msg.Decide t dir)) (keep_may (tells_kept a t) t dir more (allows a t) kept)

    tried : (dir : Dir) (more : Made) → TellsVerdict t more → TellsVerdict t (and_attempt a t n dir group more)
    tried dir more kept = keep_attempt (tells_kept a t) t n dir group more (allows a t) (casts (msg.Decide t dir)) (casts (msg.Pre t n dir)) kept

    by : (v : Verdict) → verdict_of a.weights t.sites reports ≡ v → TellsVerdict t (and_verdict a t n group reports made)
    by verdict.Abort is = rw is (decided Abort _ (said verdict.Abort))
    by verdict.Commit is = rw is (decided Commit _ (said verdict.Commit))
    by verdict.PreCommit is = rw is (tried Commit _ (said verdict.PreCommit))
    by verdict.PreAbort is = rw is (tried Abort _ (said verdict.PreAbort))
    by (verdict.Block have total) is = rw is (said (verdict.Block have total))

-- a step that tells the verdict ends the election
pub verdict_ends : (t : Txn) (a : At) (made now : Made) → TellsVerdict t made → Adds made now → ends_election t (moment_of a now) ≡ true
verdict_ends t a made now tells k = by (list_any (is_decision t) now.records) (subst (λ es. list_any (tells_verdict t) es ≡ true) (sym k.told) (tells_on t made.told k.events tells))
  where
    by : (b : Bool) → list_any (tells_verdict t) now.told ≡ true → (b || list_any (tells_verdict t) now.told) ≡ true
    by true is = refl
    by false is = is

-- with the step's own records as with the log, where it made none
pub now_is : (a : At) (t : Txn) (made : Made) → made.records ≡ [] → (elected_now a t made ≡ last_elected t a.life.log) × (attempt_now a t made ≡ last_attempt t a.life.log) × (open_now a t made ≡ is_undecided t a.life.log)
now_is a t made none =
    let bare : log_now a made ≡ a.life.log = ap (λ rs. a.life.log ++ rs) none ∙ append-nil a.life.log in
    (ap (last_elected t) bare, ap (last_attempt t) bare, ap (is_undecided t) bare)

-- no more was attempted than joined
pub below_elected : (h : Here) → Stands h → (1 ≤ last_elected h.txn h.at.life.log) × (last_attempt h.txn h.at.life.log ≤ last_elected h.txn h.at.life.log)
below_elected h s =
    let some = elected_some (own_log h) in
    let most = attempt-elected (own_log h) (s.kept.orderly h.at.site) in
    let r = s.reads in
    (omega (arith, some, r.elects), omega (arith, most, r.elects, r.attempts))

-- a site that is decided reports it
pub decided_final : (t : Txn) (rs : List Record) (site attempt : ℕ) → is_undecided t rs ≡ false → HasFinal (record { site = site; state = state_of t rs; attempt = attempt } ∷ [])
decided_final t rs site attempt shut = by (decision t rs) refl
  where
    by : (d : Option Dir) → decision t rs ≡ d → HasFinal (record { site = site; state = state_of t rs; attempt = attempt } ∷ [])
    by None is = absurd (let free : is_undecided t rs ≡ true = ap is_none is in cc)
    by (Some Commit) is = inr (rw is refl)
    by (Some Abort) is = inl (rw is refl)
