-- A step keeps what holds of the number of an election in progress.
use Rattle.std.proofs.Common.{◌≡◌, ◌⊎◌, inl, inr, ◌==◌, ◌&&◌, ◌∷◌, ◌++◌, [], ◌≤◌, ℕ, suc, Bool, true, false, List, Option, Some, None, refl, ap, sym, subst, ◌∙◌, arith, if◌then◌else◌, fold, max, nat_lt, nat_le, eqb-true}
use Rattle.std.specs.Prelude.{not}
use Rattle.std.specs.List.{list_all, list_any}
use Rattle.std.proofs.lemmas.Bool.{and_parts, leb-true, false_from_ne_true}
use Rattle.std.proofs.lemmas.List.Folds.{list_any-append}
use Rattle.std.proofs.lemmas.List.Sums.{fold-append}
use Rattle.e3_types.specs.declared.entries.Input.{Input}
use Rattle.e3_types.specs.declared.entries.Input.TheVariants as input
use Rattle.e3_types.specs.declared.messages.Message.{Message}
use Rattle.e3_types.specs.declared.messages.Message.TheVariants as msg
use Rattle.e3_types.specs.declared.messages.Packet.{Packet}
use Rattle.e3_types.specs.declared.records.Record.{Record}
use Rattle.e3_types.specs.declared.records.Record.TheVariants as log
use Rattle.e3_types.specs.declared.transactions.Call.{Call}
use Rattle.e3_types.specs.declared.transactions.Dir.{Dir}
use Rattle.e3_types.specs.declared.transactions.State.{State}
use Rattle.e3_types.specs.declared.transactions.Txn.{Txn}
use Rattle.e3_types.specs.declared.verdicts.SiteReport.{SiteReport}
use Rattle.e3_types.specs.Same.{same_txn}
use Rattle.e3_types.specs.Sets.{others}
use Rattle.e3_world.specs.declared.lives.At.{At}
use Rattle.e3_world.specs.declared.lives.Made.{Made}
use Rattle.e3_world.specs.declared.lives.Moment.{Moment}
use Rattle.e3_world.specs.AttemptRules.{on_pre}
use Rattle.e3_world.specs.ElectionRules.{and_join, and_verdict, on_elected, on_last, on_report}
use Rattle.e3_world.specs.Elections.{all_heard, all_reported, after_heard, begun, ends_election, election_by, election_in_progress, election_with, greatest_heard, hear, heard_more, is_join, joined_in, next_call, or_same, take_report}
use Rattle.e3_world.specs.Gatherings.{Election, Elections}
use Rattle.e3_world.specs.Logs.{is_undecided, last_attempt, last_attempt_by, last_elected, last_elected_by, state_of}
use Rattle.e3_world.specs.Making.{nothing, open_now, elected_now, attempt_now, state_now, and_record, and_send, and_cast}
use Rattle.e3_world.specs.Steps.{on_input, step_at}
use Rattle.e3_laws.specs.agreement.Rows.{Here, MayTake, Stands}
use Rattle.e3_laws.proofs.agreement.Guarding.Calm.{Adds, is_plain, is_plain_message, start}
use Rattle.e3_laws.proofs.agreement.Guarding.Quiet.{Quiet, IsOther, is_calm_of, calm_all, quiet_more, quiet_start, quiet_other, quiet_plain, quiet_commit, quiet_yes, quiet_step, step_adds}
use Rattle.e3_laws.proofs.agreement.Refinement.Elections.{cast_records}
use Rattle.e3_laws.proofs.agreement.Refinement.Lists.{in_right}
use Rattle.e3_laws.proofs.steps.Rules.{behind_join}
use Rattle.e3_laws.proofs.steps.Tests.{same_is, same_self}
use Rattle.e3_world.specs.Messages.{on_message}
use Rattle.e3_world.specs.Sound.{txn_in}
use Rattle.e3_laws.proofs.agreement.Guarding.Calm.{adds_cast}
use Rattle.e3_laws.proofs.agreement.Guarding.Leading.{HasFinal, TookPre, Led, moment_of, behind_step, Behind, keeps_election, keeps_message, no_joins, joined_none, elected_on, attempt_on, open_same, no_decision, quiet_led, grow_led, one_of, cond_some, behind_packet, kept_now, taken_is, heard_is, final_more, verdict_told, verdict_ends, now_is, below_elected, decided_final}

-- the whole group was heard: the site joins the number, unless the step ends the election
pub join_led : (h : Here) (made : Made) (x : Election) (n : ℕ) → Stands h → MayTake h.at.site h.at.input → made.records ≡ [] → on_input h.at h.at.input nothing ≡ and_join h.at h.txn x made →
    joined_in h.txn (step_at h.at).records ≡ Some n → ends_election h.txn (moment_of h.at (step_at h.at)) ≡ false →
    Led h.txn (behind_step h.at (step_at h.at)) (record { site = h.at.site; state = state_of h.txn h.at.life.log; attempt = last_attempt h.txn h.at.life.log } ∷ []) n
join_led h made x n s fits bare makes joins goes = by (all_heard x && nat_lt (greatest_heard x) 4294967295 && nat_le (elected_now a t made) (greatest_heard x)) refl
  where
    a : At
    a = h.at

    t : Txn
    t = h.txn

    now : Made
    now = step_at h.at

    top : ℕ
    top = suc (greatest_heard x)

    Goal : Type 0
    Goal = Led h.txn (behind_step h.at (step_at h.at)) (record { site = h.at.site; state = state_of h.txn h.at.life.log; attempt = last_attempt h.txn h.at.life.log } ∷ []) n

    report : SiteReport
    report = record { site = a.site; state = state_now a t made; attempt = attempt_now a t made }

    called : Made
    called = and_cast a x.group (msg.Elected t top) (and_record (log.Join t top) made)

    idle : and_join a t x made ≡ made → Goal
    idle is = absurd (
        let k : Adds made now = step_adds h made s fits (makes ∙ is) in
        let more : now.records ≡ k.more = k.records ∙ ap (λ rs. rs ++ k.more) bare in
        let none : joined_in t now.records ≡ None = ap (joined_in t) more ∙ joined_none t k.more (no_joins t k.more (calm_all t k.more k.calm)) in
        let clash : None ≡ Some n = sym none ∙ joins in
        cc)

    joined : nat_le (elected_now a t made) (greatest_heard x) ≡ true → and_join a t x made ≡ called → Goal
    joined low is =
        let k : Adds called now = step_adds h called s fits (makes ∙ is) in
        let calm : list_all (is_calm_of t) k.more ≡ true = calm_all t k.more k.calm in
        let first : called.records ≡ log.Join t top ∷ [] = cast_records a x.group (msg.Elected t top) (and_record (log.Join t top) made) ∙ ap (λ rs. rs ++ log.Join t top ∷ []) bare in
        let all : now.records ≡ log.Join t top ∷ k.more = k.records ∙ ap (λ rs. rs ++ k.more) first in
        let number : Some top ≡ Some n = sym (ap (joined_in t) all ∙ found k.more) ∙ joins in
        let same : top ≡ n = one_of_numbers top n number in
        let most : elected_now a t made ≤ greatest_heard x = leb-true (elected_now a t made) (greatest_heard x) low in
        let was = now_is a t made bare in
        let bound = below_elected h s in
        let after : last_elected t (a.life.log ++ now.records) ≡ max (last_elected t a.life.log) top =
        ap (λ rs. last_elected t (a.life.log ++ rs)) all ∙ fold-append (last_elected_by t) 1 a.life.log (log.Join t top ∷ k.more) ∙ higher (last_elected t a.life.log) k.more (no_joins t k.more calm) in
        let tried : last_attempt t (a.life.log ++ now.records) ≡ last_attempt t a.life.log =
        ap (λ rs. last_attempt t (a.life.log ++ rs)) all ∙ fold-append (last_attempt_by t) 0 a.life.log (log.Join t top ∷ k.more) ∙ attempt_on t (last_attempt t a.life.log) k.more calm in
        record {
          some = omega (arith, same, most, was.0, bound.0);
          joined = omega (arith, after, same, most, was.0);
          state = free (is_undecided t a.life.log) refl;
          fresh = inl (omega (arith, tried, same, most, was.0, bound.1));
        }
      where
        one_of_numbers : (p q : ℕ) → Some p ≡ Some q → p ≡ q
        one_of_numbers p q is = cc

        found : (rs : List Record) → joined_in t (log.Join t top ∷ rs) ≡ Some top
        found rs = rw (same_self t) refl

        higher : (k : ℕ) (rs : List Record) → list_any (is_join t) rs ≡ false → fold (last_elected_by t) k (log.Join t top ∷ rs) ≡ max k top
        higher k rs none = ap (λ z. fold (last_elected_by t) z rs) (let one : last_elected_by t k (log.Join t top) ≡ max k top = rw (same_self t) refl in one) ∙ elected_on t (max k top) rs none

        free : (b : Bool) → is_undecided t a.life.log ≡ b →
            (is_undecided t (a.life.log ++ now.records) ≡ true) ⊎ HasFinal (record { site = a.site; state = state_of t a.life.log; attempt = last_attempt t a.life.log } ∷ [])
        free true open_yet = inl (open_same t a.life.log now.records (no_decision t (moment_of a now) goes) ∙ open_yet)
        free false shut = inr (decided_final t a.life.log a.site (last_attempt t a.life.log) shut)

    alone : (l : List ℕ) → others a.site x.group ≡ l → nat_le (elected_now a t made) (greatest_heard x) ≡ true → and_join a t x made ≡ behind_join a t top x report l called → Goal
    alone [] none low is = absurd (
        let k : Adds (and_verdict a t top x.group (report ∷ []) called) now = step_adds h (and_verdict a t top x.group (report ∷ []) called) s fits (makes ∙ is) in
        let over : ends_election t (moment_of a now) ≡ true = verdict_ends t a (and_verdict a t top x.group (report ∷ []) called) now (verdict_told a t top x.group (report ∷ []) called) k in
        let clash : true ≡ false = sym over ∙ goes in
        cc)
    alone (y ∷ ys) some low is = joined low is

    by : (b : Bool) → (all_heard x && nat_lt (greatest_heard x) 4294967295 && nat_le (elected_now a t made) (greatest_heard x)) ≡ b → Goal
    by true test =
        alone (others a.site x.group) refl (and_parts (all_heard x && nat_lt (greatest_heard x) 4294967295) (nat_le (elected_now a t made) (greatest_heard x)) test).1
        (let is : and_join a t x made ≡ behind_join a t top x report (others a.site x.group) called = rw test refl in is)
    by false test = idle (let is : and_join a t x made ≡ made = rw test refl in is)

-- what is to be shown of the election behind the step
abbrev Keeps : Here → Elections → Election → ℕ → Type 0
Keeps h was e n =
    (election_by h.at.site h.at.life.inc h.txn was (moment_of h.at (step_at h.at))).now ≡ Some e → e.number ≡ Some n → Led h.txn (behind_step h.at (step_at h.at)) e.reports n

-- what was known of it before
abbrev pub Knows : Here → Elections → Type 0
Knows h was = (e : Election) (n : ℕ) → was.now ≡ Some e → e.number ≡ Some n → Led h.txn h.at.life e.reports n

-- a step that is calm, whose input leaves the election
calm_led : (h : Here) (was : Elections) (i : Input) (e : Election) (n : ℕ) → Knows h was → h.at.input ≡ i → keeps_election h.txn i ≡ true → Quiet h.txn (step_at h.at) → Keeps h was e n
calm_led h was i e n led is keeps q some number =
    let p = kept_now h.at.site h.at.life.inc h.txn was (moment_of h.at (step_at h.at)) i e is keeps some in
    quiet_led h.txn h.at (step_at h.at) e.reports n q p.0 (led e n p.1 number)

-- an input of another transaction
other_led : (h : Here) (was : Elections) (i : Input) (e : Election) (n : ℕ) → Stands h → MayTake h.at.site h.at.input → Knows h was → h.at.input ≡ i → is_plain i ≡ false → IsOther h.txn i →
    keeps_election h.txn i ≡ true → Keeps h was e n
other_led h was i e n s fits led is plain other keeps =
    calm_led h was i e n led is keeps (quiet_step h (on_input h.at i nothing) s fits (ap (λ z. on_input h.at z nothing) is) (quiet_other h.at h.txn i plain other))

-- a number of an election is above 1, so the site joined one
late_by : (h : Here) (was : Elections) (e : Election) (n : ℕ) → Knows h was → was.now ≡ Some e → e.number ≡ Some n → (elected_now h.at h.txn nothing == 1) ≡ false
late_by h was e n led some number =
    false_from_ne_true (elected_now h.at h.txn nothing == 1) (λ q. (
    let one : elected_now h.at h.txn nothing ≡ 1 = eqb-true (elected_now h.at h.txn nothing) 1 q in
    let k = led e n some number in
    let same = (now_is h.at h.txn nothing refl).0 in
    absurd (omega (arith, one, k.some, k.joined, same))))

commit_led : (h : Here) (was : Elections) (e : Election) (n : ℕ) → Stands h → MayTake h.at.site h.at.input → Knows h was → h.at.input ≡ input.Commit h.txn → Keeps h was e n
commit_led h was e n s fits led is some number =
    let p = kept_now h.at.site h.at.life.inc h.txn was (moment_of h.at (step_at h.at)) (input.Commit h.txn) e is refl some in
    calm_led h was (input.Commit h.txn) e n led is refl (quiet_commit h s fits is (late_by h was e n led p.1 number)) some number

yes_led : (h : Here) (was : Elections) (packet : Packet) (e : Election) (n : ℕ) → Stands h → MayTake h.at.site h.at.input → Knows h was → h.at.input ≡ input.Deliver packet →
    packet.msg ≡ msg.Vote h.txn true → Keeps h was e n
yes_led h was packet e n s fits led is says some number =
    let keeps : keeps_election h.txn (input.Deliver packet) ≡ true = ap (keeps_message h.txn) says in
    let p = kept_now h.at.site h.at.life.inc h.txn was (moment_of h.at (step_at h.at)) (input.Deliver packet) e is keeps some in
    calm_led h was (input.Deliver packet) e n led is keeps (quiet_yes h packet s fits is says (late_by h was e n led p.1 number)) some number

-- the message that is taken
took_message : (h : Here) (packet : Packet) (m : Message) → h.at.input ≡ input.Deliver packet → packet.msg ≡ m → on_input h.at h.at.input nothing ≡ on_message h.at packet.«from» m nothing
took_message h packet m is says = ap (λ i. on_input h.at i nothing) is ∙ ap (λ z. on_message h.at packet.«from» z nothing) says

send_records : (a : At) (to : ℕ) (m : Message) (made : Made) → (and_send a to m made).records ≡ made.records
send_records a to m made = by (to == a.site) refl
  where
    by : (b : Bool) → (to == a.site) ≡ b → (and_send a to m made).records ≡ made.records
    by true is = rw is refl
    by false is = rw is refl

-- another site asks for an attempt of the number
pre_led : (h : Here) (was : Elections) (packet : Packet) (k : ℕ) (dir : Dir) (e : Election) (n : ℕ) → Stands h → MayTake h.at.site h.at.input → Knows h was → h.at.input ≡ input.Deliver packet →
    packet.msg ≡ msg.Pre h.txn k dir → Keeps h was e n
pre_led h was packet k dir e n s fits led is says some number = by (open_now a t nothing && elected_now a t nothing == k) refl
  where
    a : At
    a = h.at

    t : Txn
    t = h.txn

    now : Made
    now = step_at a

    f : ℕ
    f = packet.«from»

    keeps : keeps_election t (input.Deliver packet) ≡ true
    keeps = ap (keeps_message t) says

    p : (ends_election t (moment_of a now) ≡ false) × (was.now ≡ Some e)
    p = kept_now a.site a.life.inc t was (moment_of a now) (input.Deliver packet) e is keeps some

    before : Led t a.life e.reports n
    before = led e n p.1 number

    takes : on_input a a.input nothing ≡ on_pre a f t k dir nothing
    takes = took_message h packet (msg.Pre t k dir) is says

    -- it may attempt: without a join, as it was asked to
    joins_none : (made : Made) → on_pre a f t k dir nothing ≡ made → list_any (is_join t) made.records ≡ false → list_any (is_join t) now.records ≡ false
    joins_none made same none =
        let x : Adds made now = step_adds h made s fits (takes ∙ same) in
        ap (list_any (is_join t)) x.records ∙ list_any-append (is_join t) made.records x.more ∙ rw (none, no_joins t x.more (calm_all t x.more x.calm)) refl

    tries : (b : Bool) → (attempt_now a t nothing == k) ≡ b → list_any (is_join t) (if b then nothing else and_record (log.Attempt t k dir) nothing).records ≡ false
    tries true same = refl
    tries false same = refl

    asked : k ≡ n → TookPre t n (behind_step a now).steps
    asked same = record {
      step = moment_of a now;
      made = in_right (moment_of a now) a.life.steps (moment_of a now ∷ []) (inl refl);
      packet = packet;
      taken = is;
      dir = dir;
      says = says ∙ ap (λ z. msg.Pre t z dir) same;
    }

    by : (b : Bool) → (open_now a t nothing && elected_now a t nothing == k) ≡ b → Led t (behind_step a now) e.reports n
    by true test =
        let q = and_parts (open_now a t nothing) (elected_now a t nothing == k) test in
        let joined : elected_now a t nothing ≡ k = eqb-true (elected_now a t nothing) k q.1 in
        let same : k ≡ n = sym joined ∙ (now_is a t nothing refl).0 ∙ before.joined in
        let tried : Made = if attempt_now a t nothing == k then nothing else and_record (log.Attempt t k dir) nothing in
        let made : on_pre a f t k dir nothing ≡ and_send a f (msg.Ack t k dir) tried = rw test refl in
        let none : list_any (is_join t) (and_send a f (msg.Ack t k dir) tried).records ≡ false = ap (list_any (is_join t)) (send_records a f (msg.Ack t k dir) tried) ∙ tries (attempt_now a t nothing == k) refl in
        grow_led t a now e.reports n before (joins_none (and_send a f (msg.Ack t k dir) tried) made none) p.0 (inr (asked same))
    by false test =
        let made : on_pre a f t k dir nothing ≡ nothing = rw test refl in
        quiet_led t a now e.reports n (quiet_step h nothing s fits (takes ∙ made) (quiet_start t)) p.0 before

-- another site's number
elected_led : (h : Here) (was : Elections) (packet : Packet) (k : ℕ) (e : Election) (n : ℕ) → Stands h → MayTake h.at.site h.at.input → Knows h was → h.at.input ≡ input.Deliver packet →
    packet.msg ≡ msg.Elected h.txn k → Keeps h was e n
elected_led h was packet k e n s fits led is says some number = by (nat_lt (elected_now a t nothing) k) refl
  where
    a : At
    a = h.at

    t : Txn
    t = h.txn

    now : Made
    now = step_at a

    f : ℕ
    f = packet.«from»

    b : Behind a.site t was (moment_of a now) packet e
    b = behind_packet a.site a.life.inc t was (moment_of a now) packet e is some

    after : (list_any (is_join t) now.records ≡ false) × (Some b.before ≡ Some e)
    after = cond_some (list_any (is_join t) now.records) (Some b.before) e (subst (λ z. election_with a.site t (moment_of a now) b.before f z ≡ Some e) says b.with)

    takes : on_input a a.input nothing ≡ on_elected a f t k nothing
    takes = took_message h packet (msg.Elected t k) is says

    by : (c : Bool) → nat_lt (elected_now a t nothing) k ≡ c → Led t (behind_step a now) e.reports n
    by true test = absurd (
        let made : Made = and_send a f (msg.Report t k (state_now a t nothing) (attempt_now a t nothing)) (and_record (log.Join t k) nothing) in
        let same : on_elected a f t k nothing ≡ made = rw test refl in
        let x : Adds made now = step_adds h made s fits (takes ∙ same) in
        let all : now.records ≡ log.Join t k ∷ x.more = x.records ∙ ap (λ rs. rs ++ x.more) (send_records a f (msg.Report t k (state_now a t nothing) (attempt_now a t nothing)) (and_record (log.Join t k) nothing)) in
        let has : list_any (is_join t) now.records ≡ true = ap (list_any (is_join t)) all ∙ rw (same_self t) refl in
        let clash : true ≡ false = sym has ∙ after.0 in
        cc)
    by false test =
        let made : on_elected a f t k nothing ≡ nothing = rw test refl in
        quiet_led t a now e.reports n (quiet_step h nothing s fits (takes ∙ made) (quiet_start t)) b.goes (led e n (b.now ∙ after.1) number)

-- a report
report_led : (h : Here) (was : Elections) (packet : Packet) (k : ℕ) (st : State) (attempt : ℕ) (e : Election) (n : ℕ) → Stands h → MayTake h.at.site h.at.input →
    election_in_progress h.at.site h.at.life.inc h.txn h.at.life.steps ≡ was.now → Knows h was → h.at.input ≡ input.Deliver packet → packet.msg ≡ msg.Report h.txn k st attempt → Keeps h was e n
report_led h was packet k st attempt e n s fits inprog led is says some number = by (take_report b.before k r) refl
  where
    a : At
    a = h.at

    t : Txn
    t = h.txn

    now : Made
    now = step_at a

    r : SiteReport
    r = record { site = packet.«from»; state = st; attempt = attempt }

    b : Behind a.site t was (moment_of a now) packet e
    b = behind_packet a.site a.life.inc t was (moment_of a now) packet e is some

    after : or_same b.before (take_report b.before k r) ≡ Some e
    after =
        subst (λ c. (if c then or_same b.before (take_report b.before k r) else Some b.before) ≡ Some e) (same_self t)
        (subst (λ z. election_with a.site t (moment_of a now) b.before packet.«from» z ≡ Some e) says b.with)

    here : election_in_progress a.site a.life.inc t a.life.steps ≡ Some b.before
    here = inprog ∙ b.now

    takes : on_input a a.input nothing ≡ on_report a t k r nothing
    takes = took_message h packet (msg.Report t k st attempt) is says

    idle : on_report a t k r nothing ≡ nothing → Quiet t now
    idle same = quiet_step h nothing s fits (takes ∙ same) (quiet_start t)

    more : (x : Election) → take_report b.before k r ≡ Some x → e ≡ x → Led t a.life e.reports n
    more x took same =
        let f = taken_is b.before k r x took in
        let known : Led t a.life b.before.reports n = led b.before n b.now (sym f.0 ∙ sym (ap (λ (z : Election). z.number) same) ∙ number) in
        subst (λ z. Led t a.life z n) (sym f.1 ∙ sym (ap (λ (z : Election). z.reports) same)) (record {
          some = known.some;
          joined = known.joined;
          state = elim known.state [ inl free ↦ inl free | inr final ↦ inr (final_more b.before.reports r final) ];
          fresh = known.fresh;
        })

    counts : (x : Election) → take_report b.before k r ≡ Some x → e ≡ x → (c : Bool) → all_reported x ≡ c → Led t (behind_step a now) e.reports n
    counts x took same true all = absurd (
        let made : Made = and_verdict a t k x.group x.reports nothing in
        let is_made : on_report a t k r nothing ≡ made = rw (here, took) (let choice : (if all_reported x then and_verdict a t k x.group x.reports nothing else nothing) ≡ made = rw all refl in choice) in
        let y : Adds made now = step_adds h made s fits (takes ∙ is_made) in
        let over : ends_election t (moment_of a now) ≡ true = verdict_ends t a made now (verdict_told a t k x.group x.reports nothing) y in
        let clash : true ≡ false = sym over ∙ b.goes in
        cc)
    counts x took same false all =
        let is_made : on_report a t k r nothing ≡ nothing = rw (here, took) (let choice : (if all_reported x then and_verdict a t k x.group x.reports nothing else nothing) ≡ nothing = rw all refl in choice) in
        quiet_led t a now e.reports n (idle is_made) b.goes (more x took same)

    by : (o : Option Election) → take_report b.before k r ≡ o → Led t (behind_step a now) e.reports n
    by None took =
        let is_made : on_report a t k r nothing ≡ nothing = rw (here, took) refl in
        let same : b.before ≡ e = one_of b.before e (subst (λ o. or_same b.before o ≡ Some e) took after) in
        quiet_led t a now e.reports n (idle is_made) b.goes (led e n (b.now ∙ ap Some same) number)
    by (Some x) took =
        let same : x ≡ e = one_of x e (subst (λ o. or_same b.before o ≡ Some e) took after) in
        counts x took (sym same) (all_reported x) refl

-- the election behind an answer, or behind its begin
after_led : (h : Here) (made : Made) (x y : Election) (e : Election) (n : ℕ) → Stands h → MayTake h.at.site h.at.input → made.records ≡ [] → Quiet h.txn made →
    on_input h.at h.at.input nothing ≡ and_join h.at h.txn x made → all_heard y ≡ all_heard x → ends_election h.txn (moment_of h.at (step_at h.at)) ≡ false →
    after_heard h.at.site h.txn (moment_of h.at (step_at h.at)) y ≡ Some e → e.number ≡ Some n → (y.number ≡ Some n → Led h.txn h.at.life y.reports n) →
    Led h.txn (behind_step h.at (step_at h.at)) e.reports n
after_led h made x y e n s fits bare q makes alike goes after number known = by (all_heard x) refl
  where
    a : At
    a = h.at

    t : Txn
    t = h.txn

    now : Made
    now = step_at a

    m : Moment
    m = moment_of a now

    own : List SiteReport
    own = record { site = a.site; state = state_of t a.life.log; attempt = last_attempt t a.life.log } ∷ []

    joins : (o : Option ℕ) → joined_in t now.records ≡ o → all_heard y ≡ true → Led t (behind_step a now) e.reports n
    joins None is all = absurd (
        let none : after_heard a.site t m y ≡ None = rw (all, is) refl in
        let clash : None ≡ Some e = sym none ∙ after in
        cc)
    joins (Some k) is all =
        let there : after_heard a.site t m y ≡ Some (record y { number = Some k; reports = own }) = rw (all, is) refl in
        let same : record y { number = Some k; reports = own } ≡ e = one_of (record y { number = Some k; reports = own }) e (sym there ∙ after) in
        let numbers : Some k ≡ Some n = ap (λ (z : Election). z.number) same ∙ number in
        subst (λ z. Led t (behind_step a now) z n) (ap (λ (z : Election). z.reports) same) (join_led h made x n s fits bare makes (is ∙ numbers) goes)

    by : (b : Bool) → all_heard x ≡ b → Led t (behind_step a now) e.reports n
    by true all = joins (joined_in t now.records) refl (alike ∙ all)
    by false all =
        let there : after_heard a.site t m y ≡ Some y = (let some : all_heard y ≡ false = alike ∙ all in rw some refl) in
        let same : y ≡ e = one_of y e (sym there ∙ after) in
        let idle : and_join a t x made ≡ made = rw all refl in
        quiet_led t a now e.reports n (quiet_step h made s fits (makes ∙ idle) q) goes
        (subst (λ (z : Election). Led t a.life z.reports n) same (known (ap (λ (z : Election). z.number) same ∙ number)))

-- an answer to a call
last_led : (h : Here) (was : Elections) (packet : Packet) (call : Call) (k : ℕ) (e : Election) (n : ℕ) → Stands h → MayTake h.at.site h.at.input →
    election_in_progress h.at.site h.at.life.inc h.txn h.at.life.steps ≡ was.now → Knows h was → h.at.input ≡ input.Deliver packet → packet.msg ≡ msg.LastElected h.txn call k → Keeps h was e n
last_led h was packet call k e n s fits inprog led is says some number = by (hear b.before packet.«from» call k) refl
  where
    a : At
    a = h.at

    t : Txn
    t = h.txn

    now : Made
    now = step_at a

    b : Behind a.site t was (moment_of a now) packet e
    b = behind_packet a.site a.life.inc t was (moment_of a now) packet e is some

    after : heard_more a.site t (moment_of a now) b.before (hear b.before packet.«from» call k) ≡ Some e
    after =
        subst (λ c. (if c then heard_more a.site t (moment_of a now) b.before (hear b.before packet.«from» call k) else Some b.before) ≡ Some e) (same_self t)
        (subst (λ z. election_with a.site t (moment_of a now) b.before packet.«from» z ≡ Some e) says b.with)

    here : election_in_progress a.site a.life.inc t a.life.steps ≡ Some b.before
    here = inprog ∙ b.now

    takes : on_input a a.input nothing ≡ on_last a packet.«from» t call k nothing
    takes = took_message h packet (msg.LastElected t call k) is says

    by : (o : Option Election) → hear b.before packet.«from» call k ≡ o → Led t (behind_step a now) e.reports n
    by None took =
        let is_made : on_last a packet.«from» t call k nothing ≡ nothing = rw (here, took) refl in
        let same : b.before ≡ e = one_of b.before e (subst (λ o. heard_more a.site t (moment_of a now) b.before o ≡ Some e) took after) in
        quiet_led t a now e.reports n (quiet_step h nothing s fits (takes ∙ is_made) (quiet_start t)) b.goes (led e n (b.now ∙ ap Some same) number)
    by (Some x) took =
        let is_made : on_last a packet.«from» t call k nothing ≡ and_join a t x nothing = rw (here, took) refl in
        let f = heard_is b.before packet.«from» call k x took in
        after_led h nothing x x e n s fits refl (quiet_start t) (takes ∙ is_made) refl b.goes (subst (λ o. heard_more a.site t (moment_of a now) b.before o ≡ Some e) took after) number
        (λ known. subst (λ z. Led t a.life z n) (sym f.1) (led b.before n b.now (sym f.0 ∙ known)))

-- a new election
elect_led : (h : Here) (was : Elections) (group : List ℕ) (e : Election) (n : ℕ) → Stands h → MayTake h.at.site h.at.input → h.at.input ≡ input.Elect h.txn group → Keeps h was e n
elect_led h was group e n s fits is some number =
    after_led h asked x y e n s fits (cast_records a group (msg.Ask t x.call) nothing)
    (quiet_more t nothing asked (quiet_start t) (adds_cast a nothing nothing group (msg.Ask t x.call) refl start))
    (ap (λ i. on_input a i nothing) is) refl goes.0 goes.1 number (λ none. absurd (let clash : None ≡ Some n = none in cc))
  where
    a : At
    a = h.at

    t : Txn
    t = h.txn

    now : Made
    now = step_at a

    m : Moment
    m = moment_of a now

    x : Election
    x = begun a.site (next_call a.life.inc a.life.steps) group (elected_now a t nothing)

    y : Election
    y = begun a.site (record { inc = a.life.inc; seq = suc was.calls }) group (last_elected t a.life.log)

    asked : Made
    asked = and_cast a group (msg.Ask t x.call) nothing

    after : (election_by a.site a.life.inc t was m).now ≡ (if ends_election t m then None else after_heard a.site t m y)
    after = rw is (rw (same_self t) refl)

    goes : (ends_election t m ≡ false) × (after_heard a.site t m y ≡ Some e)
    goes = cond_some (ends_election t m) (after_heard a.site t m y) e (sym after ∙ some)

-- whatever the site takes
pub step_led : (h : Here) (was : Elections) (e : Election) (n : ℕ) → Stands h → MayTake h.at.site h.at.input →
    election_in_progress h.at.site h.at.life.inc h.txn h.at.life.steps ≡ was.now → Knows h was → Keeps h was e n
step_led h was e n s fits inprog led = by h.at.input refl
  where
    t : Txn
    t = h.txn

    plain : (i : Input) → h.at.input ≡ i → is_plain i ≡ true → keeps_election t i ≡ true → Keeps h was e n
    plain i is none keeps = calm_led h was i e n led is keeps (quiet_plain h s fits (ap is_plain is ∙ none))

    other : (i : Input) → h.at.input ≡ i → is_plain i ≡ false → IsOther t i → keeps_election t i ≡ true → Keeps h was e n
    other i is tried apart keeps = other_led h was i e n s fits led is tried apart keeps

    keeps_if : (b : Bool) → b ≡ false → not b ≡ true
    keeps_if false is = refl
    keeps_if true is = cc

    commits : (u : Txn) → h.at.input ≡ input.Commit u → (b : Bool) → same_txn t u ≡ b → Keeps h was e n
    commits u is true same = commit_led h was e n s fits led (is ∙ ap input.Commit (sym (same_is t u same)))
    commits u is false apart = other (input.Commit u) is refl apart refl

    elects : (u : Txn) (group : List ℕ) → h.at.input ≡ input.Elect u group → (b : Bool) → same_txn t u ≡ b → Keeps h was e n
    elects u group is true same = elect_led h was group e n s fits (is ∙ ap (λ v. input.Elect v group) (sym (same_is t u same)))
    elects u group is false apart = other (input.Elect u group) is refl apart (keeps_if (same_txn t u) apart)

    message : (packet : Packet) → h.at.input ≡ input.Deliver packet → (z : Message) → packet.msg ≡ z → Keeps h was e n
    message packet is z says = of_message z says
      where
        calm : (z : Message) → packet.msg ≡ z → is_plain_message z ≡ true → keeps_message t z ≡ true → Keeps h was e n
        calm z says none keeps = plain (input.Deliver packet) is (ap is_plain_message says ∙ none) (ap (keeps_message t) says ∙ keeps)

        far : (z : Message) → packet.msg ≡ z → is_plain_message z ≡ false → same_txn t (txn_in z) ≡ false → keeps_message t z ≡ true → Keeps h was e n
        far z says tried apart keeps =
            other (input.Deliver packet) is (ap is_plain_message says ∙ tried) (ap (λ (w : Message). same_txn t (txn_in w)) says ∙ apart) (ap (keeps_message t) says ∙ keeps)

        pick : (u : Txn) (z : Message) → packet.msg ≡ z → is_plain_message z ≡ false → same_txn t (txn_in z) ≡ same_txn t u → (same_txn t u ≡ false → keeps_message t z ≡ true) → (same_txn t u ≡ true → Keeps h was e n) →
            (b : Bool) → same_txn t u ≡ b → Keeps h was e n
        pick u z says tried of keeps own true same = own same
        pick u z says tried of keeps own false apart = far z says tried (of ∙ apart) (keeps apart)

        of_message : (z : Message) → packet.msg ≡ z → Keeps h was e n
        of_message (msg.Do u k op) says = calm (msg.Do u k op) says refl refl
        of_message (msg.Done u k inc answer) says = calm (msg.Done u k inc answer) says refl refl
        of_message (msg.Died u k older) says = calm (msg.Died u k older) says refl refl
        of_message (msg.Ask u call) says = calm (msg.Ask u call) says refl refl
        of_message (msg.VoteReq u inc count) says = calm (msg.VoteReq u inc count) says refl refl
        of_message (msg.Vote u false) says = calm (msg.Vote u false) says refl refl
        of_message (msg.Ack u k dir) says = calm (msg.Ack u k dir) says refl refl
        of_message (msg.Decide u dir) says = calm (msg.Decide u dir) says refl refl
        of_message (msg.LastElected u call k) says =
            pick u (msg.LastElected u call k) says refl refl (λ apart. keeps_if (same_txn t u) apart)
            (λ same. last_led h was packet call k e n s fits inprog led is (says ∙ ap (λ v. msg.LastElected v call k) (sym (same_is t u same)))) (same_txn t u) refl
        of_message (msg.Elected u k) says =
            pick u (msg.Elected u k) says refl refl (λ apart. refl)
            (λ same. elected_led h was packet k e n s fits led is (says ∙ ap (λ v. msg.Elected v k) (sym (same_is t u same)))) (same_txn t u) refl
        of_message (msg.Report u k st attempt) says =
            pick u (msg.Report u k st attempt) says refl refl (λ apart. keeps_if (same_txn t u) apart)
            (λ same. report_led h was packet k st attempt e n s fits inprog led is (says ∙ ap (λ v. msg.Report v k st attempt) (sym (same_is t u same)))) (same_txn t u) refl
        of_message (msg.Vote u true) says =
            pick u (msg.Vote u true) says refl refl (λ apart. refl)
            (λ same. yes_led h was packet e n s fits led is (says ∙ ap (λ v. msg.Vote v true) (sym (same_is t u same)))) (same_txn t u) refl
        of_message (msg.Pre u k dir) says =
            pick u (msg.Pre u k dir) says refl refl (λ apart. refl)
            (λ same. pre_led h was packet k dir e n s fits led is (says ∙ ap (λ v. msg.Pre v k dir) (sym (same_is t u same)))) (same_txn t u) refl

    by : (i : Input) → h.at.input ≡ i → Keeps h was e n
    by (input.Begin sites) is = plain (input.Begin sites) is refl refl
    by (input.Do u op) is = plain (input.Do u op) is refl refl
    by (input.Cancel u) is = plain (input.Cancel u) is refl refl
    by (input.Expire u) is = plain (input.Expire u) is refl refl
    by (input.Commit u) is = commits u is (same_txn t u) refl
    by (input.Elect u group) is = elects u group is (same_txn t u) refl
    by (input.Deliver packet) is = message packet is packet.msg refl
