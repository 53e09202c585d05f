-- What an election in progress has gathered: its reports were made for it, and no site reports twice.
use Rattle.std.proofs.Common.{◌≡◌, ◌⊎◌, inl, inr, ◌∷◌, [], ◌++◌, ◌==◌, ◌&&◌, ◌||◌, ℕ, suc, Bool, true, false, List, fold, map, Option, Some, None, refl, sym, ap, subst, ◌∙◌, if◌then◌else◌, eqb-true}
use Rattle.std.specs.Prelude.{not}
use Rattle.std.specs.List.{list_any}
use Rattle.std.proofs.lemmas.Bool.{and_parts}
use Rattle.std.proofs.lemmas.List.{map-append}
use Rattle.e3_types.specs.declared.entries.Input.{Input}
use Rattle.e3_types.specs.declared.entries.Input.TheVariants as input
use Rattle.e3_types.specs.declared.messages.Message.{Message}
use Rattle.e3_types.specs.declared.messages.Message.TheVariants as msg
use Rattle.e3_types.specs.declared.messages.Packet.{Packet}
use Rattle.e3_types.specs.declared.transactions.Call.{Call}
use Rattle.e3_types.specs.declared.transactions.Txn.{Txn}
use Rattle.e3_types.specs.declared.verdicts.SiteReport.{SiteReport}
use Rattle.e3_types.specs.Same.{same_txn, same_call}
use Rattle.e3_types.specs.Sets.{has_site, is_within}
use Rattle.e3_world.specs.Gatherings.{Election, Elections}
use Rattle.e3_world.specs.declared.lives.Moment.{Moment}
use Rattle.e3_world.specs.Elections.{all_heard, begun, hear, take_report, joined_in, is_join, ends_election, after_heard, or_same, heard_more, election_with, election_by, election_in_progress}
use Rattle.e3_world.specs.Logs.{last_elected, last_attempt, state_of}
use Rattle.e3_laws.specs.agreement.Logs.{IsIn, Note, Join}
use Rattle.e3_laws.specs.agreement.Rules.{Report, Came, Replied, own_reply}
use Rattle.e3_laws.specs.agreement.Verdicts.{status_in, reply_of}
use Rattle.e3_laws.specs.agreement.Weights.{differ}
use Rattle.e3_laws.specs.agreement.Views.{words_of, leader_of}
use Rattle.e3_laws.specs.agreement.Rows.{Here, own_log, WasHeard, ElectFits, Left, Stands}
use Rattle.e3_laws.proofs.agreement.Refinement.Sites.{differ_push, within_push}
use Rattle.e3_laws.proofs.agreement.Refinement.Gatherings.{in_word}
use Rattle.e3_laws.proofs.steps.Tests.{same_is}
use Rattle.e3_laws.proofs.agreement.Protocol.Reached.{in_parts}

abbrev pub reporters : List SiteReport → List ℕ
reporters reports = map (λ r. r.site) reports

-- reports that were made in the election n of this site, by different sites of the group
pub record Reported (h : Here) (l : List Note) (group : List ℕ) (n : ℕ) (reports : List SiteReport) : Type 0 where
  pub joined : IsIn (Join n h.at.site) l
  pub replied : (r : SiteReport) → IsIn r reports → Replied h.before.sent l h.at.site n (reply_of r)
  pub apart : differ (reporters reports) ≡ true
  pub among : is_within (reporters reports) group ≡ true

-- what stands of an election
pub record ElectionStands (h : Here) (e : Election) : Type 0 where
  pub within : is_within e.group h.txn.sites ≡ true
  pub own : has_site e.group h.at.site ≡ true
  pub reports : (n : ℕ) → e.number ≡ Some n → Reported h (own_log h) e.group n e.reports

abbrev pub ElectionOk : Here → Option Election → Type 0
ElectionOk h None = Unit {0}
ElectionOk h (Some e) = ElectionStands h e

-- with a number
abbrev pub NumberedOk : Here → ℕ → Option Election → Type 0
NumberedOk h n None = Unit {0}
NumberedOk h n (Some e) = ElectionStands h e × (e.number ≡ Some n)

choice : (h : Here) (b : Bool) (x y : Option Election) → ElectionOk h x → ElectionOk h y → ElectionOk h (if b then x else y)
choice h true x y first second = first
choice h false x y first second = second

pub hear_ok : (h : Here) (e : Election) (f : ℕ) (call : Call) (elected : ℕ) → ElectionStands h e → ElectionOk h (hear e f call elected)
hear_ok h e f call elected ok =
    choice h (same_call e.call call && has_site e.group f && not (list_any (λ x. x.site == f) e.heard)) (Some (record e { heard = e.heard ++ record { site = f; elected = elected } ∷ [] })) None
    (record { within = ok.within; own = ok.own; reports = ok.reports }) tt

has_reporter : (f : ℕ) (rs : List SiteReport) → has_site (reporters rs) f ≡ list_any (λ r. r.site == f) rs
has_reporter f [] = refl
has_reporter f (r ∷ rs) = ap (λ b. (r.site == f) || b) (has_reporter f rs)

-- a report more
pub report_ok : (h : Here) (l : List Note) (group : List ℕ) (n : ℕ) (rs : List SiteReport) (r : SiteReport) → Reported h l group n rs
    → Came h.before.sent r.site h.at.site (Report n (status_in r.state) r.attempt) → has_site group r.site ≡ true → not (list_any (λ q. q.site == r.site) rs) ≡ true
    → Reported h l group n (rs ++ r ∷ [])
report_ok h l group n rs r ok came member fresh = record {
  joined = ok.joined;
  replied = λ q k. each q (in_parts q rs (r ∷ []) k);
  apart = subst (λ z. differ z ≡ true) (sym sites) (differ_push (reporters rs) r.site ok.apart (ap not (has_reporter r.site rs) ∙ fresh));
  among = subst (λ z. is_within z group ≡ true) (sym sites) (within_push (reporters rs) group r.site ok.among member);
}
  where
    sites : reporters (rs ++ r ∷ []) ≡ reporters rs ++ r.site ∷ []
    sites = map-append (λ (q : SiteReport). q.site) rs (r ∷ [])

    each : (q : SiteReport) → IsIn q rs ⊎ IsIn q (r ∷ []) → Replied h.before.sent l h.at.site n (reply_of q)
    each q (inl k) = ok.replied q k
    each q (inr (inl e)) = subst (λ (z : SiteReport). Replied h.before.sent l h.at.site n (reply_of z)) (sym e) (inl came)
    each q (inr (inr e)) = absurd e

pub take_ok : (h : Here) (e : Election) (n : ℕ) (r : SiteReport) → ElectionStands h e → Came h.before.sent r.site h.at.site (Report n (status_in r.state) r.attempt)
    → NumberedOk h n (take_report e n r)
take_ok h e n r ok came = by e.number refl
  where
    taken : (k : ℕ) → e.number ≡ Some k → (b : Bool) → (n == k && has_site e.group r.site && not (list_any (λ q. q.site == r.site) e.reports)) ≡ b
        → NumberedOk h n (if b then Some (record e { number = Some k; reports = e.reports ++ r ∷ [] }) else None)
    taken k number true is =
        let p = and_parts (n == k && has_site e.group r.site) (not (list_any (λ q. q.site == r.site) e.reports)) is in
        let q = and_parts (n == k) (has_site e.group r.site) p.0 in
        let same : n ≡ k = eqb-true n k q.0 in
        let numbered : e.number ≡ Some n = number ∙ ap Some (sym same) in (
          record {
            within = ok.within;
            own = ok.own;
            reports = λ m known. (
                let one : n ≡ m = (let two : Some k ≡ Some m = known in cc) in
                subst (λ z. Reported h (own_log h) e.group z (e.reports ++ r ∷ [])) one
                (report_ok h (own_log h) e.group n e.reports r (ok.reports n numbered) came q.1 p.1));
          },
          ap Some (sym same),
        )
    taken k number false is = tt

    by : (o : Option ℕ) → e.number ≡ o → NumberedOk h n (take_report e n r)
    by None number = rw number tt
    by (Some k) number = rw number (taken k number (n == k && has_site e.group r.site && not (list_any (λ q. q.site == r.site) e.reports)) refl)

-- the election behind a step in which the last answer was heard
after_ok : (h : Here) (m : Moment) (e : Election) → Left h m → leader_of h.at.site m.input ≡ h.at.site → ElectionStands h e → ElectionOk h (after_heard h.at.site h.txn m e)
after_ok h m e left led ok = by (all_heard e) refl
  where
    joins : (o : Option ℕ) → joined_in h.txn m.records ≡ o → all_heard e ≡ true → ElectionOk h (after_heard h.at.site h.txn m e)
    joins None is all = rw (all, is) tt
    joins (Some n) is all =
        let stands = left.joins n is in
        rw (all, is) (record {
          within = ok.within;
          own = ok.own;
          reports = λ k number. (
              let one : n ≡ k = (let two : Some n ≡ Some k = number in cc) in
              subst (λ z. Reported h (own_log h) e.group z (this ∷ [])) one (record {
                joined = subst (λ z. IsIn (Join n z) (own_log h)) led stands.0;
                replied = only n stands.1;
                apart = refl;
                among = ap (λ b. b && true) ok.own;
              }));
        })
      where
        this : SiteReport
        this = record { site = h.at.site; state = state_of h.txn m.before; attempt = last_attempt h.txn m.before }

        only : (n : ℕ) → reply_of this ≡ own_reply (own_log h) h.at.site n → (r : SiteReport) → IsIn r (this ∷ []) → Replied h.before.sent (own_log h) h.at.site n (reply_of r)
        only n same r (inl e) = subst (λ (z : SiteReport). Replied h.before.sent (own_log h) h.at.site n (reply_of z)) (sym e) (inr same)
        only n same r (inr e) = absurd e

    by : (b : Bool) → all_heard e ≡ b → ElectionOk h (after_heard h.at.site h.txn m e)
    by true all = joins (joined_in h.txn m.records) refl all
    by false all = rw all ok

heard_ok : (h : Here) (m : Moment) (e : Election) (o : Option Election) → Left h m → leader_of h.at.site m.input ≡ h.at.site → ElectionStands h e → ElectionOk h o
    → ElectionOk h (heard_more h.at.site h.txn m e o)
heard_ok h m e None left led ok more = ok
heard_ok h m e (Some x) left led ok more = after_ok h m x left led more

same_ok : (h : Here) (e : Election) (n : ℕ) (o : Option Election) → ElectionStands h e → NumberedOk h n o → ElectionOk h (or_same e o)
same_ok h e n None ok more = ok
same_ok h e n (Some x) ok more = more.0

-- the election behind a message
with_ok : (h : Here) (m : Moment) (e : Election) (packet : Packet) → Left h m → m.input ≡ input.Deliver packet → ElectionStands h e
    → (z : Message) → packet.msg ≡ z → ElectionOk h (election_with h.at.site h.txn m e packet.«from» z)
with_ok h m e packet left is ok (msg.Do u n op) says = ok
with_ok h m e packet left is ok (msg.Done u n inc answer) says = ok
with_ok h m e packet left is ok (msg.Died u n older) says = ok
with_ok h m e packet left is ok (msg.Ask u call) says = ok
with_ok h m e packet left is ok (msg.LastElected u call elected) says =
    choice h (same_txn h.txn u) (heard_more h.at.site h.txn m e (hear e packet.«from» call elected)) (Some e)
    (heard_ok h m e (hear e packet.«from» call elected) left (rw (is, says) refl) ok (hear_ok h e packet.«from» call elected ok)) ok
with_ok h m e packet left is ok (msg.Elected u n) says = choice h (list_any (is_join h.txn) m.records) None (Some e) tt ok
with_ok h m e packet left is ok (msg.Report u n st attempt) says = by (same_txn h.txn u) refl
  where
    came : same_txn h.txn u ≡ true → Came h.before.sent packet.«from» h.at.site (Report n (status_in st) attempt)
    came same =
        let took : WasHeard h (input.Deliver packet) = subst (λ i. WasHeard h i) is left.heard in
        took (Report n (status_in st) attempt) (subst (λ z. IsIn (Report n (status_in st) attempt) (words_of h.txn z)) (sym says) (in_word (same_txn h.txn u) (Report n (status_in st) attempt) same))

    by : (b : Bool) → same_txn h.txn u ≡ b → ElectionOk h (if b then or_same e (take_report e n (record { site = packet.«from»; state = st; attempt = attempt })) else Some e)
    by true same = same_ok h e n (take_report e n (record { site = packet.«from»; state = st; attempt = attempt })) ok (take_ok h e n (record { site = packet.«from»; state = st; attempt = attempt }) ok (came same))
    by false same = ok
with_ok h m e packet left is ok (msg.VoteReq u inc count) says = ok
with_ok h m e packet left is ok (msg.Vote u true) says = ok
with_ok h m e packet left is ok (msg.Vote u false) says = ok
with_ok h m e packet left is ok (msg.Pre u n dir) says = ok
with_ok h m e packet left is ok (msg.Ack u n dir) says = ok
with_ok h m e packet left is ok (msg.Decide u dir) says = ok

election_step : (h : Here) (was : Elections) (m : Moment) → Left h m → ElectionOk h was.now → ElectionOk h (election_by h.at.site h.at.life.inc h.txn was m).now
election_step h was m left ok = by m.input refl
  where
    begins : (u : Txn) (group : List ℕ) → m.input ≡ input.Elect u group → (b : Bool) → same_txn h.txn u ≡ b
        → ElectionOk h (if b then after_heard h.at.site h.txn m (begun h.at.site (record { inc = h.at.life.inc; seq = suc was.calls }) group (last_elected h.txn m.before)) else was.now)
    begins u group is true same =
        let fit : ElectFits h.at.site (input.Elect u group) = subst (λ i. ElectFits h.at.site i) is left.fits in
        after_ok h m (begun h.at.site (record { inc = h.at.life.inc; seq = suc was.calls }) group (last_elected h.txn m.before)) left (rw is refl) (record {
          within = subst (λ (v : Txn). is_within group v.sites ≡ true) (sym (same_is h.txn u same)) fit.1;
          own = fit.0;
          reports = λ n number. absurd (let none : None ≡ Some n = number in cc);
        })
    begins u group is false same = ok

    takes : (packet : Packet) → m.input ≡ input.Deliver packet → (o : Option Election) → was.now ≡ o → ElectionOk h (election_by h.at.site h.at.life.inc h.txn was m).now
    takes packet is None now = rw (is, now) (choice h (ends_election h.txn m) None None tt tt)
    takes packet is (Some e) now =
        let stands : ElectionStands h e = subst (λ o. ElectionOk h o) now ok in
        rw (is, now) (choice h (ends_election h.txn m) None (election_with h.at.site h.txn m e packet.«from» packet.msg) tt (with_ok h m e packet left is stands packet.msg refl))

    by : (i : Input) → m.input ≡ i → ElectionOk h (election_by h.at.site h.at.life.inc h.txn was m).now
    by (input.Begin sites) is = rw is (choice h (ends_election h.txn m) None was.now tt ok)
    by (input.Do u op) is = rw is (choice h (ends_election h.txn m) None was.now tt ok)
    by (input.Commit u) is = rw is (choice h (ends_election h.txn m) None was.now tt ok)
    by (input.Cancel u) is = rw is (choice h (ends_election h.txn m) None was.now tt ok)
    by (input.Expire u) is = rw is (choice h (ends_election h.txn m) None was.now tt ok)
    by (input.Elect u group) is = rw is (choice h (ends_election h.txn m) None (if same_txn h.txn u then after_heard h.at.site h.txn m (begun h.at.site (record { inc = h.at.life.inc; seq = suc was.calls }) group (last_elected h.txn m.before)) else was.now) tt (begins u group is (same_txn h.txn u) refl))
    by (input.Deliver packet) is = takes packet is was.now refl

election_all : (h : Here) (was : Elections) (steps : List Moment) → ((m : Moment) → IsIn m steps → Left h m) → ElectionOk h was.now
    → ElectionOk h (fold (election_by h.at.site h.at.life.inc h.txn) was steps).now
election_all h was [] left ok = ok
election_all h was (m ∷ steps) left ok =
    election_all h (election_by h.at.site h.at.life.inc h.txn was m) steps (λ k q. left k (inr q)) (election_step h was m (left m (inl refl)) ok)

-- the election in progress before the step
pub election_stands : (h : Here) → Stands h → ElectionOk h (election_in_progress h.at.site h.at.life.inc h.txn h.at.life.steps)
election_stands h s = election_all h (record { calls = 0; now = None }) h.at.life.steps s.left tt
