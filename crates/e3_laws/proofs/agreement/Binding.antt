-- The protocol's invariant, said of the logs and the packets of a legal history.
use Rattle.std.proofs.Common.{◌≡◌, ◌⊎◌, inl, inr, ◌∷◌, ◌++◌, ◌==◌, ◌<◌, ◌≤◌, ℕ, true, false, List, map, refl, sym, ap, subst, ◌∙◌, arith, eq-eqb}
use Rattle.std.specs.Prelude.{Contains}
use Rattle.std.specs.List.{flat_map}
use Rattle.std.proofs.lemmas.Bool.{cases_order}
use Rattle.e3_types.specs.declared.entries.Entry.{Entry}
use Rattle.e3_types.specs.declared.messages.Message.{Message}
use Rattle.e3_types.specs.declared.messages.Message.TheVariants as msg
use Rattle.e3_types.specs.declared.messages.Packet.{Packet}
use Rattle.e3_types.specs.declared.records.Record.{Record}
use Rattle.e3_types.specs.declared.records.Record.TheVariants as log
use Rattle.e3_types.specs.declared.scenarios.Scenario.{Scenario}
use Rattle.e3_types.specs.declared.transactions.Dir.{Dir}
use Rattle.e3_types.specs.declared.transactions.Dir.TheVariants.{Abort, Commit}
use Rattle.e3_types.specs.declared.transactions.NumOp.{NumOp}
use Rattle.e3_types.specs.declared.transactions.State.{State}
use Rattle.e3_types.specs.declared.transactions.State.TheVariants.{Q, W, Pc, Pa, C, A}
use Rattle.e3_types.specs.declared.transactions.Txn.{Txn}
use Rattle.e3_types.specs.Same.{same_txn}
use Rattle.e3_world.specs.Given.{IsGiven}
use Rattle.e3_world.specs.Legal.{IsLegal}
use Rattle.e3_world.specs.Logs.{last_elected, last_attempt, has_voted, state_of}
use Rattle.e3_world.specs.Moves.{log_by, log_of, trail_of, unnumbered}
use Rattle.e3_world.specs.Packets.{sent}
use Rattle.e3_world.specs.Sound.{sends}
use Rattle.e3_world.proofs.Sending.{trail_sends}
use Rattle.e3_world.proofs.Trails.{trail_moves}
use Rattle.e3_laws.specs.agreement.Invariant.{Invariant, Majority, Reason, ByMajority, ByRefusal, ByCallingOff, Voted}
use Rattle.e3_laws.specs.agreement.Logs.{IsIn, Note, Vote, Join, Attempt, Decision, Status, elected, attempt, below, status, before_join, Orderly}
use Rattle.e3_laws.specs.agreement.Marks.{Mark, situation_of, log_of as notes_at}
use Rattle.e3_laws.specs.agreement.Rules.{Situation, Letter, letter, Word, Elected, Report, Pre, Ack, MayReport}
use Rattle.e3_laws.specs.agreement.Verdicts.{status_in}
use Rattle.e3_laws.specs.agreement.Weights.{party_of}
use Rattle.e3_laws.proofs.agreement.Protocol.Agree.{one_direction, binds}
use Rattle.e3_laws.proofs.agreement.Protocol.Keep.{law}
use Rattle.e3_laws.proofs.agreement.Protocol.Logs.{same_leader, attempt_bound, attempt-elected, below-attempt}
use Rattle.e3_laws.proofs.agreement.Protocol.Shares.{majorities_overlap}
use Rattle.e3_laws.specs.agreement.Trails.{marks_of, IsMade}
use Rattle.e3_laws.specs.agreement.Views.{words_of, word_if}
use Rattle.e3_laws.proofs.agreement.Refinement.Following.{TrailOk, made_ok, made_allowed, in_from_contains, in_map_to}
use Rattle.e3_laws.proofs.agreement.Refinement.Gatherings.{in_word}
use Rattle.e3_laws.proofs.agreement.Refinement.Lists.{in_map, same_from}
use Rattle.e3_laws.proofs.agreement.Refinement.Tests.{stands_as}
use Rattle.e3_laws.proofs.agreement.Refinement.Voting.{contains_from_in}
use Rattle.e3_laws.specs.agreement.Facts.{Has, StandsBehind, HasSent, HasReportedTo, HasQuorumOfReports, JoinedAsElector, IsTried, Logged, Asked, Acknowledged, QuorumTried, IsDecided, Entered, WasSaid, SomeRefused, CalledOff}
use Rattle.e3_laws.proofs.agreement.Erasing.{erase, face, faces, elected_erased, attempt_erased, status_erased, before_erased, in_erased, orderly_erased}
use Rattle.e3_laws.proofs.agreement.Facing.{vote_to, attempt_to, decision_to, vote_from, join_from, attempt_from, decision_from, reads_face, fits_at, note_is, vote_before, attempt_before, before_is, split_at}
use Rattle.e3_laws.proofs.agreement.Fitting.{given_fit}
use Rattle.e3_laws.proofs.agreement.Histories.{legal_made}
use Rattle.e3_laws.proofs.agreement.Reporting.{reports_ok}
use Rattle.e3_laws.proofs.agreement.Standing.{given_stands}

-- a situation of the protocol that stands for the history: its notes are those of the logs, but for leaders; the words of
-- the packets were said to other sites; and each report says how its site stood
pub record Lifted (sc : Scenario) (h : List Entry) (t : Txn) : Type 0 where
  pub now : Situation
  pub kept : Invariant (party_of sc.weights t) now
  pub same : (x : ℕ) → map erase (now.log x) ≡ face t (log_of sc h x)
  pub heard : (x : ℕ) (m : Message) (w : Word) → HasSent h x m → IsIn w (words_of t m) → (y : ℕ) × IsIn (letter x y w) now.sent × ((y == x) ≡ false)
  pub noted : (x : ℕ) → now.log x ≡ notes_at x (marks_of sc t (trail_of sc h))
  pub carried : (p : Packet) (w : Word) → Contains (sent h) p → IsIn w (words_of t p.msg) → IsIn (letter p.«from» p.to w) now.sent
  pub reports : (p : Letter) (n : ℕ) (st : Status) (a : ℕ) → IsIn p now.sent → p.word ≡ Report n st a → MayReport (now.log p.source) p.target n st a

pub lifted : (sc : Scenario) (h : List Entry) (t : Txn) → IsGiven sc → IsLegal sc h → Lifted sc h t
lifted sc h t given legal = record {
  now = situation_of marks;
  kept = law (party_of sc.weights t) (situation_of marks) (majorities_overlap sc.weights t) ok.reach;
  same = λ x. faces sc t x (trail_of sc h) made ∙ ap (λ ms. face t (log_by ms)) (trail_moves sc x h);
  heard = heard;
  noted = λ x. refl;
  carried = carried;
  reports = reports_ok (party_of sc.weights t) marks (majorities_overlap sc.weights t) (made_allowed sc t (trail_of sc h) made);
}
  where
    made : IsMade sc (trail_of sc h)
    made = legal_made sc h legal (given_fit sc h given legal)

    marks : List Mark
    marks = marks_of sc t (trail_of sc h)

    ok : TrailOk sc t (trail_of sc h) marks
    ok = made_ok sc t (trail_of sc h) made

    out : (p : Packet) → Contains (sent h) p → IsIn (unnumbered p) (flat_map sends (trail_of sc h))
    out p k = subst (λ z. IsIn (unnumbered p) z) (sym (trail_sends sc h)) (in_map_to unnumbered p (sent h) (in_from_contains (sent h) p k))

    carried : (p : Packet) (w : Word) → Contains (sent h) p → IsIn w (words_of t p.msg) → IsIn (letter p.«from» p.to w) (situation_of marks).sent
    carried p w k j = ok.sent (unnumbered p) (out p k) (letter p.«from» p.to w) (in_map_to (letter p.«from» p.to) w (words_of t p.msg) j)

    heard : (x : ℕ) (m : Message) (w : Word) → HasSent h x m → IsIn w (words_of t m) → (y : ℕ) × IsIn (letter x y w) (situation_of marks).sent × ((y == x) ≡ false)
    heard x m w said k =
        let p : Packet = said.0 in
        let there : IsIn (letter p.«from» p.to w) (situation_of marks).sent = carried p w said.1 (subst (λ (z : Message). IsIn w (words_of t z)) (sym said.3) k) in
        let apart : (p.to == p.«from») ≡ false = ok.outs (unnumbered p) (out p said.1) in
        (p.to, subst (λ z. IsIn (letter z p.to w) (situation_of marks).sent) said.2 there, subst (λ z. (p.to == z) ≡ false) said.2 apart)

-- notes that have no leader stand behind those of records
unerased : (x : Note) (l : List Note) → IsIn x (map erase l) → (y : Note) × IsIn y l × (x ≡ erase y)
unerased x l k = in_map erase x l k

vote_noted : (l : List Note) → IsIn Vote (map erase l) → IsIn Vote l
vote_noted l k = let f = unerased Vote l k in by f.0 f.1 f.2
  where
    by : (y : Note) → IsIn y l → Vote ≡ erase y → IsIn Vote l
    by Vote j is = j
    by (Join n e) j is = cc
    by (Attempt n d) j is = cc
    by (Decision d) j is = cc

attempt_noted : (n : ℕ) (d : Dir) (l : List Note) → IsIn (Attempt n d) (map erase l) → IsIn (Attempt n d) l
attempt_noted n d l k = let f = unerased (Attempt n d) l k in by f.0 f.1 f.2
  where
    by : (y : Note) → IsIn y l → Attempt n d ≡ erase y → IsIn (Attempt n d) l
    by Vote j is = cc
    by (Join m e) j is = cc
    by (Attempt m e) j is = subst (λ (z : Note). IsIn z l) (sym is) j
    by (Decision e) j is = cc

decision_noted : (d : Dir) (l : List Note) → IsIn (Decision d) (map erase l) → IsIn (Decision d) l
decision_noted d l k = let f = unerased (Decision d) l k in by f.0 f.1 f.2
  where
    by : (y : Note) → IsIn y l → Decision d ≡ erase y → IsIn (Decision d) l
    by Vote j is = cc
    by (Join m e) j is = cc
    by (Attempt m e) j is = cc
    by (Decision e) j is = subst (λ (z : Note). IsIn z l) (sym is) j

-- the notes of the history's logs are in order
pub ordered : (sc : Scenario) (h : List Entry) (t : Txn) (x : ℕ) → Lifted sc h t → Orderly (face t (log_of sc h x))
ordered sc h t x k = subst Orderly (k.same x) (orderly_erased (k.now.log x) (k.kept.orderly x))

-- records and notes of one site
attempt_in : (sc : Scenario) (h : List Entry) (t : Txn) (x n : ℕ) (d : Dir) (k : Lifted sc h t) → Has sc h x (log.Attempt t n d) → IsIn (Attempt n d) (k.now.log x)
attempt_in sc h t x n d k has =
    attempt_noted n d (k.now.log x) (subst (λ l. IsIn (Attempt n d) l) (sym (k.same x)) (attempt_to t n d (log_of sc h x) (in_from_contains (log_of sc h x) (log.Attempt t n d) has)))

pub attempt_out : (sc : Scenario) (h : List Entry) (t : Txn) (x n : ℕ) (d : Dir) (k : Lifted sc h t) → IsIn (Attempt n d) (k.now.log x) → Has sc h x (log.Attempt t n d)
attempt_out sc h t x n d k noted =
    contains_from_in (log_of sc h x) (log.Attempt t n d) (attempt_from t n d (log_of sc h x) (subst (λ l. IsIn (Attempt n d) l) (k.same x) (in_erased (Attempt n d) (k.now.log x) noted)))

decision_in : (sc : Scenario) (h : List Entry) (t : Txn) (x : ℕ) (d : Dir) (k : Lifted sc h t) → Has sc h x (log.Decision t d) → IsIn (Decision d) (k.now.log x)
decision_in sc h t x d k has =
    decision_noted d (k.now.log x) (subst (λ l. IsIn (Decision d) l) (sym (k.same x)) (decision_to t d (log_of sc h x) (in_from_contains (log_of sc h x) (log.Decision t d) has)))

decision_out : (sc : Scenario) (h : List Entry) (t : Txn) (x : ℕ) (d : Dir) (k : Lifted sc h t) → IsIn (Decision d) (k.now.log x) → Has sc h x (log.Decision t d)
decision_out sc h t x d k noted =
    contains_from_in (log_of sc h x) (log.Decision t d) (decision_from t d (log_of sc h x) (subst (λ l. IsIn (Decision d) l) (k.same x) (in_erased (Decision d) (k.now.log x) noted)))

vote_in : (sc : Scenario) (h : List Entry) (t : Txn) (x : ℕ) (ops : List NumOp) (k : Lifted sc h t) → Has sc h x (log.Vote t ops) → IsIn Vote (k.now.log x)
vote_in sc h t x ops k has =
    vote_noted (k.now.log x) (subst (λ l. IsIn Vote l) (sym (k.same x)) (vote_to t ops (log_of sc h x) (in_from_contains (log_of sc h x) (log.Vote t ops) has)))

vote_out : (sc : Scenario) (h : List Entry) (t : Txn) (x : ℕ) (k : Lifted sc h t) → IsIn Vote (k.now.log x) → (ops : List NumOp) × Has sc h x (log.Vote t ops)
vote_out sc h t x k noted =
    let f = vote_from t (log_of sc h x) (subst (λ l. IsIn Vote l) (k.same x) (in_erased Vote (k.now.log x) noted)) in
    (f.0, contains_from_in (log_of sc h x) (log.Vote t f.0) f.1)

-- the numbers of the readings
elected_is : (sc : Scenario) (h : List Entry) (t : Txn) (x : ℕ) (k : Lifted sc h t) → last_elected t (log_of sc h x) ≡ elected (k.now.log x)
elected_is sc h t x k = (reads_face t (log_of sc h x)).elects ∙ ap elected (sym (k.same x)) ∙ elected_erased (k.now.log x)

attempt_is : (sc : Scenario) (h : List Entry) (t : Txn) (x : ℕ) (k : Lifted sc h t) → last_attempt t (log_of sc h x) ≡ attempt (k.now.log x)
attempt_is sc h t x k = (reads_face t (log_of sc h x)).attempts ∙ ap attempt (sym (k.same x)) ∙ attempt_erased (k.now.log x)

word_in : (t : Txn) (w : Word) → IsIn w (word_if (same_txn t t) w)
word_in t w = in_word (same_txn t t) w (same_from t t refl)

-- a site that called an election reports in none of its number
pub elector_silent : (sc : Scenario) (h : List Entry) (t : Txn) (s n : ℕ) (st : State) (a : ℕ) → Lifted sc h t → HasSent h s (msg.Elected t n) → HasSent h s (msg.Report t n st a) → ⊥
elector_silent sc h t s n st a k called reported =
    let one = k.heard s (msg.Elected t n) (Elected n) called (word_in t (Elected n)) in
    let two = k.heard s (msg.Report t n st a) (Report n (status_in st) a) reported (word_in t (Report n (status_in st) a)) in
    let own : IsIn (Join n s) (k.now.log s) = k.kept.letters (letter s one.0 (Elected n)) one.1 in
    let led : IsIn (Join n two.0) (k.now.log s) = (k.kept.letters (letter s two.0 (Report n (status_in st) a)) two.1).0 in
    let same : (two.0 == s) ≡ true = eq-eqb two.0 s (same_leader n two.0 s (k.now.log s) (k.kept.orderly s) led own) in
    let apart : (two.0 == s) ≡ false = two.2 in
    cc

-- who reported to a site for a number joined it for that site
reporter_joined : (sc : Scenario) (h : List Entry) (t : Txn) (n x s : ℕ) (k : Lifted sc h t) → HasReportedTo h t n x s → IsIn (Join n s) (k.now.log x)
reporter_joined sc h t n x s k said =
    let p : Packet = said.0 in
    let w : Word = Report n (status_in said.4) said.5 in
    let word : IsIn w (words_of t p.msg) = subst (λ (z : Message). IsIn w (words_of t z)) (sym said.6) (word_in t w) in
    let there : IsIn (Join n p.to) (k.now.log p.«from») = (k.kept.letters (letter p.«from» p.to w) (k.carried p w said.1 word)).0 in
    subst (λ y. IsIn (Join n s) (k.now.log y)) said.2 (subst (λ z. IsIn (Join n z) (k.now.log p.«from»)) said.3 there)

joined_for : (sc : Scenario) (h : List Entry) (t : Txn) (n s x : ℕ) (k : Lifted sc h t) → JoinedAsElector sc h t s n → (x ≡ s) ⊎ HasReportedTo h t n x s → IsIn (Join n s) (k.now.log x)
joined_for sc h t n s x k led (inl same) = subst (λ y. IsIn (Join n s) (k.now.log y)) (sym same) (subst (λ l. IsIn (Join n s) l) (sym (k.noted s)) led)
joined_for sc h t n s x k led (inr said) = reporter_joined sc h t n x s k said

-- two electors of one number, each with the reports of a quorum, are one
pub electors_one : (sc : Scenario) (h : List Entry) (t : Txn) (n s u : ℕ) → Lifted sc h t → HasQuorumOfReports sc h t n s → HasQuorumOfReports sc h t n u → s ≡ u
electors_one sc h t n s u k a b =
    let y = k.kept.shared a.group b.group a.enough b.enough in
    same_leader n s u (k.now.log y.0) (k.kept.orderly y.0)
    (joined_for sc h t n s y.0 k a.led (a.reports y.0 (contains_from_in a.group y.0 y.1)))
    (joined_for sc h t n u y.0 k b.led (b.reports y.0 (contains_from_in b.group y.0 y.2)))

-- a site that joined a number as its elector reports in no election of that number
pub own_silent : (sc : Scenario) (h : List Entry) (t : Txn) (s n : ℕ) (st : State) (a : ℕ) → Lifted sc h t → JoinedAsElector sc h t s n → HasSent h s (msg.Report t n st a) → ⊥
own_silent sc h t s n st a k joined reported =
    let two = k.heard s (msg.Report t n st a) (Report n (status_in st) a) reported (word_in t (Report n (status_in st) a)) in
    let own : IsIn (Join n s) (k.now.log s) = subst (λ l. IsIn (Join n s) l) (sym (k.noted s)) joined in
    let led : IsIn (Join n two.0) (k.now.log s) = (k.kept.letters (letter s two.0 (Report n (status_in st) a)) two.1).0 in
    let same : (two.0 == s) ≡ true = eq-eqb two.0 s (same_leader n two.0 s (k.now.log s) (k.kept.orderly s) led own) in
    let apart : (two.0 == s) ≡ false = two.2 in
    cc

-- what is tried stands in some log
pub tried_somewhere : (sc : Scenario) (h : List Entry) (t : Txn) (n : ℕ) (d : Dir) (k : Lifted sc h t) → IsTried sc h t n d → (x : ℕ) × IsIn (Attempt n d) (k.now.log x)
tried_somewhere sc h t n d k (Logged s has) = (s, attempt_in sc h t s n d k has)
tried_somewhere sc h t n d k (Asked s said) =
    let f = k.heard s (msg.Pre t n d) (Pre n d) said (word_in t (Pre n d)) in (s, k.kept.letters (letter s f.0 (Pre n d)) f.1)
tried_somewhere sc h t n d k (Acknowledged s said) =
    let f = k.heard s (msg.Ack t n d) (Ack n d) said (word_in t (Ack n d)) in (s, k.kept.letters (letter s f.0 (Ack n d)) f.1)

pub tried_one : (sc : Scenario) (h : List Entry) (t : Txn) (n : ℕ) (d e : Dir) → Lifted sc h t → IsTried sc h t n d → IsTried sc h t n e → d ≡ e
tried_one sc h t n d e k a b =
    let x = tried_somewhere sc h t n d k a in
    let y = tried_somewhere sc h t n e k b in
    one_direction (party_of sc.weights t) k.now k.kept x.0 y.0 n d e x.1 y.1

-- quorums that tried a number
to_majority : (sc : Scenario) (h : List Entry) (t : Txn) (n : ℕ) (d : Dir) (k : Lifted sc h t) → QuorumTried sc h t n d → Majority (party_of sc.weights t) k.now n d
to_majority sc h t n d k q = record { group = q.group; enough = q.enough; all = λ y j. attempt_in sc h t y n d k (q.all y (contains_from_in q.group y j)) }

from_majority : (sc : Scenario) (h : List Entry) (t : Txn) (n : ℕ) (d : Dir) (k : Lifted sc h t) → Majority (party_of sc.weights t) k.now n d → QuorumTried sc h t n d
from_majority sc h t n d k q = record { group = q.group; enough = q.enough; all = λ y j. attempt_out sc h t y n d k (q.all y (in_from_contains q.group y j)) }

pub quorum_binds : (sc : Scenario) (h : List Entry) (t : Txn) (n m : ℕ) (d e : Dir) → Lifted sc h t → QuorumTried sc h t n d → n < m → IsTried sc h t m e → e ≡ d
quorum_binds sc h t n m d e k q less tried =
    let x = tried_somewhere sc h t m e k tried in
    binds (party_of sc.weights t) k.now k.kept n m x.0 d e (to_majority sc h t n d k q) less x.1

-- a report tells how its site stood
same_status : (st su : State) → status_in st ≡ status_in su → st ≡ su
same_status Q Q e = refl
same_status W W e = refl
same_status Pc Pc e = refl
same_status Pa Pa e = refl
same_status C C e = refl
same_status A A e = refl
same_status Q W e = cc
same_status Q Pc e = cc
same_status Q Pa e = cc
same_status Q C e = cc
same_status Q A e = cc
same_status W Q e = cc
same_status W Pc e = cc
same_status W Pa e = cc
same_status W C e = cc
same_status W A e = cc
same_status Pc Q e = cc
same_status Pc W e = cc
same_status Pc Pa e = absurd (let same : Commit ≡ Abort = cc in cc)
same_status Pc C e = cc
same_status Pc A e = cc
same_status Pa Q e = cc
same_status Pa W e = cc
same_status Pa Pc e = absurd (let same : Abort ≡ Commit = cc in cc)
same_status Pa C e = cc
same_status Pa A e = cc
same_status C Q e = cc
same_status C W e = cc
same_status C Pc e = cc
same_status C Pa e = cc
same_status C A e = absurd (let same : Commit ≡ Abort = cc in cc)
same_status A Q e = cc
same_status A W e = cc
same_status A Pc e = cc
same_status A Pa e = cc
same_status A C e = absurd (let same : Abort ≡ Commit = cc in cc)

pub report_tells : (sc : Scenario) (h : List Entry) (t : Txn) (s n : ℕ) (st : State) (a : ℕ) → Lifted sc h t → HasSent h s (msg.Report t n st a)
    → (before : List Record) × StandsBehind sc h s before (log.Join t n) × (st ≡ state_of t before) × (a ≡ last_attempt t before)
report_tells sc h t s n st a k said =
    let f = k.heard s (msg.Report t n st a) (Report n (status_in st) a) said (word_in t (Report n (status_in st) a)) in
    let may : MayReport (k.now.log s) f.0 n (status_in st) a = k.reports (letter s f.0 (Report n (status_in st) a)) n (status_in st) a f.1 refl in
    let joined : IsIn (Join n 0) (face t (log_of sc h s)) = subst (λ l. IsIn (Join n 0) l) (k.same s) (in_erased (Join n f.0) (k.now.log s) may.joined) in
    let at = split_at (log.Join t n) (log_of sc h s) (join_from t n 0 (log_of sc h s) joined) in
    let o : Orderly (face t (log_of sc h s)) = ordered sc h t s k in
    let past : map erase (before_join n (k.now.log s)) ≡ face t at.0 =
    sym (before_erased n (k.now.log s)) ∙ ap (before_join n) (k.same s) ∙ before_is t (log_of sc h s) at.0 n at.1 o at.2 in
    let state : status_in st ≡ status_in (state_of t at.0) =
    may.says ∙ sym (status_erased (before_join n (k.now.log s))) ∙ ap status past ∙ sym (stands_as t at.0 (face t at.0) (reads_face t at.0) (front at.0 at.1 o at.2)) in
    let tried : a ≡ last_attempt t at.0 = may.tried ∙ sym (attempt_erased (before_join n (k.now.log s))) ∙ ap attempt past ∙ sym (reads_face t at.0).attempts in
    (at.0, (at.1, at.2), same_status st (state_of t at.0) state, tried)
  where
    front : (before after : List Record) → Orderly (face t (log_of sc h s)) → log_of sc h s ≡ before ++ log.Join t n ∷ after → Orderly (face t before)
    front before after o is = (fits_at t (log_of sc h s) before (log.Join t n) after (Join n 0) (note_is t (Join n 0)) o is).1

-- until a greater number is joined, its last attempt is the reported one or of this number
pub report_holds : (sc : Scenario) (h : List Entry) (t : Txn) (s n : ℕ) (st : State) (a : ℕ) → Lifted sc h t → HasSent h s (msg.Report t n st a) → last_elected t (log_of sc h s) ≡ n
    → (last_attempt t (log_of sc h s) ≡ a) ⊎ (last_attempt t (log_of sc h s) ≡ n)
report_holds sc h t s n st a k said last = by (cases_order (attempt l) n)
  where
    l : List Note
    l = k.now.log s

    shown : a ≡ below l n
    shown =
        let f = k.heard s (msg.Report t n st a) (Report n (status_in st) a) said (word_in t (Report n (status_in st) a)) in
        (k.kept.letters (letter s f.0 (Report n (status_in st) a)) f.1).1

    by : (attempt l ≡ n) ⊎ ((attempt l < n) ⊎ (n < attempt l)) → (last_attempt t (log_of sc h s) ≡ a) ⊎ (last_attempt t (log_of sc h s) ≡ n)
    by (inl same) = inr (attempt_is sc h t s k ∙ same)
    by (inr (inl less)) = inl (attempt_is sc h t s k ∙ sym (below-attempt n l less) ∙ sym shown)
    by (inr (inr more)) = absurd (omega (arith, more, attempt-elected l (k.kept.orderly s), elected_is sc h t s k, last))

-- where a commit is attempted, all voted
voted_by : (sc : Scenario) (h : List Entry) (t : Txn) (n : ℕ) (k : Lifted sc h t) → IsTried sc h t n Commit → Voted (party_of sc.weights t) k.now
voted_by sc h t n k tried = let x = tried_somewhere sc h t n Commit k tried in k.kept.voted x.0 n x.1

pub commit_voted : (sc : Scenario) (h : List Entry) (t : Txn) (n : ℕ) → Lifted sc h t → IsTried sc h t n Commit
    → ((s : ℕ) → Contains t.sites s → (ops : List NumOp) × Has sc h s (log.Vote t ops)) × Has sc h t.site (log.Attempt t 1 Commit)
commit_voted sc h t n k tried =
    let all = voted_by sc h t n k tried in
    (λ s member. vote_out sc h t s k (all.0 s (in_from_contains t.sites s member)), attempt_out sc h t t.site 1 Commit k all.1)

pub commit_bars : (sc : Scenario) (h : List Entry) (t : Txn) (n s : ℕ) (before : List Record) → Lifted sc h t → IsTried sc h t n Commit → Contains t.sites s
    → StandsBehind sc h s before (log.Decision t Abort) → (has_voted t before ≡ true) × (s ≡ t.site → 1 ≤ last_attempt t before)
commit_bars sc h t n s before k tried member stands =
    let all = voted_by sc h t n k tried in
    let rs : List Record = log_of sc h s in (
      vote_before t rs before Abort stands.0 (ordered sc h t s k) stands.1 (subst (λ l. IsIn Vote l) (k.same s) (in_erased Vote (k.now.log s) (all.0 s (in_from_contains t.sites s member)))),
      λ own. attempt_before t rs before Abort stands.0 1 Commit (ordered sc h t s k) stands.1
          (subst (λ l. IsIn (Attempt 1 Commit) l) (k.same s) (in_erased (Attempt 1 Commit) (k.now.log s) (subst (λ z. IsIn (Attempt 1 Commit) (k.now.log z)) (sym own) all.1))),
    )

-- what is decided stands in some log
pub decided_somewhere : (sc : Scenario) (h : List Entry) (t : Txn) (d : Dir) (k : Lifted sc h t) → IsGiven sc → IsLegal sc h → IsDecided sc h t d → (x : ℕ) × IsIn (Decision d) (k.now.log x)
decided_somewhere sc h t d k given legal (Entered s has) = (s, decision_in sc h t s d k has)
decided_somewhere sc h t d k given legal (WasSaid e among said) =
    let at = split_at e h (in_from_contains h e among) in
    let stands = given_stands sc h given legal at.0 at.1 e t d at.2 said in
    let has : Has sc h e.owner (log.Decision t d) = subst (λ z. Contains (log_of sc z e.owner) (log.Decision t d)) (sym at.2) (stands.1 at.1 (subst (λ z. IsLegal sc z) at.2 legal)) in
    (e.owner, decision_in sc h t e.owner d k has)

pub commit_quorum : (sc : Scenario) (h : List Entry) (t : Txn) → Lifted sc h t → IsGiven sc → IsLegal sc h → IsDecided sc h t Commit → (n : ℕ) × QuorumTried sc h t n Commit
commit_quorum sc h t k given legal decided = let x = decided_somewhere sc h t Commit k given legal decided in by (k.kept.reason x.0 Commit x.1)
  where
    by : Reason (party_of sc.weights t) k.now Commit → (n : ℕ) × QuorumTried sc h t n Commit
    by (ByMajority n q) = (n, from_majority sc h t n Commit k q)
    by (ByRefusal e y m j v) = cc
    by (ByCallingOff e j z) = cc

pub abort_reason : (sc : Scenario) (h : List Entry) (t : Txn) → Lifted sc h t → IsGiven sc → IsLegal sc h → IsDecided sc h t Abort
    → ((n : ℕ) × QuorumTried sc h t n Abort) ⊎ (((n : ℕ) → IsTried sc h t n Commit → ⊥) × (SomeRefused sc h t ⊎ CalledOff sc h t))
abort_reason sc h t k given legal decided = let x = decided_somewhere sc h t Abort k given legal decided in by (k.kept.reason x.0 Abort x.1)
  where
    by : Reason (party_of sc.weights t) k.now Abort → ((n : ℕ) × QuorumTried sc h t n Abort) ⊎ (((n : ℕ) → IsTried sc h t n Commit → ⊥) × (SomeRefused sc h t ⊎ CalledOff sc h t))
    by (ByMajority n q) = inl (n, from_majority sc h t n Abort k q)
    by (ByRefusal e y member aborts unvoted) = inr (
      λ n tried. unvoted ((voted_by sc h t n k tried).0 y member),
      inl (y, contains_from_in t.sites y member, decision_out sc h t y Abort k aborts, λ ops has. unvoted (vote_in sc h t y ops k has)),
    )
    by (ByCallingOff e aborts untried) = inr (
      λ n tried. (let most = attempt_bound 1 Commit (k.now.log t.site) (voted_by sc h t n k tried).1 in absurd (omega (arith, most, untried))),
      inr (decision_out sc h t t.site Abort k aborts, attempt_is sc h t t.site k ∙ untried),
    )
