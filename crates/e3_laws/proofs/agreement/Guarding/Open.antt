-- Who is asked for an attempt of its own may record it.
use Rattle.e3_world.specs.Items.{is_up_at}
use Rattle.e3_world.specs.Given.{IsGiven}
use Rattle.e3_types.specs.declared.entries.Input.{Input}
use Rattle.e3_types.specs.declared.entries.Entry.{Entry}
use Rattle.std.proofs.Common.{◌≡◌, ◌⊎◌, inl, inr, ◌==◌, ◌∷◌, [], ◌<◌, ◌≤◌, ℕ, Bool, true, false, List, None, is_none, refl, ap, sym, subst, ◌∙◌, arith, append-nil, max, eq-eqb}
use Rattle.std.specs.Prelude.{Contains}
use Rattle.std.proofs.lemmas.Bool.{lt-ltb}
use Rattle.std.proofs.lemmas.List.Sums.{fold-append}
use Rattle.e3_types.specs.declared.records.Record.TheVariants as log
use Rattle.e3_types.specs.declared.scenarios.Scenario.{Scenario}
use Rattle.e3_types.specs.declared.transactions.State.{State}
use Rattle.e3_types.specs.declared.transactions.State.TheVariants.{Q, W, C, A}
use Rattle.e3_types.specs.declared.transactions.Txn.{Txn}
use Rattle.e3_types.specs.declared.verdicts.SiteReport.{SiteReport}
use Rattle.e3_types.specs.declared.verdicts.Verdict.{Verdict}
use Rattle.e3_types.specs.declared.verdicts.Verdict.TheVariants as verdict
use Rattle.e3_types.specs.Same.{same_txn}
use Rattle.e3_types.specs.Verdicts.{verdict_of, reports_state}
use Rattle.e3_world.specs.declared.lives.At.{At}
use Rattle.e3_world.specs.declared.lives.Made.{Made}
use Rattle.e3_world.specs.Gatherings.{Election}
use Rattle.e3_world.specs.Lives.{life_at}
use Rattle.e3_world.specs.Logs.{decision, has_voted, is_undecided, last_attempt, last_elected, last_elected_by}
use Rattle.e3_world.specs.Making.{nothing, log_now, open_now, elected_now, attempt_now, state_now, may_attempt, may_decide, and_record, and_vote}
use Rattle.e3_world.specs.Moves.{moves_of, trail_of}
use Rattle.e3_laws.specs.agreement.Guards.{place_of, IsLastReport, IsToAttempt, AsksAttempt, LastYes, OnlySite, LastReport, OnlyMember, OwnRound, AttemptsAreOpen, RoundsAreOpen, own_report}
use Rattle.e3_laws.specs.agreement.Logs.{IsIn, Join}
use Rattle.e3_laws.specs.agreement.Rules.{Came, Pre, Report, letter}
use Rattle.e3_laws.specs.agreement.Rows.{Here, WasHeard, Stands, own_log, notes_now}
use Rattle.e3_laws.specs.agreement.Views.{words_of}
use Rattle.e3_laws.proofs.agreement.Fitting.{given_fit}
use Rattle.e3_laws.proofs.agreement.Histories.{legal_made}
use Rattle.e3_laws.proofs.agreement.Guarding.Leading.{HasFinal, TookPre, Led, attempt_same, below_elected, decided_final, elected_same, final_more, open_same, taken_is, now_is}
use Rattle.e3_laws.proofs.agreement.Guarding.Trails.{Guarded, LifeLeads, made_guarded}
use Rattle.e3_types.specs.declared.entries.Told.TheVariants as told
use Rattle.e3_world.specs.Moves.{unnumbered_input}
use Rattle.e3_world.specs.Legal.{IsDue, IsLegal, made_by}
use Rattle.e3_world.specs.Steps.{step_at}
use Rattle.e3_laws.specs.agreement.Asked.{attempt_verdict}
use Rattle.e3_laws.specs.agreement.Rows.{MayTake}
use Rattle.e3_laws.proofs.agreement.Guarding.Acting.{Holds, step_acts}
use Rattle.e3_laws.proofs.agreement.Guarding.Voted.{suited}
use Rattle.e3_laws.proofs.agreement.Refinement.Following.{in_from_contains}
use Rattle.e3_laws.proofs.agreement.Refinement.Growing.{takes_unnumbered}
use Rattle.e3_laws.proofs.agreement.Refinement.Voting.{contains_from_in}
use Rattle.e3_laws.proofs.steps.Suits.Laws.{inputs_suit}
use Rattle.e3_laws.proofs.agreement.Guarding.Voted.{at_place, commits_voted, standing, last_stands}
use Rattle.e3_laws.proofs.agreement.Protocol.Logs.{same_leader}
use Rattle.e3_laws.proofs.agreement.Refinement.Gatherings.{in_word}
use Rattle.e3_laws.proofs.agreement.Refinement.Lists.{same_from}
use Rattle.e3_laws.proofs.agreement.Refinement.Readings.{untried}
use Rattle.e3_laws.proofs.agreement.Refinement.Tests.{attempt_means, reads_now, state_means}
use Rattle.e3_laws.proofs.steps.Tests.{same_self}
use Rattle.e3_world.proofs.Trails.{trail_moves}
use Rattle.e3_world.proofs.Pushes.{life_log_at}
use Rattle.e3_types.specs.declared.transactions.Dir.{Dir}
use Rattle.e3_types.specs.declared.transactions.Dir.TheVariants.{Abort, Commit}
use Rattle.e3_laws.proofs.agreement.Guarding.Gathering.{LifeOpen, made_open}

-- the guard, by its parts
may_by : (a : At) (t : Txn) (n : ℕ) (made : Made) → open_now a t made ≡ true → elected_now a t made ≡ n → attempt_now a t made < n → may_attempt a t n made ≡ true
may_by a t n made free joined fresh = rw (free, eq-eqb (elected_now a t made) n joined, lt-ltb (attempt_now a t made) n fresh) refl

-- where a decision is reported, the verdict is to decide
final_decides : (weights sites : List ℕ) (reports : List SiteReport) → HasFinal reports → IsToAttempt (verdict_of weights sites reports) → ⊥
final_decides weights sites reports final = by (reports_state A reports) (reports_state C reports) refl refl final
  where
    not_so : (v : Verdict) → (v ≡ verdict.Abort) ⊎ (v ≡ verdict.Commit) → IsToAttempt v → ⊥
    not_so v (inl is) (inl to) = let clash : verdict.Abort ≡ verdict.PreCommit = sym is ∙ to in cc
    not_so v (inl is) (inr to) = let clash : verdict.Abort ≡ verdict.PreAbort = sym is ∙ to in cc
    not_so v (inr is) (inl to) = let clash : verdict.Commit ≡ verdict.PreCommit = sym is ∙ to in cc
    not_so v (inr is) (inr to) = let clash : verdict.Commit ≡ verdict.PreAbort = sym is ∙ to in cc

    by : (b c : Bool) → reports_state A reports ≡ b → reports_state C reports ≡ c → HasFinal reports → IsToAttempt (verdict_of weights sites reports) → ⊥
    by true c aborted committed f = not_so (verdict_of weights sites reports) (inl (rw aborted refl))
    by false true aborted committed f = not_so (verdict_of weights sites reports) (inr (rw (aborted, committed) refl))
    by false false aborted committed (inl is) = absurd (let clash : true ≡ false = sym is ∙ aborted in cc)
    by false false aborted committed (inr is) = absurd (let clash : true ≡ false = sym is ∙ committed in cc)

-- a site that neither attempted nor decided
unattempted : (h : Here) (st : State) → Stands h → (st ≡ Q) ⊎ (st ≡ W) → state_now h.at h.txn nothing ≡ st → (open_now h.at h.txn nothing ≡ true) × (attempt_now h.at h.txn nothing ≡ 0)
unattempted h st s which is = by which
  where
    parts : (decision h.txn (log_now h.at nothing) ≡ None) → (attempt_now h.at h.txn nothing ≡ 0) → (open_now h.at h.txn nothing ≡ true) × (attempt_now h.at h.txn nothing ≡ 0)
    parts none zero = (ap is_none none, zero)

    by : (st ≡ Q) ⊎ (st ≡ W) → (open_now h.at h.txn nothing ≡ true) × (attempt_now h.at h.txn nothing ≡ 0)
    by (inl q) =
        let k = state_means h nothing h.txn s refl Q (is ∙ q) in
        parts ((reads_now h nothing s).decides ∙ k.0) (attempt_means h nothing h.txn s refl ∙ untried (notes_now h nothing) k.1)
    by (inr w) =
        let k = state_means h nothing h.txn s refl W (is ∙ w) in
        parts ((reads_now h nothing s).decides ∙ k.0) (attempt_means h nothing h.txn s refl ∙ untried (notes_now h nothing) k.1)

pub attempts_open : AttemptsAreOpen
attempts_open sc h site i t n made given legal up due asks = by n made asks
  where
    k : Here
    k = at_place sc h t site i

    a : At
    a = place_of sc h site i

    s : Stands k
    s = standing sc h site i given legal due t

    guarded : Guarded sc (trail_of sc h)
    guarded = made_guarded sc (trail_of sc h) (legal_made sc h legal (given_fit sc h given legal))

    leads : LifeLeads site (life_at (moves_of sc h site))
    leads = subst (λ z. LifeLeads site (life_at z)) (trail_moves sc site h) (guarded.leads site)

    -- the number of its own election it attempted for nobody else
    never : (n : ℕ) → IsIn (Join n site) (own_log k) → 2 ≤ n → TookPre t n a.life.steps → ⊥
    never n joined low took =
        let word : IsIn (Pre n took.dir) (words_of t took.packet.msg) = subst (λ z. IsIn (Pre n took.dir) (words_of t z)) (sym took.says) (in_word (same_txn t t) (Pre n took.dir) (same_from t t refl)) in
        let came : Came k.before.sent took.packet.«from» site (Pre n took.dir) = (subst (λ z. WasHeard k z) took.taken (s.left took.step took.made).heard) (Pre n took.dir) word in
        let apart : (site == took.packet.«from») ≡ false = (s.well (letter took.packet.«from» site (Pre n took.dir)) came).away in
        let f = guarded.asked t (letter took.packet.«from» site (Pre n took.dir)) n took.dir came refl low in
        let led : IsIn (Join n took.packet.«from») (own_log k) = (s.kept.letters (letter site took.packet.«from» (Report n f.0 f.1)) f.2).0 in
        let same : (site == took.packet.«from») ≡ true = eq-eqb site took.packet.«from» (same_leader n site took.packet.«from» (own_log k) (s.kept.orderly site) joined led) in
        let clash : true ≡ false = sym same ∙ apart in
        cc

    last : (n : ℕ) (e : Election) → IsLastReport a t n e → IsToAttempt (verdict_of a.weights t.sites e.reports) → may_attempt a t n nothing ≡ true
    last n e l to =
        let ok = last_stands k n e s l in
        let f = taken_is l.was n (record { site = l.packet.«from»; state = l.state; attempt = l.attempt }) e l.counts in
        let led : Led t a.life l.was.reports n = leads t l.was n l.in_progress (sym f.0 ∙ ok.1) in
        let now = now_is a t nothing refl in
        may_by a t n nothing
        (now.2 ∙ elim led.state [
          | inl free ↦ free
          | inr final ↦ absurd (final_decides a.weights t.sites e.reports (subst HasFinal (sym f.1) (final_more l.was.reports (record { site = l.packet.«from»; state = l.state; attempt = l.attempt }) final)) to)
        ])
        (now.0 ∙ led.joined)
        (subst (λ z. z < n) (sym now.1) (elim led.fresh [ inl low ↦ low | inr took ↦ absurd (never n (ok.0.reports n ok.1).joined led.some took) ]))

    alone : (n : ℕ) → elected_now a t nothing < n → IsToAttempt (verdict_of a.weights t.sites (own_report a t ∷ [])) → may_attempt a t n (and_record (log.Join t n) nothing) ≡ true
    alone n low to =
        let was = now_is a t nothing refl in
        let bound = below_elected k s in
        let joined : elected_now a t (and_record (log.Join t n) nothing) ≡ max (last_elected t a.life.log) n =
        fold-append (last_elected_by t) 1 a.life.log (log.Join t n ∷ []) ∙ (let one : last_elected_by t (last_elected t a.life.log) (log.Join t n) ≡ max (last_elected t a.life.log) n = rw (same_self t) refl in one) in
        let tried : attempt_now a t (and_record (log.Join t n) nothing) ≡ last_attempt t a.life.log = fold-append _ 0 a.life.log (log.Join t n ∷ []) in
        may_by a t n (and_record (log.Join t n) nothing)
        (open_same t a.life.log (log.Join t n ∷ []) refl ∙ free (is_undecided t (log_now a nothing)) refl)
        (omega (arith, joined, low, was.0))
        (omega (arith, tried, low, was.0, bound.1))
      where
        free : (b : Bool) → is_undecided t (log_now a nothing) ≡ b → is_undecided t a.life.log ≡ true
        free true is = sym (ap (is_undecided t) (append-nil a.life.log)) ∙ is
        free false is = absurd (final_decides a.weights t.sites (own_report a t ∷ []) (decided_final t (log_now a nothing) site (attempt_now a t nothing) is) to)

    by : (n : ℕ) (made : Made) → AsksAttempt a t n made → may_attempt a t n made ≡ true
    by n made (LastYes is one) =
        let u = unattempted k W s (inr refl) is in
        may_by a t 1 nothing u.0 one (omega (arith, u.1))
    by n made (OnlySite is one) =
        let u = unattempted k Q s (inl refl) is in
        let now = now_is a t nothing refl in
        may_by a t 1 (and_vote a t nothing)
        (open_same t a.life.log (and_vote a t nothing).records refl ∙ sym now.2 ∙ u.0)
        (elected_same t a.life.log (and_vote a t nothing).records refl ∙ sym now.0 ∙ one)
        (let zero : attempt_now a t (and_vote a t nothing) ≡ last_attempt t a.life.log = attempt_same t a.life.log (and_vote a t nothing).records refl in omega (arith, zero, now.1, u.1))
    by n made (LastReport m e l to) = last m e l to
    by n made (OnlyMember m low to) = alone m low to

-- a site whose round is in progress may decide
pub rounds_open : RoundsAreOpen
rounds_open sc h site i t r given legal up due is = by r.dir refl
  where
    a : At
    a = place_of sc h site i

    free : is_undecided t a.life.log ≡ true
    free = subst (λ z. LifeOpen site (life_at z)) (trail_moves sc site h) (made_open sc (trail_of sc h) (legal_made sc h legal (given_fit sc h given legal)) site) t r is

    now : open_now a t nothing ≡ true
    now = (now_is a t nothing refl).2 ∙ free

    by : (d : Dir) → r.dir ≡ d → may_decide a t r.dir nothing ≡ true
    by Abort dir = rw dir now
    by Commit dir =
        let voted : has_voted t (log_now a nothing) ≡ true =
        ap (has_voted t) (append-nil a.life.log ∙ life_log_at (moves_of sc h site)) ∙ commits_voted sc h site i t given legal up due (OwnRound r is dir) in
        let both : may_decide a t Commit nothing ≡ true = rw (now, voted) refl in
        ap (λ d. may_decide a t d nothing) dir ∙ both

-- and a step that tells a verdict to attempt records the attempt
pub verdicts_acted : (sc : Scenario) (h : List Entry) (site : ℕ) (i : Input) (t : Txn) (n : ℕ) (dir : Dir) → IsGiven sc → IsLegal sc h → is_up_at h site ≡ true → IsDue sc h site i →
    Contains (made_by sc h site i).told (told.Verdict t n (attempt_verdict dir)) → Contains (made_by sc h site i).records (log.Attempt t n dir)
verdicts_acted sc h site i t n dir given legal up due says =
    contains_from_in (made_by sc h site i).records (log.Attempt t n dir)
    (subst (λ (m : Made). IsIn (log.Attempt t n dir) m.records) same
    (step_acts k guards s fits n dir (subst (λ (m : Made). IsIn (told.Verdict t n (attempt_verdict dir)) m.told) (sym same) (in_from_contains (made_by sc h site i).told (told.Verdict t n (attempt_verdict dir)) says))))
  where
    k : Here
    k = at_place sc h t site i

    s : Stands k
    s = standing sc h site i given legal due t

    fits : MayTake site (unnumbered_input i)
    fits = takes_unnumbered site i (suited sc.weights site i (inputs_suit sc h site i given legal due))

    same : step_at k.at ≡ made_by sc h site i
    same = refl

    guards : Holds k
    guards = record {
      last = λ m e l to. attempts_open sc h site i t m nothing given legal up due (LastReport m e l to);
      alone = λ m low to. attempts_open sc h site i t m (and_record (log.Join t m) nothing) given legal up due (OnlyMember m low to);
    }
