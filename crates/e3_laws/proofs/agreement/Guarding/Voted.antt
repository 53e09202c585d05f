-- Who is asked to commit has voted.
use Rattle.e3_types.specs.declared.messages.Message.TheVariants as msg
use Rattle.e3_world.specs.Items.{is_up_at}
use Rattle.e3_types.specs.declared.transactions.Dir.{Dir}
use Rattle.e3_types.specs.declared.messages.Packet.{Packet}
use Rattle.std.proofs.Common.{◌≡◌, inl, inr, ◌∷◌, [], ◌++◌, ℕ, Bool, true, false, List, map, Some, refl, sym, ap, subst, ◌∙◌, append-nil}
use Rattle.e3_types.specs.declared.entries.Entry.{Entry}
use Rattle.e3_types.specs.declared.entries.Input.{Input}
use Rattle.e3_types.specs.declared.entries.Input.TheVariants as input
use Rattle.e3_types.specs.declared.scenarios.Scenario.{Scenario}
use Rattle.e3_types.specs.declared.transactions.Dir.TheVariants.{Commit}
use Rattle.e3_types.specs.declared.transactions.Txn.{Txn}
use Rattle.e3_types.specs.Sets.{has_site}
use Rattle.e3_world.specs.Gatherings.{Election}
use Rattle.e3_world.specs.Given.{IsGiven}
use Rattle.e3_world.specs.Legal.{IsDue, IsLegal, made_by}
use Rattle.e3_world.specs.Lives.{life_at}
use Rattle.e3_world.specs.Logs.{has_voted}
use Rattle.e3_world.specs.Moves.{log_of, moves_of, trail_of, unnumbered_input}
use Rattle.e3_world.specs.Sound.{WasSent}
use Rattle.e3_world.proofs.Pushes.{life_log_at}
use Rattle.e3_world.proofs.Trails.{trail_moves}
use Rattle.e3_laws.specs.agreement.Guards.{place_of, IsLastReport, AsksCommit, Decided, OwnRound, Concluded, ConcludedAlone, CommitsAreVoted, own_report}
use Rattle.e3_laws.specs.agreement.Invariant.{Voted}
use Rattle.e3_laws.specs.agreement.Logs.{IsIn, Attempt, Decision, Final}
use Rattle.e3_laws.specs.agreement.Rules.{Came, Decide, Report, letter}
use Rattle.e3_laws.specs.agreement.Rows.{Here, party, own_log, MayTake, WasHeard, Stands}
use Rattle.e3_laws.specs.agreement.Trails.{marks_of, IsMade}
use Rattle.e3_laws.specs.agreement.Verdicts.{reply_of, FinalIn, Rules, status_in}
use Rattle.e3_laws.specs.agreement.Views.{words_of}
use Rattle.e3_laws.proofs.agreement.Finding.{final_found, final_somewhere, stands_already}
use Rattle.e3_laws.proofs.agreement.Fitting.{given_fit}
use Rattle.e3_laws.proofs.agreement.Histories.{due_taken, legal_made}
use Rattle.e3_laws.proofs.agreement.Protocol.Agree.{all_voted}
use Rattle.e3_laws.proofs.agreement.Protocol.Shares.{in_from_has}
use Rattle.e3_laws.proofs.agreement.Refinement.Gathered.{ElectionStands, ElectionOk, NumberedOk, take_ok, election_stands}
use Rattle.e3_laws.proofs.agreement.Refinement.Gatherings.{in_word, RoundOk, round_stands}
use Rattle.e3_laws.proofs.agreement.Refinement.Growing.{here}
use Rattle.e3_laws.proofs.agreement.Refinement.Lists.{in_map, same_from}
use Rattle.e3_laws.proofs.agreement.Refinement.Readings.{has_from_vote}
use Rattle.e3_laws.proofs.agreement.Refinement.Verdicts.{rules_of}
use Rattle.e3_laws.proofs.agreement.Telling.{stands_before}
use Rattle.std.specs.Prelude.{Contains}
use Rattle.std.proofs.lemmas.List.Elements.{Contains-append_left}
use Rattle.e3_types.specs.declared.records.Record.TheVariants as log
use Rattle.e3_laws.specs.agreement.Facts.{Has}
use Rattle.e3_laws.specs.steps.Bounds.{Suits}
use Rattle.e3_laws.specs.steps.Trails.{tail_records}
use Rattle.e3_world.specs.Moves.{open_tail}
use Rattle.e3_world.specs.Orderly.{is_among}
use Rattle.e3_laws.proofs.agreement.Binding.{Lifted, lifted, attempt_out}
use Rattle.e3_laws.proofs.steps.Suits.Among.{among_self, within_has}
use Rattle.e3_laws.proofs.steps.Suits.Inputs.{suits_unnumbered}
use Rattle.e3_laws.proofs.steps.Suits.Laws.{inputs_suit, records_suit}
use Rattle.e3_types.specs.Same.{same_txn}
use Rattle.e3_laws.specs.agreement.Marks.{situation_of}
use Rattle.e3_world.specs.Sound.{txn_in}
use Rattle.e3_laws.specs.agreement.Rules.{Replied, Reply}
use Rattle.e3_world.specs.Making.{nothing, log_now, is_coordinator, is_present, may_decide, and_decide}
use Rattle.e3_world.specs.Messages.{on_message}
use Rattle.e3_world.specs.Steps.{on_input, step_at}
use Rattle.std.proofs.Common.{◌&&◌, if◌then◌else◌}
use Rattle.e3_laws.proofs.agreement.Guarding.Calm.{Adds}
use Rattle.e3_laws.proofs.agreement.Guarding.Quiet.{step_adds}
use Rattle.e3_laws.proofs.agreement.Refinement.Growing.{takes_unnumbered}
use Rattle.e3_laws.proofs.agreement.Refinement.Voting.{contains_from_in}
use Rattle.e3_laws.proofs.agreement.Refinement.Lists.{in_left, in_right}

-- an input that suits a site may be taken
pub suited : (weights : List ℕ) (site : ℕ) (i : Input) → Suits weights site i → MayTake site i
suited weights site (input.Begin sites) fit = tt
suited weights site (input.Do t op) fit = (among_self weights site t.sites fit.0, fit.2)
suited weights site (input.Commit t) fit = (among_self weights site t.sites fit.0, fit.1)
suited weights site (input.Cancel t) fit = fit.1
suited weights site (input.Expire t) fit = among_self weights site t.sites fit
suited weights site (input.Elect t group) fit = (among_self weights site t.sites fit.0, fit.1, fit.2)
suited weights site (input.Deliver packet) fit = fit.0

unnumbered_once : (i : Input) → unnumbered_input (unnumbered_input i) ≡ unnumbered_input i
unnumbered_once (input.Begin sites) = refl
unnumbered_once (input.Do t op) = refl
unnumbered_once (input.Commit t) = refl
unnumbered_once (input.Cancel t) = refl
unnumbered_once (input.Expire t) = refl
unnumbered_once (input.Elect t group) = refl
unnumbered_once (input.Deliver packet) = refl

-- a transaction at the place of a step
abbrev pub at_place : Scenario → List Entry → Txn → ℕ → Input → Here
at_place sc h t site i = record { txn = t; at = place_of sc h site i; before = situation_of (marks_of sc t (trail_of sc h)) }

-- what stands there
pub standing : (sc : Scenario) (h : List Entry) (site : ℕ) (i : Input) → IsGiven sc → IsLegal sc h → IsDue sc h site i → (t : Txn) → Stands (at_place sc h t site i)
standing sc h site i given legal due t =
    subst (λ z. Stands (record { txn = t; at = record { weights = sc.weights; site = site; life = life_at (moves_of sc h site); input = z }; before = situation_of (marks_of sc t (trail_of sc h)) })) (unnumbered_once i)
    (subst (λ z. Stands (here sc t (marks_of sc t (trail_of sc h)) site (life_at z) (unnumbered_input i))) (trail_moves sc site h)
    (stands_before sc (trail_of sc h) site (unnumbered_input i) made taken.0 taken.1 t))
  where
    made : IsMade sc (trail_of sc h)
    made = legal_made sc h legal (given_fit sc h given legal)

    taken : MayTake site (unnumbered_input i) × WasSent (trail_of sc h) (unnumbered_input i)
    taken = due_taken sc h site i due (λ no_packet. suited sc.weights site i (inputs_suit sc h site i given legal due))

-- where all voted, the log of the site has its vote
vote_stands : (h : Here) → Stands h → has_site h.txn.sites h.at.site ≡ true → Voted (party h) h.before → has_voted h.txn h.at.life.log ≡ true
vote_stands h s member voted = s.reads.votes ∙ has_from_vote (own_log h) (voted.0 h.at.site (in_from_has h.at.site h.txn.sites member))

-- what stands of the election behind its last report
pub last_stands : (h : Here) (n : ℕ) (e : Election) → Stands h → IsLastReport h.at h.txn n e → ElectionStands h e × (e.number ≡ Some n)
last_stands h n e s last =
    subst (λ o. NumberedOk h n o) last.counts
    (take_ok h last.was n (record { site = last.packet.«from»; state = last.state; attempt = last.attempt }) (subst (λ o. ElectionOk h o) last.in_progress (election_stands h s)) came)
  where
    word : IsIn (Report n (status_in last.state) last.attempt) (words_of h.txn last.packet.msg)
    word = subst (λ z. IsIn (Report n (status_in last.state) last.attempt) (words_of h.txn z)) (sym last.reports) (in_word (same_txn h.txn h.txn) (Report n (status_in last.state) last.attempt) (same_from h.txn h.txn refl))

    came : Came h.before.sent last.packet.«from» h.at.site (Report n (status_in last.state) last.attempt)
    came = (subst (λ i. WasHeard h i) last.taken s.taken) (Report n (status_in last.state) last.attempt) word

-- a member of the group is a site of the transaction
pub member_stands : (h : Here) (e : Election) → ElectionStands h e → has_site h.txn.sites h.at.site ≡ true
member_stands h e ok = within_has e.group h.txn.sites h.at.site ok.within ok.own

pub commits_voted : CommitsAreVoted
commits_voted sc h site i t given legal up due asks = subst (λ z. has_voted t z ≡ true) (life_log_at (moves_of sc h site)) (by asks)
  where
    k : Here
    k = at_place sc h t site i

    s : Stands k
    s = standing sc h site i given legal due t

    suits : Suits sc.weights site (unnumbered_input i)
    suits = suits_unnumbered sc.weights site i (inputs_suit sc h site i given legal due)

    by : AsksCommit (place_of sc h site i) t → has_voted t k.at.life.log ≡ true
    by (Decided packet taken says) =
        let member : has_site t.sites site ≡ true =
        among_self sc.weights site t.sites (subst (λ z. is_among site sc.weights (txn_in z).sites ≡ true) says (subst (λ z. Suits sc.weights site z) taken suits).2.among) in
        let word : IsIn (Decide Commit) (words_of t packet.msg) = subst (λ z. IsIn (Decide Commit) (words_of t z)) (sym says) (in_word (same_txn t t) (Decide Commit) (same_from t t refl)) in
        let came : Came k.before.sent packet.«from» site (Decide Commit) = (subst (λ z. WasHeard k z) taken s.taken) (Decide Commit) word in
        let there : IsIn (Decision Commit) (k.before.log packet.«from») = s.kept.letters (letter packet.«from» site (Decide Commit)) came in
        vote_stands k s member (all_voted (party k) k.before s.kept (s.kept.reason packet.«from» Commit there))
    by (OwnRound r is dir) =
        let ok : RoundOk k (Some r) = subst (λ o. RoundOk k o) is (round_stands k s) in
        let tried : IsIn (Attempt r.n Commit) (own_log k) = subst (λ d. IsIn (Attempt r.n d) (own_log k)) dir ok.own in
        let l : Lifted sc h t = lifted sc h t given legal in
        let has : Has sc h site (log.Attempt t r.n Commit) = attempt_out sc h t site r.n Commit l (subst (λ z. IsIn (Attempt r.n Commit) z) (sym (l.noted site)) tried) in
        let member : is_among site sc.weights t.sites ≡ true =
        records_suit sc h site (log.Attempt t r.n Commit) given legal (Contains-append_left (log_of sc h site) (tail_records (open_tail sc h site)) (log.Attempt t r.n Commit) has) in
        vote_stands k s (among_self sc.weights site t.sites member) (s.kept.voted site r.n tried)
    by (Concluded n e last is) =
        let ok = last_stands k n e s last in
        let final : FinalIn (map reply_of e.reports) Commit = subst (λ v. Rules sc.weights t.sites e.reports v) is (rules_of sc.weights t.sites e.reports) in
        let f = in_map reply_of final.0 e.reports final.1 in
        let replied = subst (λ z. Replied k.before.sent (own_log k) site n z) (sym f.2) ((ok.0.reports n ok.1).replied f.0 f.1) in
        let there = final_somewhere k n Commit final.0 s replied final.2 in
        vote_stands k s (member_stands k e ok.0) (all_voted (party k) k.before s.kept (s.kept.reason there.0 Commit there.1))
    by (ConcludedAlone is) =
        let final : FinalIn (map reply_of (own_report k.at t ∷ [])) Commit = subst (λ v. Rules sc.weights t.sites (own_report k.at t ∷ []) v) is (rules_of sc.weights t.sites (own_report k.at t ∷ [])) in
        let has : IsIn (log.Decision t Commit) (log_now k.at nothing) = own_final final.0 final.1 final.2 in
        let inside : IsIn (log.Decision t Commit) (log_of sc h site) = subst (λ z. IsIn (log.Decision t Commit) z) (append-nil k.at.life.log ∙ life_log_at (moves_of sc h site)) has in
        let member : is_among site sc.weights t.sites ≡ true =
        records_suit sc h site (log.Decision t Commit) given legal
        (Contains-append_left (log_of sc h site) (tail_records (open_tail sc h site)) (log.Decision t Commit) (contains_from_in (log_of sc h site) (log.Decision t Commit) inside)) in
        let noted : IsIn (Decision Commit) (own_log k) = s.reads.keeps t Commit (same_from t t refl) (subst (λ z. IsIn (log.Decision t Commit) z) (append-nil k.at.life.log) has) in
        vote_stands k s (among_self sc.weights site t.sites member) (all_voted (party k) k.before s.kept (s.kept.reason site Commit noted))
      where
        own_final : (r : Reply) → IsIn r (map reply_of (own_report k.at t ∷ [])) → r.stood ≡ Final Commit → IsIn (log.Decision t Commit) (log_now k.at nothing)
        own_final r (inl same) stood = final_found t (log_now k.at nothing) Commit (sym (ap (λ (z : Reply). z.stood) same) ∙ stood)
        own_final r (inr none) stood = absurd none

-- a decision that comes is recorded, or was
pub decisions_taken : (sc : Scenario) (h : List Entry) (site : ℕ) (packet : Packet) (t : Txn) (dir : Dir) → IsGiven sc → IsLegal sc h → is_up_at h site ≡ true →
    IsDue sc h site (input.Deliver packet) → packet.msg ≡ msg.Decide t dir → Contains (log_of sc h site ++ (made_by sc h site (input.Deliver packet)).records) (log.Decision t dir)
decisions_taken sc h site packet t dir given legal up due says =
    contains_from_in (log_of sc h site ++ (step_at k.at).records) (log.Decision t dir)
    (subst (λ z. IsIn (log.Decision t dir) (z ++ (step_at k.at).records)) (life_log_at (moves_of sc h site)) (by (may_decide k.at t dir nothing) refl))
  where
    i : Input
    i = input.Deliver packet

    k : Here
    k = at_place sc h t site i

    s : Stands k
    s = standing sc h site i given legal due t

    suits : Suits sc.weights site (unnumbered_input i)
    suits = suits_unnumbered sc.weights site i (inputs_suit sc h site i given legal due)

    member : has_site t.sites site ≡ true
    member = among_self sc.weights site t.sites (subst (λ z. is_among site sc.weights (txn_in z).sites ≡ true) says suits.2.among)

    there : IsIn (Decision dir) (k.before.log packet.«from»)
    there =
        let word : IsIn (Decide dir) (words_of t packet.msg) = subst (λ z. IsIn (Decide dir) (words_of t z)) (sym says) (in_word (same_txn t t) (Decide dir) (same_from t t refl)) in
        s.kept.letters (letter packet.«from» site (Decide dir)) (s.taken (Decide dir) word)

    -- what the message makes
    made : on_input k.at k.at.input nothing ≡ (if may_decide k.at t dir nothing then and_decide k.at t dir nothing else nothing)
    made = ap (λ z. on_message k.at packet.«from» z nothing) says

    by : (b : Bool) → may_decide k.at t dir nothing ≡ b → IsIn (log.Decision t dir) (k.at.life.log ++ (step_at k.at).records)
    by true may =
        let now : on_input k.at k.at.input nothing ≡ and_decide k.at t dir nothing = made ∙ ap (λ b. if b then and_decide k.at t dir nothing else nothing) may in
        let x : Adds (and_decide k.at t dir nothing) (step_at k.at) = step_adds k (and_decide k.at t dir nothing) s (takes_unnumbered site i (suited sc.weights site i (inputs_suit sc h site i given legal due))) now in
        in_right (log.Decision t dir) k.at.life.log (step_at k.at).records
        (subst (λ z. IsIn (log.Decision t dir) z) (sym x.records) (in_left (log.Decision t dir) (and_decide k.at t dir nothing).records x.more (recorded (is_coordinator k.at t && is_present k.at t) refl)))
      where
        recorded : (b : Bool) → (is_coordinator k.at t && is_present k.at t) ≡ b → IsIn (log.Decision t dir) (and_decide k.at t dir nothing).records
        recorded true is = rw is (inl refl)
        recorded false is = rw is (inl refl)
    by false shut =
        in_left (log.Decision t dir) k.at.life.log (step_at k.at).records
        (subst (λ z. IsIn (log.Decision t dir) z) (append-nil k.at.life.log) (stands_already k dir s member (packet.«from», there) shut))
