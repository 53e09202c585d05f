-- A step does what it is asked for.
use Rattle.std.proofs.Common.{◌≡◌, inl, ◌==◌, ◌&&◌, ◌∷◌, ◌++◌, [], ℕ, Bool, true, false, not, List, Option, Some, None, refl, ap, sym, subst, ◌∙◌, if◌then◌else◌, eq-eqb}
use Rattle.std.specs.Prelude.{Contains}
use Rattle.e3_types.specs.declared.entries.Entry.{Entry}
use Rattle.e3_types.specs.declared.entries.Input.{Input}
use Rattle.e3_types.specs.declared.entries.Input.TheVariants as input
use Rattle.e3_types.specs.declared.entries.Refusal.{Refusal}
use Rattle.e3_types.specs.declared.entries.Refusal.TheVariants as refusal
use Rattle.e3_types.specs.declared.entries.Told.TheVariants as told
use Rattle.e3_types.specs.declared.messages.Message.{Message}
use Rattle.e3_types.specs.declared.messages.Message.TheVariants as msg
use Rattle.e3_types.specs.declared.messages.Packet.{Packet}
use Rattle.e3_types.specs.declared.records.Record.TheVariants as log
use Rattle.e3_types.specs.declared.scenarios.Scenario.{Scenario}
use Rattle.e3_types.specs.declared.transactions.Dir.{Dir}
use Rattle.e3_types.specs.declared.transactions.Dir.TheVariants.{Abort, Commit}
use Rattle.e3_types.specs.declared.transactions.State.{State}
use Rattle.e3_types.specs.declared.transactions.State.TheVariants.{Q, W, Pc, Pa, C, A}
use Rattle.e3_types.specs.declared.transactions.Txn.{Txn}
use Rattle.e3_types.specs.Quorums.{is_quorum}
use Rattle.e3_types.specs.Same.{same_dir, same_state}
use Rattle.e3_types.specs.Sets.{has_site, is_within, others}
use Rattle.e3_world.specs.declared.lives.At.{At}
use Rattle.e3_world.specs.declared.lives.Made.{Made}
use Rattle.e3_world.specs.AttemptRules.{on_ack}
use Rattle.e3_world.specs.Gatherings.{Round}
use Rattle.e3_world.specs.Given.{IsGiven}
use Rattle.e3_world.specs.Legal.{IsDue, IsLegal, made_by}
use Rattle.e3_world.specs.Lives.{incarnation_of, life_at}
use Rattle.e3_world.specs.Logs.{decision}
use Rattle.e3_world.specs.Making.{nothing, log_now, state_now, elected_now, attempt_now, is_coordinator, is_present, may_attempt, may_decide, and_cast, and_decide, and_attempt, and_vote}
use Rattle.e3_world.specs.Messages.{on_message}
use Rattle.e3_world.specs.Moves.{log_of, moves_of, moves_at, trail_of, unnumbered_input}
use Rattle.e3_world.specs.Operations.{kept_reason, unanswered}
use Rattle.e3_world.specs.Rounds.{count_ack, round_in_progress}
use Rattle.e3_world.specs.Safe.{said_told}
use Rattle.e3_world.specs.Sound.{WasSent}
use Rattle.e3_world.specs.Steps.{on_commit, on_input, or_refused, refuse, refuse_late, step_at, step_of}
use Rattle.e3_world.specs.VoteRules.{on_yes}
use Rattle.e3_world.proofs.Pushes.{life_log_at, step_unnumbered}
use Rattle.e3_world.proofs.Trails.{trail_moves}
use Rattle.e3_laws.specs.agreement.Asked.{AsksToAttempt, ByLastYes, ByOwnCommit, ByVerdict, AsksToDecide, ByDecision, ByQuorum, ByFinalVerdict, AttemptsAreMade, DecisionsAreMade, decision_verdict}
use Rattle.e3_laws.specs.agreement.Guards.{place_of, LastYes, OnlySite}
use Rattle.e3_laws.specs.agreement.Logs.{IsIn}
use Rattle.e3_laws.specs.agreement.Rows.{MayTake, Stands}
use Rattle.e3_laws.specs.agreement.Trails.{IsMade}
use Rattle.e3_laws.proofs.agreement.Fitting.{given_fit}
use Rattle.e3_laws.proofs.agreement.Guarding.Acting.{attempt_in}
use Rattle.e3_laws.proofs.agreement.Guarding.Calm.{Adds}
use Rattle.e3_laws.proofs.agreement.Guarding.Open.{attempts_open, rounds_open, verdicts_acted}
use Rattle.e3_laws.proofs.agreement.Guarding.Quiet.{step_adds}
use Rattle.e3_laws.proofs.agreement.Guarding.Voted.{at_place, decisions_taken, standing, suited}
use Rattle.e3_laws.proofs.agreement.Histories.{due_taken, legal_made}
use Rattle.e3_laws.proofs.agreement.Refinement.Elections.{cast_records}
use Rattle.e3_laws.proofs.agreement.Refinement.Following.{in_from_contains}
use Rattle.e3_laws.proofs.agreement.Refinement.Growing.{takes_unnumbered}
use Rattle.e3_laws.proofs.agreement.Refinement.Lists.{in_left, in_right}
use Rattle.e3_laws.proofs.agreement.Refinement.Voting.{contains_from_in}
use Rattle.e3_laws.proofs.agreement.Saying.{AllStood}
use Rattle.e3_laws.proofs.agreement.Telling.{made_lives_tell, step_tells}
use Rattle.e3_laws.proofs.steps.Suits.Laws.{inputs_suit}

-- what may be taken at the place of a step
fits_place : (sc : Scenario) (h : List Entry) (site : ℕ) (i : Input) → IsGiven sc → IsLegal sc h → IsDue sc h site i → MayTake site (unnumbered_input i)
fits_place sc h site i given legal due = takes_unnumbered site i (suited sc.weights site i (inputs_suit sc h site i given legal due))

-- a commit that is not refused is of a transaction in q
allowed_idle : (a : At) (t : Txn) → refuse a t false nothing ≡ None → state_now a t nothing ≡ Q
allowed_idle a t allowed = by (decision t (log_now a nothing)) (kept_reason t a.life.steps) refl refl
  where
    some : (why : Refusal) → refuse a t false nothing ≡ Some why → state_now a t nothing ≡ Q
    some why is = absurd (let clash : None ≡ Some why = sym allowed ∙ is in cc)

    late : Refusal
    late = refusal.TooLate (attempt_now a t nothing)

    too_late : (st : State) → state_now a t nothing ≡ st → (refuse_late a t nothing ≡ Some late → state_now a t nothing ≡ Q) → state_now a t nothing ≡ Q
    too_late Q is to = is
    too_late W is to = to (rw is refl)
    too_late Pc is to = to (rw is refl)
    too_late Pa is to = to (rw is refl)
    too_late C is to = to (rw is refl)
    too_late A is to = to (rw is refl)

    busy : (o : Option ℕ) → unanswered t (log_now a nothing) a.life.steps ≡ o → decision t (log_now a nothing) ≡ None → is_present a t ≡ true → state_now a t nothing ≡ Q
    busy (Some n) waits is here = some (refusal.Busy n) (rw (is, here, waits) refl)
    busy None waits is here = too_late (state_now a t nothing) refl (λ because. some late (rw (is, here, waits) because))

    present : (b : Bool) → is_present a t ≡ b → decision t (log_now a nothing) ≡ None → state_now a t nothing ≡ Q
    present false here is = some refusal.NoTxn (rw (is, here) refl)
    present true here is = busy (unanswered t (log_now a nothing) a.life.steps) refl is here

    by : (d : Option Dir) (l : List Refusal) → decision t (log_now a nothing) ≡ d → kept_reason t a.life.steps ≡ l → state_now a t nothing ≡ Q
    by None l is why = present (is_present a t) refl is
    by (Some dir) [] is why = some (refusal.Over dir) (rw (is, why) refl)
    by (Some dir) (w ∷ more) is why = some w (rw (is, why) refl)

pub attempts_made : AttemptsAreMade
attempts_made sc h site i t n dir given legal up due asks = by n dir asks
  where
    a : At
    a = place_of sc h site i

    s : Stands (at_place sc h t site i)
    s = standing sc h site i given legal due t

    -- what the rule records the step records
    goes_on : (n : ℕ) (dir : Dir) (to : List ℕ) (made : Made) → may_attempt a t n made ≡ true → on_input a a.input nothing ≡ and_attempt a t n dir to made → Contains (step_at a).records (log.Attempt t n dir)
    goes_on n dir to made may is =
        let x : Adds (and_attempt a t n dir to made) (step_at a) = step_adds (at_place sc h t site i) (and_attempt a t n dir to made) s (fits_place sc h site i given legal due) is in
        contains_from_in (step_at a).records (log.Attempt t n dir)
        (subst (λ z. IsIn (log.Attempt t n dir) z) (sym x.records) (in_left (log.Attempt t n dir) (and_attempt a t n dir to made).records x.more (attempt_in a t n dir to made may)))

    by : (n : ℕ) (dir : Dir) → AsksToAttempt a t n dir → Contains (made_by sc h site i).records (log.Attempt t n dir)
    by n dir (ByLastYes packet came taken says leads waits one votes all) =
        let test : (is_coordinator a t && same_state (state_now a t nothing) W && elected_now a t nothing == 1) ≡ true = rw (leads, waits, eq-eqb (elected_now a t nothing) 1 one) refl in
        let made : on_yes a t nothing ≡ and_attempt a t 1 Commit t.sites nothing = rw (test, votes) (let choice : (if is_within (others a.site t.sites) came then and_attempt a t 1 Commit t.sites nothing else nothing) ≡ and_attempt a t 1 Commit t.sites nothing = rw all refl in choice) in
        goes_on 1 Commit t.sites nothing (attempts_open sc h site i t 1 nothing given legal up due (LastYes waits one))
        (ap (λ j. on_input a j nothing) taken ∙ ap (λ z. on_message a packet.«from» z nothing) says ∙ made)
    by n dir (ByOwnCommit taken allowed none one) =
        let first : (elected_now a t nothing == 1) ≡ true = eq-eqb (elected_now a t nothing) 1 one in
        let commits : on_commit a t nothing ≡ and_attempt a t 1 Commit t.sites (and_vote a t nothing) = rw (first, none) refl in
        let made : or_refused t (refuse a t false nothing) (on_commit a t nothing) ≡ on_commit a t nothing = rw allowed refl in
        goes_on 1 Commit t.sites (and_vote a t nothing) (attempts_open sc h site i t 1 (and_vote a t nothing) given legal up due (OnlySite (allowed_idle a t allowed) one))
        (ap (λ j. on_input a j nothing) taken ∙ made ∙ commits)
    by n dir (ByVerdict m way says) = verdicts_acted sc h site i t m way given legal up due says

-- a round with an acknowledgement is of the same attempt
same_round : (r : Round) (f n : ℕ) (d : Dir) → ((count_ack r f n d).n ≡ r.n) × ((count_ack r f n d).dir ≡ r.dir)
same_round r f n d = by (r.n == n && same_dir r.dir d && has_site r.to f && not (has_site r.acked f)) refl
  where
    by : (b : Bool) → (r.n == n && same_dir r.dir d && has_site r.to f && not (has_site r.acked f)) ≡ b → ((count_ack r f n d).n ≡ r.n) × ((count_ack r f n d).dir ≡ r.dir)
    by true is = rw is (refl, refl)
    by false is = rw is (refl, refl)

same_way : (d e : Dir) → d ≡ e → same_dir d e ≡ true
same_way Commit Commit is = refl
same_way Abort Abort is = refl
same_way Commit Abort is = cc
same_way Abort Commit is = cc

pub decisions_made : DecisionsAreMade
decisions_made sc h site i t dir given legal up due asks = by dir asks
  where
    a : At
    a = place_of sc h site i

    s : Stands (at_place sc h t site i)
    s = standing sc h site i given legal due t

    recorded : (d : Dir) → IsIn (log.Decision t d) (and_decide a t d nothing).records
    recorded d = go (is_coordinator a t && is_present a t) refl
      where
        go : (b : Bool) → (is_coordinator a t && is_present a t) ≡ b → IsIn (log.Decision t d) (and_decide a t d nothing).records
        go true is = rw is (inl refl)
        go false is = rw is (inl refl)

    -- with the decision the round's receivers are told
    decides : (d : Dir) (to : List ℕ) → on_input a a.input nothing ≡ and_cast a to (msg.Decide t d) (and_decide a t d nothing) → IsIn (log.Decision t d) (step_at a).records
    decides d to is =
        let x : Adds (and_cast a to (msg.Decide t d) (and_decide a t d nothing)) (step_at a) =
        step_adds (at_place sc h t site i) (and_cast a to (msg.Decide t d) (and_decide a t d nothing)) s (fits_place sc h site i given legal due) is in
        subst (λ z. IsIn (log.Decision t d) z) (sym (x.records ∙ ap (λ z. z ++ x.more) (cast_records a to (msg.Decide t d) (and_decide a t d nothing))))
        (in_left (log.Decision t d) (and_decide a t d nothing).records x.more (recorded d))

    quorum : (packet : Packet) (r : Round) → a.input ≡ input.Deliver packet → packet.msg ≡ msg.Ack t r.n r.dir → round_in_progress a.site t a.life.steps ≡ Some r →
        is_quorum a.weights (a.site ∷ (count_ack r packet.«from» r.n r.dir).acked) t.sites ≡ true → IsIn (log.Decision t r.dir) (step_at a).records
    quorum packet r taken says is most =
        let q : Round = count_ack r packet.«from» r.n r.dir in
        let same = same_round r packet.«from» r.n r.dir in
        let may : may_decide a t r.dir nothing ≡ true = rounds_open sc h site i t r given legal up due is in
        let test : (q.n == r.n && same_dir q.dir r.dir && may_decide a t r.dir nothing && is_quorum a.weights (a.site ∷ q.acked) t.sites) ≡ true =
        rw (eq-eqb q.n r.n same.0, same_way q.dir r.dir same.1, may, most) refl in
        let made : on_ack a packet.«from» t r.n r.dir nothing ≡ and_cast a q.to (msg.Decide t r.dir) (and_decide a t r.dir nothing) =
        rw is (let choice : (if q.n == r.n && same_dir q.dir r.dir && may_decide a t r.dir nothing && is_quorum a.weights (a.site ∷ q.acked) t.sites then and_cast a q.to (msg.Decide t r.dir) (and_decide a t r.dir nothing) else nothing)
        ≡ and_cast a q.to (msg.Decide t r.dir) (and_decide a t r.dir nothing) = rw test refl in choice) in
        decides r.dir q.to (ap (λ j. on_input a j nothing) taken ∙ ap (λ z. on_message a packet.«from» z nothing) says ∙ made)

    by : (d : Dir) → AsksToDecide a t d → Contains (log_of sc h site ++ (made_by sc h site i).records) (log.Decision t d)
    by d (ByDecision packet e taken says) = decided i due taken
      where
        decided : (j : Input) → IsDue sc h site j → unnumbered_input j ≡ input.Deliver packet → Contains (log_of sc h site ++ (made_by sc h site j).records) (log.Decision t e)
        decided (input.Deliver p) due_p same =
            decisions_taken sc h site p t e given legal up due_p (ap message_of same ∙ says)
          where
            message_of : Input → Message
            message_of (input.Deliver z) = z.msg
            message_of other = p.msg
        decided (input.Begin sites) due_p same = cc
        decided (input.Do u op) due_p same = cc
        decided (input.Commit u) due_p same = cc
        decided (input.Cancel u) due_p same = cc
        decided (input.Expire u) due_p same = cc
        decided (input.Elect u group) due_p same = cc
    by d (ByQuorum packet r taken says is most) =
        contains_from_in (log_of sc h site ++ (made_by sc h site i).records) (log.Decision t r.dir)
        (in_right (log.Decision t r.dir) (log_of sc h site) (step_at a).records (quorum packet r taken says is most))
    by d (ByFinalVerdict n e says) =
        contains_from_in (log_of sc h site ++ (made_by sc h site i).records) (log.Decision t e)
        (subst (λ z. IsIn (log.Decision t e) (z ++ (made_by sc h site i).records)) (life_log_at (moves_of sc h site))
        (stood (told.Verdict t n (decision_verdict e)) (in_from_contains (made_by sc h site i).told (told.Verdict t n (decision_verdict e)) says) (record { txn = t; dir = e }) (said e)))
      where
        made : IsMade sc (trail_of sc h)
        made = legal_made sc h legal (given_fit sc h given legal)

        taken : MayTake site (unnumbered_input i) × WasSent (trail_of sc h) (unnumbered_input i)
        taken = due_taken sc h site i due (λ no_packet. suited sc.weights site i (inputs_suit sc h site i given legal due))

        stood : (x : _) → IsIn x (made_by sc h site i).told → AllStood ((life_at (moves_of sc h site)).log ++ (made_by sc h site i).records) x
        stood =
            let now = step_tells sc (trail_of sc h) site (unnumbered_input i) made taken.0 taken.1 (made_lives_tell sc (trail_of sc h) made site) in
            subst (λ z. (x : _) → IsIn x (step_of sc.weights site (incarnation_of z) i).told → AllStood ((life_at z).log ++ (step_of sc.weights site (incarnation_of z) i).records) x) (trail_moves sc site h)
            (subst (λ (m : Made). (x : _) → IsIn x m.told → AllStood ((life_at (moves_at site (trail_of sc h))).log ++ m.records) x) (step_unnumbered sc.weights site (incarnation_of (moves_at site (trail_of sc h))) i) now.told)

        said : (e : Dir) → IsIn (record { txn = t; dir = e }) (said_told (told.Verdict t n (decision_verdict e)))
        said Commit = inl refl
        said Abort = inl refl
