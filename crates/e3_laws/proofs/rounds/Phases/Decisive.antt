-- From an attempt, or from a decision at once, to the tail.
use Rattle.std.proofs.Common.{◌≡◌, ◌==◌, ◌&&◌, ◌+◌, ◌⊎◌, ℕ, suc, Bool, true, false, List, [], ◌∷◌, ◌++◌, append-nil, append_assoc, length, ◌∙◌, ap, sym, subst, refl, arith}
use Rattle.e3_types.specs.declared.entries.Entry.{Entry}
use Rattle.e3_types.specs.declared.scenarios.Scenario.{Scenario}
use Rattle.e3_types.specs.declared.transactions.Dir.{Dir}
use Rattle.e3_types.specs.Quorums.{is_quorum}
use Rattle.e3_types.specs.Sets.{has_site, others}
use Rattle.e3_world.specs.Items.{RecoveryRound}
use Rattle.e3_world.specs.Logs.{is_undecided, last_attempt, last_elected}
use Rattle.e3_world.specs.Making.{nothing, may_decide}
use Rattle.e3_world.specs.Moves.{log_of, moves_of}
use Rattle.e3_world.proofs.Pushes.{life_log_at}
use Rattle.e3_laws.specs.rounds.Rounds.{ToldVerdict}
use Rattle.e3_laws.proofs.rounds.Phases.Acknowledged.{Acknowledged, Won, ack_mail, acknowledged_on, won_begins}
use Rattle.e3_laws.proofs.rounds.Phases.Decided.{Decided, decided_on, fits, may_is, tail_begins}
use Rattle.e3_laws.proofs.rounds.Deliveries.Delivering.{Entered, taking}
use Rattle.e3_laws.proofs.rounds.Tail.{Tail}
use Rattle.e3_laws.proofs.rounds.Phases.Walked.{Each, Turn, Walked, and_then, step_then, walk}
use Rattle.e3_laws.proofs.rounds.Deliveries.Walking.{Rest}
use Rattle.e3_laws.proofs.rounds.Phases.Won.{Prepared, attempt_of, acknowledged_begins, decided_begins, prepared_on, won_on}
use Rattle.std.proofs.lemmas.Bool.{or_parts}

-- acknowledgements come until they make a quorum, and the rest of them late
pub to_win : (sc : Scenario) (start : List Entry) (r : RecoveryRound) (base : List Entry) (n : ℕ) (dir : Dir) (h more : List Entry) (own : ℕ) (said : List ToldVerdict) (done todo : List ℕ) →
    has_site r.members r.elector ≡ true → (is_undecided r.txn (log_of sc base r.elector) && fits r.txn dir (log_of sc base r.elector)) ≡ true →
    Each (Turn r) done todo → is_quorum sc.weights (r.elector ∷ done) r.txn.sites ≡ false → is_quorum sc.weights (r.elector ∷ (done ++ todo)) r.txn.sites ≡ true →
    Rest sc r.members h more → Acknowledged sc start r base n dir h own said done todo →
    Walked sc r h more (λ now. Won sc start r base n dir now (own + length todo) said [])
to_win sc start r base n dir h more own said done [] leads may each few enough rest was =
    absurd (let clash : true ≡ false = sym enough ∙ ap (λ l. is_quorum sc.weights (r.elector ∷ l) r.txn.sites) (append-nil done) ∙ few in cc)
to_win sc start r base n dir h more own said done (m ∷ todo) leads may each few enough rest was =
    by (is_quorum sc.weights (r.elector ∷ (done ++ m ∷ [])) r.txn.sites) refl
    (λ still.
    let one = acknowledged_on sc start r base n dir h more own said done todo m each.0.member leads each.0.away each.0.receives (or_parts (r.elector == m) (has_site done m) each.0.fresh).1 still rest was in
    step_then sc r h more (λ now. Won sc start r base n dir now (suc own + length todo) said []) (λ now. Acknowledged sc start r base n dir now (suc own) said (done ++ m ∷ []) todo) one
    (to_win sc start r base n dir (h ++ one.0 ∷ []) one.1 (suc own) said (done ++ m ∷ []) todo leads may each.1 still
    (ap (λ l. is_quorum sc.weights (r.elector ∷ l) r.txn.sites) (append_assoc done (m ∷ []) todo) ∙ enough) one.3 one.4))
  where
    may_now : may_decide (taking sc h (ack_mail r n dir m)) r.txn dir nothing ≡ true
    may_now =
        may_is (taking sc h (ack_mail r n dir m)) r.txn dir
        ∙ ap (λ l. is_undecided r.txn l && fits r.txn dir l) (life_log_at (moves_of sc h r.elector) ∙ was.logs r.elector) ∙ may

    sums : Walked sc r h more (λ now. Won sc start r base n dir now (suc own + length todo) said []) → Walked sc r h more (λ now. Won sc start r base n dir now (own + suc (length todo)) said [])
    sums w = subst (λ k. Walked sc r h more (λ now. Won sc start r base n dir now k said [])) (let same : suc own + length todo ≡ own + suc (length todo) = omega arith in same) w

    by : (b : Bool) → is_quorum sc.weights (r.elector ∷ (done ++ m ∷ [])) r.txn.sites ≡ b →
        (is_quorum sc.weights (r.elector ∷ (done ++ m ∷ [])) r.txn.sites ≡ false → Walked sc r h more (λ now. Won sc start r base n dir now (suc own + length todo) said [])) →
        Walked sc r h more (λ now. Won sc start r base n dir now (own + suc (length todo)) said [])
    by true makes goes_on =
        let one = won_begins sc start r base n dir h more own said done todo m each.0.member leads each.0.away each.0.receives (or_parts (r.elector == m) (has_site done m) each.0.fresh).1 makes may_now rest was in
        sums (step_then sc r h more (λ now. Won sc start r base n dir now (suc own + length todo) said []) (λ now. Won sc start r base n dir now (suc own) said todo) one
        (walk sc r (λ h own done todo. Won sc start r base n dir h own said todo) (Turn r)
        (λ h more own done todo m turn rest was. won_on sc start r base n dir h more own said todo m turn.member leads turn.away rest was)
        (h ++ one.0 ∷ []) one.1 (suc own) (done ++ m ∷ []) todo each.1 one.3 one.4))
    by false still goes_on = sums (goes_on still)

-- all take the decision
pub to_tail : (sc : Scenario) (start : List Entry) (r : RecoveryRound) (base : List Entry) (dir : Dir) (h more : List Entry) (own : ℕ) (said : List ToldVerdict) (all : List ℕ) →
    has_site r.members r.elector ≡ true → Each (Turn r) [] all → ((s : ℕ) → has_site r.members s ≡ true → has_site (r.elector ∷ all) s ≡ true) →
    ((m : ℕ) → has_site r.members m ≡ true → (is_undecided r.txn (log_of sc base m) ≡ false) ⊎ (fits r.txn dir (log_of sc base m) ≡ true)) →
    Rest sc r.members h more → Decided sc start r base dir h own said [] all →
    Walked sc r h more (λ now. Tail sc r now × Entered start now r (own + length all) said)
to_tail sc start r base dir h more own said all leads each covers either rest was =
    let end = walk sc r (λ h own done todo. Decided sc start r base dir h own said done todo) (Turn r)
    (λ h more own done todo m turn rest was. decided_on sc start r base dir h more own said done todo m turn.member leads turn.from_other turn.once (either m turn.member) rest was)
    h more own [] all each rest was in
    record { now = end.now; later = end.later; is = end.is; rest = end.rest; phase = (tail_begins sc start r base dir end.now (own + length all) said all covers end.phase, end.phase.entered) }

-- all are asked to attempt, and do
pub to_attempts : (sc : Scenario) (start : List Entry) (r : RecoveryRound) (base : List Entry) (n : ℕ) (dir : Dir) (h more : List Entry) (own : ℕ) (said : List ToldVerdict) (all : List ℕ) →
    has_site r.members r.elector ≡ true → Each (Turn r) [] all →
    ((m : ℕ) → has_site r.members m ≡ true → (is_undecided r.txn (log_of sc base m) ≡ true) × ((last_elected r.txn (log_of sc base m) == n) ≡ true) × ((last_attempt r.txn (log_of sc base m) == n) ≡ false)) →
    Rest sc r.members h more → Prepared sc start r base n dir h own said [] all →
    Walked sc r h more (λ now. Acknowledged sc start r now n dir now (own + length all) said [] all × ((s : ℕ) → log_of sc now s ≡ log_of sc base s ++ attempt_of r n dir all s))
to_attempts sc start r base n dir h more own said all leads each ready rest was =
    let end = walk sc r (λ h own done todo. Prepared sc start r base n dir h own said done todo) (Turn r)
    (λ h more own done todo m turn rest was. prepared_on sc start r base n dir h more own said done todo m turn.member leads turn.from_other turn.away turn.fresh
    (ready m turn.member).0 (ready m turn.member).1 (ready m turn.member).2 rest was)
    h more own [] all each rest was in
    record { now = end.now; later = end.later; is = end.is; rest = end.rest; phase = (acknowledged_begins sc start r base n dir end.now (own + length all) said all end.phase, end.phase.logs) }

-- from there to the tail
pub attempts_to_tail : (sc : Scenario) (start : List Entry) (r : RecoveryRound) (n : ℕ) (dir : Dir) (h more : List Entry) (own : ℕ) (said : List ToldVerdict) (all : List ℕ) →
    has_site r.members r.elector ≡ true → Each (Turn r) [] all → others r.elector r.members ≡ all →
    ((s : ℕ) → has_site r.members s ≡ true → has_site (r.elector ∷ all) s ≡ true) →
    (is_undecided r.txn (log_of sc h r.elector) && fits r.txn dir (log_of sc h r.elector)) ≡ true →
    ((m : ℕ) → has_site r.members m ≡ true → (is_undecided r.txn (log_of sc h m) ≡ false) ⊎ (fits r.txn dir (log_of sc h m) ≡ true)) →
    is_quorum sc.weights (r.elector ∷ []) r.txn.sites ≡ false → is_quorum sc.weights (r.elector ∷ all) r.txn.sites ≡ true →
    Rest sc r.members h more → Acknowledged sc start r h n dir h own said [] all →
    Walked sc r h more (λ now. Tail sc r now × Entered start now r ((own + length all) + length all) said)
attempts_to_tail sc start r n dir h more own said all leads each all_are covers may either few enough rest was =
    let won = to_win sc start r h n dir h more own said [] all leads may each few enough rest was in
    and_then sc r h more (λ now. Won sc start r h n dir now (own + length all) said []) _ won
    (to_tail sc start r h dir won.now won.later (own + length all) said all leads each covers either won.rest
    (subst (λ l. Decided sc start r h dir won.now (own + length all) said [] l) all_are (decided_begins sc start r h n dir won.now (own + length all) said won.phase)))
