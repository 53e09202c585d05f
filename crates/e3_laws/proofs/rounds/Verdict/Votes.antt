-- A commit has votes: where one is attempted or decided, all sites of the transaction have voted.
use Rattle.std.proofs.Common.{◌≡◌, ◌==◌, ◌||◌, ◌∷◌, [], ℕ, Bool, true, false, List, Option, Some, None, inl, inr, ◌∙◌, ap, sym, subst, refl, map, arith, eqb-true, nat_lt, ◌&&◌}
use Rattle.std.proofs.lemmas.Bool.{and_parts}
use Rattle.std.proofs.lemmas.Grind.{common_steps}
use Rattle.e3_types.specs.declared.entries.Entry.{Entry}
use Rattle.e3_types.specs.declared.records.Record.{Record}
use Rattle.e3_types.specs.declared.records.Record.TheVariants as log
use Rattle.e3_types.specs.declared.scenarios.Scenario.{Scenario}
use Rattle.e3_types.specs.declared.transactions.Dir.TheVariants.{Abort, Commit}
use Rattle.e3_types.specs.declared.transactions.NumOp.{NumOp}
use Rattle.e3_types.specs.declared.transactions.State.TheVariants.{C}
use Rattle.e3_types.specs.declared.transactions.Dir.{Dir}
use Rattle.e3_types.specs.declared.transactions.Txn.{Txn}
use Rattle.e3_types.specs.Quorums.{is_quorum, weight_of}
use Rattle.e3_types.specs.Same.{same_state}
use Rattle.e3_types.specs.Sets.{has_site, is_within}
use Rattle.e3_types.specs.Verdicts.{reports_state}
use Rattle.e3_world.specs.Given.{IsGiven}
use Rattle.e3_world.specs.Legal.{IsLegal}
use Rattle.e3_world.specs.Logs.{attempted, decision, has_voted, is_vote, state_of}
use Rattle.e3_world.specs.Moves.{log_of}
use Rattle.e3_laws.specs.agreement.Logs.{IsIn}
use Rattle.e3_laws.specs.agreement.Weights.{differ, is_majority}
use Rattle.e3_laws.proofs.agreement.Refinement.Following.{in_from_contains}
use Rattle.e3_laws.proofs.agreement.Refinement.Voting.{contains_from_in}
use Rattle.e3_laws.specs.agreement.Facts.{Has, IsDecided, IsTried}
use Rattle.e3_laws.proofs.agreement.Binding.{commit_quorum, commit_voted, lifted}
use Rattle.e3_laws.proofs.agreement.Finding.{found}
use Rattle.e3_laws.proofs.rounds.Phases.Joined.{site_report}
use Rattle.e3_laws.proofs.steps.Tests.{same_self, or_true}

none_below : (w : ℕ) → nat_lt w 0 ≡ false
none_below w = grind (arith, common_steps)

voted_from : (t : Txn) (rs : List Record) (ops : List NumOp) → IsIn (log.Vote t ops) rs → has_voted t rs ≡ true
voted_from t [] ops has = absurd has
voted_from t (r ∷ rs) ops (inl e) = subst (λ z. has_voted t (z ∷ rs) ≡ true) e (rw (same_self t) refl)
voted_from t (r ∷ rs) ops (inr k) = ap (λ b. is_vote t r || b) (voted_from t rs ops k) ∙ or_true (is_vote t r)

pub site_in : (xs : List ℕ) (s : ℕ) → has_site xs s ≡ true → IsIn s xs
site_in [] s has = absurd cc
site_in (x ∷ xs) s has = by (λ more. site_in xs s more) (x == s) refl has
  where
    by : (has_site xs s ≡ true → IsIn s xs) → (b : Bool) → (x == s) ≡ b → ((x == s) || has_site xs s) ≡ true → IsIn s (x ∷ xs)
    by rest true is has = inl (sym (eqb-true x s is))
    by rest false is has = inr (rest (ap (λ b. b || has_site xs s) (sym is) ∙ has))

-- a log has an attempt to commit: all have voted
pub attempt_has_votes : (sc : Scenario) (h : List Entry) (t : Txn) (n s u : ℕ) → IsGiven sc → IsLegal sc h → IsIn (log.Attempt t n Commit) (log_of sc h u) →
    has_site t.sites s ≡ true → has_voted t (log_of sc h s) ≡ true
attempt_has_votes sc h t n s u given legal has member =
    let votes = commit_voted sc h t n (lifted sc h t given legal) (IsTried.Logged u (contains_from_in (log_of sc h u) (log.Attempt t n Commit) has)) in
    let vote = votes.0 s (contains_from_in t.sites s (site_in t.sites s member)) in
    voted_from t (log_of sc h s) vote.0 (in_from_contains (log_of sc h s) (log.Vote t vote.0) vote.1)

-- a log has a commit: all have voted
pub commit_has_votes : (sc : Scenario) (h : List Entry) (t : Txn) (s u : ℕ) → IsGiven sc → IsLegal sc h → decision t (log_of sc h u) ≡ Some Commit →
    has_site t.sites s ≡ true → has_voted t (log_of sc h s) ≡ true
commit_has_votes sc h t s u given legal has member =
    let tried = commit_quorum sc h t (lifted sc h t given legal) given legal (IsDecided.Entered u (contains_from_in (log_of sc h u) (log.Decision t Commit) (found t Commit (log_of sc h u) has))) in
    by tried.1.group tried.1.enough (λ x k. (tried.0, tried.1.all x (contains_from_in tried.1.group x k)))
  where
    by : (group : List ℕ) → is_majority sc.weights t.sites group ≡ true → ((x : ℕ) → IsIn x group → (n : ℕ) × Has sc h x (log.Attempt t n Commit)) → has_voted t (log_of sc h s) ≡ true
    by [] enough all =
        let one = and_parts (is_within [] t.sites) (differ [] && is_quorum sc.weights [] t.sites) enough in
        let two = and_parts (differ []) (is_quorum sc.weights [] t.sites) one.1 in
        let none : is_quorum sc.weights [] t.sites ≡ true = two.1 in
        let zero_is : nat_lt (weight_of sc.weights t.sites) 0 ≡ true = none in
        let clash : true ≡ false = sym zero_is ∙ none_below (weight_of sc.weights t.sites) in absurd cc
    by (x ∷ xs) enough all = attempt_has_votes sc h t (all x (inl refl)).0 s x given legal (in_from_contains (log_of sc h x) (log.Attempt t (all x (inl refl)).0 Commit) (all x (inl refl)).1) member

-- a report says a commit: a member's log has it
committed : (t : Txn) (l : List Record) → same_state (state_of t l) C ≡ true → decision t l ≡ Some Commit
committed t l is = by (decision t l) refl
  where
    voted : decision t l ≡ None → attempted t l ≡ None → (b : Bool) → has_voted t l ≡ b → same_state (state_of t l) C ≡ false
    voted none untried true is = rw (none, untried, is) refl
    voted none untried false is = rw (none, untried, is) refl

    tried : decision t l ≡ None → (o : Option Dir) → attempted t l ≡ o → same_state (state_of t l) C ≡ false
    tried none (Some Commit) is = rw (none, is) refl
    tried none (Some Abort) is = rw (none, is) refl
    tried none None is = voted none is (has_voted t l) refl

    aborted : decision t l ≡ Some Abort → same_state (state_of t l) C ≡ false
    aborted d = rw d refl

    by : (o : Option Dir) → decision t l ≡ o → decision t l ≡ Some Commit
    by (Some Commit) d = d
    by (Some Abort) d = absurd (let clash : true ≡ false = sym is ∙ aborted d in cc)
    by None d = absurd (let clash : true ≡ false = sym is ∙ tried d (attempted t l) refl in cc)

pub commit_reported : (sc : Scenario) (start : List Entry) (t : Txn) (xs : List ℕ) → reports_state C (map (site_report sc start t) xs) ≡ true →
    (u : ℕ) × (decision t (log_of sc start u) ≡ Some Commit)
commit_reported sc start t [] is = absurd cc
commit_reported sc start t (x ∷ xs) is = by (λ more. commit_reported sc start t xs more) (same_state (state_of t (log_of sc start x)) C) refl is
  where
    by : (reports_state C (map (site_report sc start t) xs) ≡ true → (u : ℕ) × (decision t (log_of sc start u) ≡ Some Commit)) → (b : Bool) → same_state (state_of t (log_of sc start x)) C ≡ b → (same_state (state_of t (log_of sc start x)) C || reports_state C (map (site_report sc start t) xs)) ≡ true →
        (u : ℕ) × (decision t (log_of sc start u) ≡ Some Commit)
    by rest true here is = (x, committed t (log_of sc start x) here)
    by rest false here is = rest (ap (λ b. b || reports_state C (map (site_report sc start t) xs)) (sym here) ∙ is)
