-- The verdict over the reports of all members: Block exactly where they are no quorum and none of them has decided.
use Rattle.std.proofs.Common.{◌≡◌, ◌*◌, ◌||◌, ◌&&◌, ◌==◌, ◌∷◌, [], ℕ, Bool, true, false, not, List, Option, Some, None, map, ◌∙◌, ap, refl, nat_lt, nat_le, if◌then◌else◌, arith}
use Rattle.std.specs.List.{list_all}
use Rattle.std.proofs.lemmas.Grind.{common_steps}
use Rattle.e3_types.specs.declared.records.Record.{Record}
use Rattle.e3_types.specs.declared.transactions.Dir.{Dir}
use Rattle.e3_types.specs.declared.transactions.Dir.TheVariants.{Abort, Commit}
use Rattle.e3_types.specs.declared.transactions.State.{State}
use Rattle.e3_types.specs.declared.transactions.State.TheVariants.{Pc, C, A}
use Rattle.e3_types.specs.declared.transactions.Txn.{Txn}
use Rattle.e3_types.specs.declared.entries.Entry.{Entry}
use Rattle.e3_types.specs.declared.scenarios.Scenario.{Scenario}
use Rattle.e3_types.specs.declared.verdicts.SiteReport.{SiteReport}
use Rattle.e3_types.specs.declared.verdicts.Verdict.TheVariants as verdict
use Rattle.e3_types.specs.Quorums.{is_quorum, weight_of}
use Rattle.e3_types.specs.Same.{same_state}
use Rattle.e3_types.specs.Verdicts.{greatest_attempt, reports_state, verdict_by, verdict_of}
use Rattle.e3_world.specs.Logs.{attempted, decision, has_voted, is_undecided, state_of}
use Rattle.e3_world.specs.Moves.{log_of}
use Rattle.e3_laws.specs.rounds.Rounds.{is_block, is_open}
use Rattle.e3_laws.proofs.rounds.Phases.Joined.{site_report}

-- a state is final where the log has a decision
final_is : (t : Txn) (l : List Record) → (same_state (state_of t l) A || same_state (state_of t l) C) ≡ not (is_undecided t l)
final_is t l = by (decision t l) refl
  where
    voted : decision t l ≡ None → attempted t l ≡ None → (b : Bool) → has_voted t l ≡ b → (same_state (state_of t l) A || same_state (state_of t l) C) ≡ not (is_undecided t l)
    voted none untried true is = rw (none, untried, is) refl
    voted none untried false is = rw (none, untried, is) refl

    tried : decision t l ≡ None → (o : Option Dir) → attempted t l ≡ o → (same_state (state_of t l) A || same_state (state_of t l) C) ≡ not (is_undecided t l)
    tried none (Some Commit) is = rw (none, is) refl
    tried none (Some Abort) is = rw (none, is) refl
    tried none None is = voted none is (has_voted t l) refl

    by : (o : Option Dir) → decision t l ≡ o → (same_state (state_of t l) A || same_state (state_of t l) C) ≡ not (is_undecided t l)
    by (Some Commit) is = rw is refl
    by (Some Abort) is = rw is refl
    by None is = tried is (attempted t l) refl

sites_of_reports : (sc : Scenario) (start : List Entry) (t : Txn) (xs : List ℕ) → map (λ r. r.site) (map (site_report sc start t) xs) ≡ xs
sites_of_reports sc start t [] = refl
sites_of_reports sc start t (x ∷ xs) = ap (λ l. x ∷ l) (sites_of_reports sc start t xs)

-- none of the members has decided: no report is final
pub none_final : (sc : Scenario) (start : List Entry) (t : Txn) (xs : List ℕ) →
    (reports_state A (map (site_report sc start t) xs) || reports_state C (map (site_report sc start t) xs)) ≡ not (list_all (is_open sc start t) xs)
none_final sc start t [] = refl
none_final sc start t (x ∷ xs) = mix (same_state st A) (same_state st C) _ _ (is_open sc start t x) (list_all (is_open sc start t) xs) (final_is t (log_of sc start x)) (none_final sc start t xs)
  where
    st : State
    st = state_of t (log_of sc start x)

    mix : (a c a2 c2 o o2 : Bool) → (a || c) ≡ not o → (a2 || c2) ≡ not o2 → ((a || a2) || (c || c2)) ≡ not (o && o2)
    mix a c a2 c2 o o2 one rest = grind (arith, common_steps, one, rest)

pub block_is : (have total : ℕ) (reports : List SiteReport) →
    is_block (verdict_by have total reports) ≡ (not (reports_state A reports || reports_state C reports) && nat_le (2 * have) total)
block_is have total reports = by (reports_state A reports) (reports_state C reports) (nat_le (2 * have) total) refl refl refl
  where
    all_pc : Bool
    all_pc = list_all (λ r. not (r.attempt == greatest_attempt reports) || same_state r.state Pc) reports

    rest : (b : Bool) → is_block (if b then verdict.PreCommit else verdict.PreAbort) ≡ false
    rest true = refl
    rest false = refl

    by : (a c q : Bool) → reports_state A reports ≡ a → reports_state C reports ≡ c → nat_le (2 * have) total ≡ q →
        is_block (verdict_by have total reports) ≡ (not (reports_state A reports || reports_state C reports) && nat_le (2 * have) total)
    by true c q is_a is_c is_q = rw is_a refl
    by false true q is_a is_c is_q = rw (is_a, is_c) refl
    by false false true is_a is_c is_q = rw (is_a, is_c, is_q) refl
    by false false false is_a is_c is_q = rw (is_a, is_c, is_q) (rest all_pc)

quorum_not : (have total : ℕ) → nat_le (2 * have) total ≡ not (nat_lt total (2 * have))
quorum_not have total = grind (arith, common_steps)

-- so the verdict over the reports of all members, as they stood at the begin of the round, is Block exactly then
pub blocked_is : (sc : Scenario) (start : List Entry) (t : Txn) (members : List ℕ) →
    is_block (verdict_of sc.weights t.sites (map (site_report sc start t) members))
    ≡ (list_all (is_open sc start t) members && not (is_quorum sc.weights members t.sites))
blocked_is sc start t members =
    block_is (weight_of sc.weights (map (λ r. r.site) reports)) (weight_of sc.weights t.sites) reports
    ∙ ap (λ b. not b && nat_le (2 * weight_of sc.weights (map (λ r. r.site) reports)) (weight_of sc.weights t.sites)) (none_final sc start t members)
    ∙ ap (λ l. not (not (list_all (is_open sc start t) members)) && nat_le (2 * weight_of sc.weights l) (weight_of sc.weights t.sites)) (sites_of_reports sc start t members)
    ∙ ap (λ b. b && nat_le (2 * weight_of sc.weights members) (weight_of sc.weights t.sites)) (twice (list_all (is_open sc start t) members))
    ∙ ap (λ b. list_all (is_open sc start t) members && b) (quorum_not (weight_of sc.weights members) (weight_of sc.weights t.sites))
  where
    reports : List SiteReport
    reports = map (site_report sc start t) members

    twice : (b : Bool) → not (not b) ≡ b
    twice true = refl
    twice false = refl
