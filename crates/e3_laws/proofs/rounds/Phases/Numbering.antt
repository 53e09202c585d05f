-- What a round's number and its records leave of what was known of a log.
use Rattle.std.proofs.Common.{◌≡◌, ◌==◌, ◌≤◌, ◌||◌, ℕ, suc, max, Bool, true, false, List, [], ◌∷◌, ◌++◌, None, is_none, ◌∙◌, ap, sym, subst, refl, fold, map, arith, eqb-true, nat_lt}
use Rattle.std.proofs.lemmas.Grind.{common_steps, fold-append}
use Rattle.e3_types.specs.declared.entries.Entry.{Entry}
use Rattle.e3_types.specs.declared.records.Record.{Record}
use Rattle.e3_types.specs.declared.records.Record.TheVariants as log
use Rattle.e3_types.specs.declared.scenarios.Scenario.{Scenario}
use Rattle.e3_types.specs.declared.transactions.Dir.{Dir}
use Rattle.e3_types.specs.declared.transactions.Txn.{Txn}
use Rattle.e3_types.specs.Sets.{has_site}
use Rattle.e3_world.specs.Items.{RecoveryRound}
use Rattle.e3_world.specs.Logs.{decision_by, is_undecided, last_attempt, last_attempt_by, last_elected, last_elected_by}
use Rattle.e3_world.specs.Moves.{log_of}
use Rattle.e3_laws.proofs.rounds.Phases.Heard.{named}
use Rattle.e3_laws.proofs.rounds.Phases.Joined.{number_of}
use Rattle.e3_laws.proofs.steps.Tests.{same_self}

at_least : (sc : Scenario) (start : List Entry) (t : Txn) (k : ℕ) (xs : List ℕ) → k ≤ fold (λ n h. max n h.elected) k (map (named sc start t) xs)
at_least sc start t k [] = omega arith
at_least sc start t k (x ∷ xs) =
    let e : ℕ = last_elected t (log_of sc start x) in
    let rest : max k e ≤ fold (λ n h. max n h.elected) (max k e) (map (named sc start t) xs) = at_least sc start t (max k e) xs in
    let more : k ≤ max k e = grind (arith, common_steps) in
    omega (arith, rest, more)

heard_most : (sc : Scenario) (start : List Entry) (t : Txn) (k : ℕ) (xs : List ℕ) (m : ℕ) → has_site xs m ≡ true →
    last_elected t (log_of sc start m) ≤ fold (λ n h. max n h.elected) k (map (named sc start t) xs)
heard_most sc start t k [] m has = absurd cc
heard_most sc start t k (x ∷ xs) m has =
    by (λ more. heard_most sc start t (max k (last_elected t (log_of sc start x))) xs m more) (x == m) refl has
  where
    all : ℕ
    all = fold (λ n h. max n h.elected) (max k (last_elected t (log_of sc start x))) (map (named sc start t) xs)

    here : last_elected t (log_of sc start x) ≤ all
    here =
        let rest : max k (last_elected t (log_of sc start x)) ≤ all = at_least sc start t (max k (last_elected t (log_of sc start x))) xs in
        let more : last_elected t (log_of sc start x) ≤ max k (last_elected t (log_of sc start x)) = grind (arith, common_steps) in
        omega (arith, rest, more)

    by : (has_site xs m ≡ true → last_elected t (log_of sc start m) ≤ all) → (b : Bool) → (x == m) ≡ b → ((x == m) || has_site xs m) ≡ true → last_elected t (log_of sc start m) ≤ all
    by rest true is has = subst (λ u. last_elected t (log_of sc start u) ≤ all) (eqb-true x m is) here
    by rest false is has = rest (ap (λ b. b || has_site xs m) (sym is) ∙ has)

-- the number of the election is above all that were heard
pub number_above : (sc : Scenario) (start : List Entry) (r : RecoveryRound) (all : List ℕ) (m : ℕ) → has_site (r.elector ∷ all) m ≡ true →
    nat_lt (last_elected r.txn (log_of sc start m)) (number_of sc start r all) ≡ true
number_above sc start r all m has = less _ _ (heard_most sc start r.txn 0 (r.elector ∷ all) m has)
  where
    less : (a b : ℕ) → a ≤ b → nat_lt a (suc b) ≡ true
    less a b is = grind (arith, common_steps, is)

-- behind a join
pub join_open : (t : Txn) (n : ℕ) (l : List Record) → is_undecided t (l ++ log.Join t n ∷ []) ≡ is_undecided t l
join_open t n l = ap is_none (fold-append (decision_by t) None l (log.Join t n ∷ []))

pub join_attempt : (t : Txn) (n : ℕ) (l : List Record) → last_attempt t (l ++ log.Join t n ∷ []) ≡ last_attempt t l
join_attempt t n l = fold-append (last_attempt_by t) 0 l (log.Join t n ∷ [])

pub join_elected : (t : Txn) (n : ℕ) (l : List Record) → nat_lt (last_elected t l) n ≡ true → (last_elected t (l ++ log.Join t n ∷ []) == n) ≡ true
join_elected t n l less = ap (λ k. k == n) (fold-append (last_elected_by t) 1 l (log.Join t n ∷ [])) ∙ rw (same_self t) (top (last_elected t l) less)
  where
    top : (k : ℕ) → nat_lt k n ≡ true → (max k n == n) ≡ true
    top k is = grind (arith, common_steps, is)

-- behind an attempt
pub attempt_open : (t : Txn) (n : ℕ) (dir : Dir) (l : List Record) → is_undecided t (l ++ log.Attempt t n dir ∷ []) ≡ is_undecided t l
attempt_open t n dir l = ap is_none (fold-append (decision_by t) None l (log.Attempt t n dir ∷ []))
