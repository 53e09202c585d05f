-- What each verdict of a round says of its members, and which logs its decision fits.
use Rattle.std.proofs.Common.{◌≡◌, ◌==◌, ◌*◌, ◌||◌, ◌&&◌, ◌≤◌, ◌++◌, ◌∷◌, [], ℕ, max, Bool, true, false, not, List, map, fold, ◌∙◌, ap, sym, refl, nat_lt, nat_le, arith}
use Rattle.std.specs.List.{list_all}
use Rattle.std.proofs.lemmas.Grind.{common_steps}
use Rattle.std.proofs.lemmas.List.Folds.{list_any-append}
use Rattle.e3_types.specs.declared.entries.Entry.{Entry}
use Rattle.e3_types.specs.declared.records.Record.{Record}
use Rattle.e3_types.specs.declared.records.Record.TheVariants as log
use Rattle.e3_types.specs.declared.scenarios.Scenario.{Scenario}
use Rattle.e3_types.specs.declared.transactions.Dir.{Dir}
use Rattle.e3_types.specs.declared.transactions.Dir.TheVariants.{Abort, Commit}
use Rattle.e3_types.specs.declared.transactions.State.TheVariants.{A, C, Pc}
use Rattle.e3_types.specs.declared.transactions.Txn.{Txn}
use Rattle.e3_types.specs.declared.verdicts.SiteReport.{SiteReport}
use Rattle.e3_types.specs.declared.verdicts.Verdict.{Verdict}
use Rattle.e3_types.specs.declared.verdicts.Verdict.TheVariants as verdict
use Rattle.e3_types.specs.Quorums.{is_quorum, weight_of}
use Rattle.e3_types.specs.Same.{same_state, same_txn}
use Rattle.e3_types.specs.Sets.{has_site}
use Rattle.e3_types.specs.Verdicts.{greatest_attempt, reports_state, verdict_by, verdict_of}
use Rattle.e3_world.specs.Given.{IsGiven}
use Rattle.e3_world.specs.Legal.{IsLegal}
use Rattle.e3_world.specs.Logs.{has_voted, is_vote, last_attempt, last_elected, last_elected_by}
use Rattle.e3_world.specs.Moves.{log_of}
use Rattle.e3_world.proofs.Turns.{self}
use Rattle.e3_laws.specs.agreement.Logs.{IsIn}
use Rattle.e3_laws.proofs.agreement.Binding.{lifted, ordered}
use Rattle.e3_laws.proofs.agreement.Facing.{attempts_below}
use Rattle.e3_laws.specs.rounds.Rounds.{is_block, is_open}
use Rattle.e3_laws.proofs.rounds.Phases.Decided.{fits}
use Rattle.e3_laws.proofs.rounds.Phases.Heard.{named}
use Rattle.e3_laws.proofs.rounds.Phases.Joined.{site_report}
use Rattle.e3_laws.proofs.rounds.Verdict.Reports.{blocked_is, none_final}
use Rattle.e3_laws.proofs.rounds.Verdict.Votes.{attempt_has_votes, commit_has_votes, commit_reported}
use Rattle.e3_laws.proofs.rounds.Phases.Winning.{final_of, pre_of}

-- a verdict blocks, ends the transaction at once, or asks for an attempt
pub data Kind (v : Verdict) : Type 0 where
  Blocks : (have total : ℕ) → v ≡ verdict.Block have total → Kind v
  Ends : (dir : Dir) → v ≡ final_of dir → Kind v
  Asks : (dir : Dir) → v ≡ pre_of dir → Kind v

pub kind_of : (v : Verdict) → Kind v
kind_of (verdict.Block have total) = Blocks have total refl
kind_of verdict.Abort = Ends Abort refl
kind_of verdict.Commit = Ends Commit refl
kind_of verdict.PreAbort = Asks Abort refl
kind_of verdict.PreCommit = Asks Commit refl

pub pre_no_block : (dir : Dir) → is_block (pre_of dir) ≡ false
pre_no_block Abort = refl
pre_no_block Commit = refl

-- the verdict asks for an attempt
abbrev is_pre : Verdict → Bool
is_pre verdict.PreAbort = true
is_pre verdict.PreCommit = true
is_pre _ = false

pre_is : (dir : Dir) → is_pre (pre_of dir) ≡ true
pre_is Abort = refl
pre_is Commit = refl

-- where an attempt is asked for, nobody reported a decision
asks_none : (have total : ℕ) (reports : List SiteReport) → is_pre (verdict_by have total reports) ≡ true → (reports_state A reports || reports_state C reports) ≡ false
asks_none have total reports asks = by (reports_state A reports) (reports_state C reports) refl refl
  where
    by : (a c : Bool) → reports_state A reports ≡ a → reports_state C reports ≡ c → (reports_state A reports || reports_state C reports) ≡ false
    by true c is_a is_c = absurd (let here : is_pre (verdict_by have total reports) ≡ false = rw is_a refl in let clash : true ≡ false = sym asks ∙ here in cc)
    by false true is_a is_c = absurd (let here : is_pre (verdict_by have total reports) ≡ false = rw (is_a, is_c) refl in let clash : true ≡ false = sym asks ∙ here in cc)
    by false false is_a is_c = rw (is_a, is_c) refl

-- the verdict is to commit
abbrev is_commit : Verdict → Bool
is_commit verdict.Commit = true
is_commit _ = false

-- where it is, somebody reported that
commits_some : (have total : ℕ) (reports : List SiteReport) → is_commit (verdict_by have total reports) ≡ true → reports_state C reports ≡ true
commits_some have total reports commits = by (reports_state A reports) (reports_state C reports) (nat_le (2 * have) total) refl refl refl
  where
    all_pc : Bool
    all_pc = list_all (λ r. not (r.attempt == greatest_attempt reports) || same_state r.state Pc) reports

    none : (b : Bool) → all_pc ≡ b → reports_state A reports ≡ false → reports_state C reports ≡ false → nat_le (2 * have) total ≡ false → is_commit (verdict_by have total reports) ≡ false
    none true pc is_a is_c is_q = rw (is_a, is_c, is_q, pc) refl
    none false pc is_a is_c is_q = rw (is_a, is_c, is_q, pc) refl

    never : is_commit (verdict_by have total reports) ≡ false → reports_state C reports ≡ true
    never here = absurd (let clash : true ≡ false = sym commits ∙ here in cc)

    by : (a c q : Bool) → reports_state A reports ≡ a → reports_state C reports ≡ c → nat_le (2 * have) total ≡ q → reports_state C reports ≡ true
    by true c q is_a is_c is_q = never (rw is_a refl)
    by false true q is_a is_c is_q = is_c
    by false false true is_a is_c is_q = never (rw (is_a, is_c, is_q) refl)
    by false false false is_a is_c is_q = never (none all_pc refl is_a is_c is_q)

-- the verdict over the reports of all members
abbrev pub verdict_at : Scenario → List Entry → Txn → List ℕ → Verdict
verdict_at sc start t members = verdict_of sc.weights t.sites (map (site_report sc start t) members)

-- so all were open, and they are a quorum
pub asks_open : (sc : Scenario) (start : List Entry) (t : Txn) (members : List ℕ) (dir : Dir) → verdict_at sc start t members ≡ pre_of dir → list_all (is_open sc start t) members ≡ true
asks_open sc start t members dir is =
    let reports : List SiteReport = map (site_report sc start t) members in
    let none : (reports_state A reports || reports_state C reports) ≡ false =
    asks_none (weight_of sc.weights (map (λ r. r.site) reports)) (weight_of sc.weights t.sites) reports (ap is_pre is ∙ pre_is dir) in
    back (list_all (is_open sc start t) members) (sym (none_final sc start t members) ∙ none)
  where
    back : (b : Bool) → not b ≡ false → b ≡ true
    back true off = refl
    back false off = absurd cc

pub asks_enough : (sc : Scenario) (start : List Entry) (t : Txn) (members : List ℕ) (dir : Dir) → verdict_at sc start t members ≡ pre_of dir → is_quorum sc.weights members t.sites ≡ true
asks_enough sc start t members dir is =
    back (list_all (is_open sc start t) members) (is_quorum sc.weights members t.sites) (asks_open sc start t members dir is)
    (sym (blocked_is sc start t members) ∙ ap is_block is ∙ pre_no_block dir)
  where
    back : (o q : Bool) → o ≡ true → (o && not q) ≡ false → q ≡ true
    back true true all off = refl
    back true false all off = absurd cc
    back false q all off = absurd cc

-- which logs a decision fits: where a member had committed, or a log has the attempt, all have voted
pub ends_fit : (sc : Scenario) (start : List Entry) (t : Txn) (members : List ℕ) (dir : Dir) (s : ℕ) → IsGiven sc → IsLegal sc start → verdict_at sc start t members ≡ final_of dir →
    has_site t.sites s ≡ true → fits t dir (log_of sc start s) ≡ true
ends_fit sc start t members Abort s given legal is member = refl
ends_fit sc start t members Commit s given legal is member =
    let reports : List SiteReport = map (site_report sc start t) members in
    let some = commits_some (weight_of sc.weights (map (λ r. r.site) reports)) (weight_of sc.weights t.sites) reports (ap is_commit is) in
    let who = commit_reported sc start t members some in
    commit_has_votes sc start t s who.0 given legal who.1 member

pub attempt_fits : (sc : Scenario) (h : List Entry) (t : Txn) (n : ℕ) (dir : Dir) (s u : ℕ) → IsGiven sc → IsLegal sc h → IsIn (log.Attempt t n dir) (log_of sc h u) →
    has_site t.sites s ≡ true → fits t dir (log_of sc h s) ≡ true
attempt_fits sc h t n Abort s u given legal has member = refl
attempt_fits sc h t n Commit s u given legal has member = attempt_has_votes sc h t n s u given legal has member

pub fits_more : (t : Txn) (dir : Dir) (l rs : List Record) → fits t dir l ≡ true → fits t dir (l ++ rs) ≡ true
fits_more t Abort l rs is = refl
fits_more t Commit l rs is = list_any-append (is_vote t) l rs ∙ ap (λ b. b || has_voted t rs) is

-- numbers
pub elected_some : (t : Txn) (k : ℕ) (rs : List Record) → 1 ≤ k → 1 ≤ fold (last_elected_by t) k rs
elected_some t k [] some = some
elected_some t k (log.Join u n ∷ rs) some = by (same_txn t u) refl (λ j more. elected_some t j rs more)
  where
    by : (b : Bool) → same_txn t u ≡ b → ((j : ℕ) → 1 ≤ j → 1 ≤ fold (last_elected_by t) j rs) → 1 ≤ fold (last_elected_by t) k (log.Join u n ∷ rs)
    by true is rest = rw is (rest (max k n) (grind (arith, common_steps, some)))
    by false is rest = rw is (rest k some)
elected_some t k (log.Birth format site weights born ∷ rs) some = elected_some t k rs some
elected_some t k (log.Inc n ∷ rs) some = elected_some t k rs some
elected_some t k (log.Vote u ops ∷ rs) some = elected_some t k rs some
elected_some t k (log.Attempt u n dir ∷ rs) some = elected_some t k rs some
elected_some t k (log.Decision u dir ∷ rs) some = elected_some t k rs some

-- a site's attempts are below the number of an election that heard it
pub attempt_less : (sc : Scenario) (start : List Entry) (t : Txn) (n s : ℕ) → IsGiven sc → IsLegal sc start → nat_lt (last_elected t (log_of sc start s)) n ≡ true →
    nat_lt (last_attempt t (log_of sc start s)) n ≡ true
attempt_less sc start t n s given legal less = both (last_attempt t (log_of sc start s)) (last_elected t (log_of sc start s)) (attempts_below t (log_of sc start s) (ordered sc start t s (lifted sc start t given legal))) less
  where
    both : (a b : ℕ) → a ≤ b → nat_lt b n ≡ true → nat_lt a n ≡ true
    both a b one two = grind (arith, common_steps, one, two)

-- what was heard is below what is known of each
pub heard_under : (sc : Scenario) (start : List Entry) (t : Txn) (b k : ℕ) (xs : List ℕ) → k ≤ b → ((m : ℕ) → has_site xs m ≡ true → last_elected t (log_of sc start m) ≤ b) →
    fold (λ n h. max n h.elected) k (map (named sc start t) xs) ≤ b
heard_under sc start t b k [] less each = less
heard_under sc start t b k (x ∷ xs) less each =
    heard_under sc start t b (max k (last_elected t (log_of sc start x))) xs (most k (last_elected t (log_of sc start x)) less (each x here))
    (λ m has. each m (ap (λ c. (x == m) || c) has ∙ or_true (x == m)))
  where
    or_true : (c : Bool) → (c || true) ≡ true
    or_true true = refl
    or_true false = refl

    most : (i j : ℕ) → i ≤ b → j ≤ b → max i j ≤ b
    most i j one two = grind (arith, common_steps, one, two)

    here : has_site (x ∷ xs) x ≡ true
    here = rw (self x) refl
