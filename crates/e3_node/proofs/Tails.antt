-- More records change the brief of a log.
use Rattle.std.proofs.Common.{◌≡◌, ◌≢◌, ◌≤◌, ◌<◌, ◌++◌, ◌∷◌, [], max, ℕ, zero, suc, Bool, true, false, List, Option, Some, None, is_none, if◌then◌else◌, fold, refl, sym, subst, ap, ◌∙◌, append-nil, append_assoc, arith}
use Rattle.std.proofs.lemmas.Bool.{or_left, or_right, true≢false}
use Rattle.std.proofs.lemmas.Grind.{fold-append}
use Rattle.std.proofs.lemmas.List.Folds.{list_any-append}
use Rattle.e3_world.specs.Brief.{brief}
use Rattle.e3_world.specs.Orderly.{IsOrderly, MayFollow, OrderlyAfter}
use Rattle.e3_laws.proofs.brief.Going.{orderly_on}
use Rattle.e3_laws.proofs.brief.Laws.{same_alike}
use Rattle.e3_laws.proofs.brief.Shape.{quiet_from}
use Rattle.e3_laws.proofs.steps.Tests.{same_self}
use Rattle.e3_types.specs.Same.{same_txn}
use Rattle.e3_types.specs.declared.records.Record.{Record}
use Rattle.e3_types.specs.declared.records.Record.TheVariants as log
use Rattle.e3_types.specs.declared.transactions.Dir.{Dir}
use Rattle.e3_types.specs.declared.transactions.Txn.{Txn}
use Rattle.e3_world.specs.Logs.{decision, decision_by, has_voted, is_vote, last_attempt, last_attempt_by, last_elected, last_elected_by, logged_inc, logged_inc_by}
use Rattle.e3_node.proofs.site_log.Holding.{fronts}

-- a fold keeps what each of its steps keeps
fold_keeps : {A B : Type 0} (f : B → A → B) (P : B → Type 0) → ((b : B) (x : A) → P b → P (f b x)) → (b : B) (xs : List A) → P b → P (fold f b xs)
fold_keeps f P keeps b [] p = p
fold_keeps f P keeps b (x ∷ xs) p = fold_keeps f P keeps (f b x) xs (keeps b x p)

-- so what a record sets in a log stays, where each record keeps it
fold_set : {A B : Type 0} (f : B → A → B) (P : B → Type 0) (start : B) → ((b : B) (x : A) → P b → P (f b x)) → (l : List A) (r : A) (rest : List A) →
    ((b : B) → P (f b r)) → P (fold f start (l ++ r ∷ rest))
fold_set f P start keeps l r rest sets = subst P (sym (fold-append f start l (r ∷ rest))) (fold_keeps f P keeps (f (fold f start l) r) rest (sets (fold f start l)))

no_less : (n m k : ℕ) (b : Bool) → n ≤ m → n ≤ (if b then max m k else m)
no_less n m k true le = omega (arith, le)
no_less n m k false le = le

at_least : (n m : ℕ) (b : Bool) → b ≡ true → n ≤ (if b then max m n else m)
at_least n m true is = omega arith
at_least n m false is = absurd cc

elected_keeps : (t : Txn) (n m : ℕ) (r : Record) → n ≤ m → n ≤ last_elected_by t m r
elected_keeps t n m (log.Join u k) le = no_less n m k (same_txn t u) le
elected_keeps t n m _ le = le

attempt_keeps : (t : Txn) (n m : ℕ) (r : Record) → n ≤ m → n ≤ last_attempt_by t m r
attempt_keeps t n m (log.Attempt u k dir) le = no_less n m k (same_txn t u) le
attempt_keeps t n m _ le = le

decided : (dir : Dir) (was : Option Dir) (b : Bool) → is_none was ≡ false → is_none (if b then Some dir else was) ≡ false
decided dir was true some = refl
decided dir was false some = some

decides : (dir : Dir) (was : Option Dir) (b : Bool) → b ≡ true → is_none (if b then Some dir else was) ≡ false
decides dir was true is = refl
decides dir was false is = absurd cc

decision_keeps : (t : Txn) (was : Option Dir) (r : Record) → is_none was ≡ false → is_none (decision_by t was r) ≡ false
decision_keeps t was (log.Decision u dir) some = decided dir was (same_txn t u) some
decision_keeps t was _ some = some

-- an incarnation is followed by greater ones
inc_step : (site : ℕ) (before : List Record) (r : Record) → MayFollow site before r → 1 ≤ logged_inc before → logged_inc before ≤ logged_inc_by (logged_inc before) r
inc_step site before (log.Inc n) may some = let next = may.next some in omega (arith, next)
inc_step site before (log.Birth format number weights rows) may some = omega arith
inc_step site before (log.Vote t ops) may some = omega arith
inc_step site before (log.Join t n) may some = omega arith
inc_step site before (log.Attempt t n dir) may some = omega arith
inc_step site before (log.Decision t dir) may some = omega arith

inc_on : (site : ℕ) (before rest : List Record) → OrderlyAfter site before rest → 1 ≤ logged_inc before → logged_inc before ≤ logged_inc (before ++ rest)
inc_on site before [] orderly some = let same : logged_inc (before ++ []) ≡ logged_inc before = ap logged_inc (append-nil before) in omega (arith, same)
inc_on site before (r ∷ rest) orderly some =
    let next : logged_inc (before ++ r ∷ []) ≡ logged_inc_by (logged_inc before) r = fold-append logged_inc_by 0 before (r ∷ []) in
    let step : logged_inc before ≤ logged_inc_by (logged_inc before) r = inc_step site before r orderly.0 some in
    let more : logged_inc (before ++ r ∷ []) ≤ logged_inc (before ++ r ∷ [] ++ rest) = inc_on site (before ++ r ∷ []) rest orderly.1 (omega (arith, next, step, some)) in
    let same : logged_inc (before ++ r ∷ [] ++ rest) ≡ logged_inc (before ++ r ∷ rest) = ap logged_inc (append_assoc before (r ∷ []) rest) in
    omega (arith, next, step, more, same)

no_log : (l : List Record) (r : Record) (rest : List Record) → l ++ r ∷ rest ≡ [] → ⊥
no_log [] r rest is = cc
no_log (x ∷ xs) r rest is = cc

-- no record may follow itself
never_twice : (site : ℕ) (l : List Record) (r : Record) (rest : List Record) → MayFollow site l r → OrderlyAfter site (l ++ r ∷ []) rest →
    MayFollow site (l ++ r ∷ rest) r → ⊥
never_twice site l (log.Birth format number weights rows) rest first orderly may = no_log l (log.Birth format number weights rows) rest may.first
never_twice site l (log.Inc n) rest first orderly may =
    let now : logged_inc (l ++ log.Inc n ∷ []) ≡ n = fold-append logged_inc_by 0 l (log.Inc n ∷ []) in
    let some : 1 ≤ n = by (logged_inc l) first.first first.next in
    let more : logged_inc (l ++ log.Inc n ∷ []) ≤ logged_inc (l ++ log.Inc n ∷ [] ++ rest) = inc_on site (l ++ log.Inc n ∷ []) rest orderly (omega (arith, now, some)) in
    let same : logged_inc (l ++ log.Inc n ∷ [] ++ rest) ≡ logged_inc (l ++ log.Inc n ∷ rest) = ap logged_inc (append_assoc l (log.Inc n ∷ []) rest) in
    let all : 1 ≤ logged_inc (l ++ log.Inc n ∷ rest) = omega (arith, now, some, more, same) in
    let next : n ≡ suc (logged_inc (l ++ log.Inc n ∷ rest)) = may.next all in
    omega (arith, now, more, same, next)
  where
    by : (k : ℕ) → (k ≡ 0 → 1 ≤ n) → (1 ≤ k → n ≡ suc k) → 1 ≤ n
    by zero born next = born refl
    by (suc k) born next = let is : n ≡ suc (suc k) = next (omega arith) in omega (arith, is)
never_twice site l (log.Vote t ops) rest first orderly may =
    let votes : is_vote t (log.Vote t ops) ≡ true = same_self t in
    let voted : has_voted t (l ++ log.Vote t ops ∷ rest) ≡ true =
    list_any-append (is_vote t) l (log.Vote t ops ∷ rest) ∙ or_right _ _ (or_left _ _ votes) in
    true≢false (sym voted ∙ (quiet_from t (l ++ log.Vote t ops ∷ rest) may.fresh).unvoted)
never_twice site l (log.Join t n) rest first orderly may =
    let least : n ≤ last_elected t (l ++ log.Join t n ∷ rest) =
    fold_set (last_elected_by t) (λ (m : ℕ). n ≤ m) 1 (elected_keeps t n) l (log.Join t n) rest (λ m. at_least n m (same_txn t t) (same_self t)) in
    let rises : last_elected t (l ++ log.Join t n ∷ rest) < n = may.rises in
    omega (arith, least, rises)
never_twice site l (log.Attempt t n dir) rest first orderly may =
    let least : n ≤ last_attempt t (l ++ log.Attempt t n dir ∷ rest) =
    fold_set (last_attempt_by t) (λ (m : ℕ). n ≤ m) 0 (attempt_keeps t n) l (log.Attempt t n dir) rest (λ m. at_least n m (same_txn t t) (same_self t)) in
    let rises : last_attempt t (l ++ log.Attempt t n dir ∷ rest) < n = may.rises in
    omega (arith, least, rises)
never_twice site l (log.Decision t dir) rest first orderly may =
    let some : is_none (decision t (l ++ log.Decision t dir ∷ rest)) ≡ false =
    fold_set (decision_by t) (λ (was : Option Dir). is_none was ≡ false) None (decision_keeps t) l (log.Decision t dir) rest (λ was. decides dir was (same_txn t t) (same_self t)) in
    true≢false (sym may.undecided ∙ some)

-- a log with more records has another brief
pub more_is_told : (site : ℕ) (l more : List Record) → IsOrderly site (l ++ more) → more ≢ [] → brief (l ++ more) ≢ brief l
more_is_told site l [] orderly some same = some refl
more_is_told site l (r ∷ rest) orderly some same =
    let f = fronts site [] l (r ∷ rest) orderly in
    let again : OrderlyAfter site (l ++ r ∷ rest) (r ∷ rest) = orderly_on site l (l ++ r ∷ rest) (r ∷ rest) (same_alike site l (l ++ r ∷ rest) f.0 orderly (sym same)) f.1 in
    never_twice site l r rest f.1.0 f.1.1 again.0
