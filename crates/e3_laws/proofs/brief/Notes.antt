-- What the notes of a transaction say of it.
use Rattle.std.proofs.Common.{◌≡◌, ◌≢◌, ◌≤◌, ◌∷◌, [], ◌++◌, ◌||◌, max, ℕ, Bool, true, false, List, Option, Some, None, refl, sym, ap, ◌∙◌, fold, append-nil, if◌then◌else◌, arith}
use Rattle.std.specs.Prelude.{nat_lt, nat_le}
use Rattle.std.specs.List.{flat_map, list_any, list_all, AllByRecursion as Each}
use Rattle.std.proofs.lemmas.Bool.{ltb-true, ltb-false, or_from}
use Rattle.std.proofs.lemmas.Grind.{flat_map-append}
use Rattle.std.proofs.lemmas.List.Folds.{list_any-append}
use Rattle.e3_types.specs.declared.records.Record.{Record}
use Rattle.e3_types.specs.declared.records.Record.TheVariants as log
use Rattle.e3_types.specs.declared.transactions.Dir.{Dir}
use Rattle.e3_types.specs.declared.transactions.NumOp.{NumOp}
use Rattle.e3_types.specs.declared.transactions.Txn.{Txn}
use Rattle.e3_types.specs.Same.{same_txn}
use Rattle.e3_world.specs.Logs.{last_elected_by, last_elected, last_attempt_by, last_attempt, attempted_by, attempted, decision_by, decision, is_vote, has_voted, ops_of_vote, voted_ops, is_undecided}
use Rattle.e3_world.specs.Orderly.{ops_ascend}
use Rattle.e3_world.specs.Brief.{vote_in, attempt_in, join_in, decision_in, open_ops}
use Rattle.e3_laws.proofs.brief.Lists.{fold_four}
use Rattle.e3_laws.proofs.brief.Readings.{is_of}
use Rattle.e3_laws.proofs.brief.Shape.{LogOf, logged_of, Fit, Heard}
use Rattle.e3_laws.proofs.steps.Each.{each-append}
use Rattle.e3_laws.proofs.steps.Tests.{same_self}

-- the notes of what a log has of a transaction
abbrev pub notes : Txn → LogOf → List Record
notes t s = vote_in t s.voted s.ops ++ (attempt_in t s.attempted s.attempt ++ (join_in t s.attempt s.elected ++ decision_in t s.decided))

-- what a log says of a transaction, with the operations that its brief keeps
abbrev pub kept_of : Txn → List Record → LogOf
kept_of t l = record (logged_of t l) { ops = open_ops t l }

-- what stands behind the vote
abbrev pub behind_vote : Txn → LogOf → List Record
behind_vote t s = attempt_in t s.attempted s.attempt ++ (join_in t s.attempt s.elected ++ decision_in t s.decided)

-- facts of each note
each_behind : (P : Record → Type 0) (t : Txn) (s : LogOf) → ((n : ℕ) → P (log.Join t n)) → ((n : ℕ) (dir : Dir) → P (log.Attempt t n dir))
    → ((dir : Dir) → s.decided ≡ Some dir → P (log.Decision t dir)) → Each P (behind_vote t s)
each_behind P t s join attempt decide =
    each-append P (attempt_in t s.attempted s.attempt) (join_in t s.attempt s.elected ++ decision_in t s.decided) (tries s.attempted)
    (each-append P (join_in t s.attempt s.elected) (decision_in t s.decided) (joins (nat_lt (max 1 s.attempt) s.elected) refl) (decides s.decided decide))
  where
    tried : (dir : Dir) (b : Bool) → nat_lt 1 s.attempt ≡ b → Each P (attempt_in t (Some dir) s.attempt)
    tried dir true is = rw is (join s.attempt, (attempt s.attempt dir, tt))
    tried dir false is = rw is (attempt s.attempt dir, tt)

    tries : (a : Option Dir) → Each P (attempt_in t a s.attempt)
    tries None = tt
    tries (Some dir) = tried dir (nat_lt 1 s.attempt) refl

    joins : (b : Bool) → nat_lt (max 1 s.attempt) s.elected ≡ b → Each P (join_in t s.attempt s.elected)
    joins true is = rw is (join s.elected, tt)
    joins false is = rw is tt

    decides : (d : Option Dir) → ((dir : Dir) → d ≡ Some dir → P (log.Decision t dir)) → Each P (decision_in t d)
    decides None decide = tt
    decides (Some dir) decide = (decide dir refl, tt)

pub each_note : (P : Record → Type 0) (t : Txn) (s : LogOf) → ((ops : List NumOp) → P (log.Vote t ops)) → ((n : ℕ) → P (log.Join t n)) → ((n : ℕ) (dir : Dir) → P (log.Attempt t n dir))
    → ((dir : Dir) → s.decided ≡ Some dir → P (log.Decision t dir)) → Each P (notes t s)
each_note P t s vote join attempt decide =
    each-append P (vote_in t s.voted s.ops) (behind_vote t s) (votes s.voted) (each_behind P t s join attempt decide)
  where
    votes : (v : Bool) → Each P (vote_in t v s.ops)
    votes true = (vote s.ops, tt)
    votes false = tt

pub notes_of : (b : Bool) (t u : Txn) (s : LogOf) → same_txn t u ≡ b → Each (λ r. is_of t r ≡ b) (notes u s)
notes_of b t u s same = each_note (λ r. is_of t r ≡ b) u s (λ ops. same) (λ n. same) (λ n dir. same) (λ dir is. same)

-- the pieces of notes under a fold
piece_vote : {B : Type 0} (f : B → Record → B) (b : B) (t : Txn) (v : Bool) (ops : List NumOp) → f b (log.Vote t ops) ≡ b → fold f b (vote_in t v ops) ≡ b
piece_vote f b t true ops leaves = leaves
piece_vote f b t false ops leaves = refl

piece_join : {B : Type 0} (f : B → Record → B) (b : B) (t : Txn) (n m : ℕ) → ((k : ℕ) → f b (log.Join t k) ≡ b) → fold f b (join_in t n m) ≡ b
piece_join f b t n m leaves = by (nat_lt (max 1 n) m) refl
  where
    by : (c : Bool) → nat_lt (max 1 n) m ≡ c → fold f b (join_in t n m) ≡ b
    by true is = rw is (leaves m)
    by false is = rw is refl

piece_decision : {B : Type 0} (f : B → Record → B) (b : B) (t : Txn) (d : Option Dir) → ((dir : Dir) → f b (log.Decision t dir) ≡ b) → fold f b (decision_in t d) ≡ b
piece_decision f b t None leaves = refl
piece_decision f b t (Some dir) leaves = leaves dir

piece_attempt : {B : Type 0} (f : B → Record → B) (b c : B) (t : Txn) (a : Option Dir) (n : ℕ) → ((k : ℕ) → f b (log.Join t k) ≡ b) → (a ≡ None → b ≡ c)
    → ((dir : Dir) → a ≡ Some dir → f b (log.Attempt t n dir) ≡ c) → fold f b (attempt_in t a n) ≡ c
piece_attempt f b c t None n leaves none some = none refl
piece_attempt f b c t (Some dir) n leaves none some = by (nat_lt 1 n) refl
  where
    by : (k : Bool) → nat_lt 1 n ≡ k → fold f b (attempt_in t (Some dir) n) ≡ c
    by true is = rw is (ap (λ x. f x (log.Attempt t n dir)) (leaves n) ∙ some dir refl)
    by false is = rw is (some dir refl)

own : {A : Type 0} (t : Txn) (x y : A) → (if same_txn t t then x else y) ≡ x
own t x y = rw (same_self t) refl

-- each reading of notes
elected_notes : (t : Txn) (s : LogOf) → Fit s → last_elected t (notes t s) ≡ s.elected
elected_notes t s f =
    fold_four (last_elected_by t) (vote_in t s.voted s.ops) (attempt_in t s.attempted s.attempt) (join_in t s.attempt s.elected) (decision_in t s.decided)
    1 1 (max 1 s.attempt) s.elected s.elected
    (piece_vote (last_elected_by t) 1 t s.voted s.ops refl) (tries s.attempted refl (nat_lt 1 s.attempt) refl) (joins (nat_lt (max 1 s.attempt) s.elected) refl)
    (piece_decision (last_elected_by t) s.elected t s.decided (λ dir. refl))
  where
    tries : (a : Option Dir) → s.attempted ≡ a → (b : Bool) → nat_lt 1 s.attempt ≡ b → fold (last_elected_by t) 1 (attempt_in t a s.attempt) ≡ max 1 s.attempt
    tries None a b is = let z : s.attempt ≡ 0 = f.none a in omega arith
    tries (Some dir) a true is = rw is (own t (max 1 s.attempt) 1)
    tries (Some dir) a false is = let low : s.attempt ≤ 1 = ltb-false 1 s.attempt is in rw is (omega arith)

    joins : (b : Bool) → nat_lt (max 1 s.attempt) s.elected ≡ b → fold (last_elected_by t) (max 1 s.attempt) (join_in t s.attempt s.elected) ≡ s.elected
    joins true is =
        let high = ltb-true (max 1 s.attempt) s.elected is in
        rw is (own t (max (max 1 s.attempt) s.elected) (max 1 s.attempt) ∙ omega (arith, high))
    joins false is =
        let low = ltb-false (max 1 s.attempt) s.elected is in
        rw is (omega (arith, low, f.least, f.most))

attempt_notes : (t : Txn) (s : LogOf) → Fit s → last_attempt t (notes t s) ≡ s.attempt
attempt_notes t s f =
    fold_four (last_attempt_by t) (vote_in t s.voted s.ops) (attempt_in t s.attempted s.attempt) (join_in t s.attempt s.elected) (decision_in t s.decided)
    0 0 s.attempt s.attempt s.attempt
    (piece_vote (last_attempt_by t) 0 t s.voted s.ops refl)
    (piece_attempt (last_attempt_by t) 0 s.attempt t s.attempted s.attempt (λ k. refl) (λ a. sym (f.none a)) (λ dir a. own t (max 0 s.attempt) 0 ∙ omega arith))
    (piece_join (last_attempt_by t) s.attempt t s.attempt s.elected (λ k. refl))
    (piece_decision (last_attempt_by t) s.attempt t s.decided (λ dir. refl))

attempted_notes : (t : Txn) (s : LogOf) → attempted t (notes t s) ≡ s.attempted
attempted_notes t s =
    fold_four (attempted_by t) (vote_in t s.voted s.ops) (attempt_in t s.attempted s.attempt) (join_in t s.attempt s.elected) (decision_in t s.decided)
    None None s.attempted s.attempted s.attempted
    (piece_vote (attempted_by t) None t s.voted s.ops refl)
    (piece_attempt (attempted_by t) None s.attempted t s.attempted s.attempt (λ k. refl) (λ a. sym a) (λ dir a. own t (Some dir) None ∙ sym a))
    (piece_join (attempted_by t) s.attempted t s.attempt s.elected (λ k. refl))
    (piece_decision (attempted_by t) s.attempted t s.decided (λ dir. refl))

decision_notes : (t : Txn) (s : LogOf) → decision t (notes t s) ≡ s.decided
decision_notes t s =
    fold_four (decision_by t) (vote_in t s.voted s.ops) (attempt_in t s.attempted s.attempt) (join_in t s.attempt s.elected) (decision_in t s.decided)
    None None None None s.decided
    (piece_vote (decision_by t) None t s.voted s.ops refl)
    (piece_attempt (decision_by t) None None t s.attempted s.attempt (λ k. refl) (λ a. refl) (λ dir a. refl))
    (piece_join (decision_by t) None t s.attempt s.elected (λ k. refl))
    (decides s.decided)
  where
    decides : (d : Option Dir) → fold (decision_by t) None (decision_in t d) ≡ d
    decides None = refl
    decides (Some dir) = own t (Some dir) None

-- none of these records is a vote
abbrev Voteless : Txn → List Record → Type 0
Voteless t l = (list_any (is_vote t) l ≡ false) × (flat_map (ops_of_vote t) l ≡ [])

voteless : (t : Txn) (l : List Record) → Each (λ r. (is_vote t r ≡ false) × (ops_of_vote t r ≡ [])) l → Voteless t l
voteless t [] each = (refl, refl)
voteless t (r ∷ rs) each =
    let more = voteless t rs each.1 in
    (or_from (is_vote t r) (list_any (is_vote t) rs) each.0.0 more.0, ap (λ x. x ++ flat_map (ops_of_vote t) rs) each.0.1 ∙ more.1)

no_vote_behind : (t : Txn) (s : LogOf) → Voteless t (behind_vote t s)
no_vote_behind t s =
    voteless t (behind_vote t s)
    (each_behind (λ r. (is_vote t r ≡ false) × (ops_of_vote t r ≡ [])) t s (λ n. (refl, refl)) (λ n dir. (refl, refl)) (λ dir is. (refl, refl)))

voted_notes : (t : Txn) (s : LogOf) → has_voted t (notes t s) ≡ s.voted
voted_notes t s =
    list_any-append (is_vote t) (vote_in t s.voted s.ops) (behind_vote t s)
    ∙ ap (λ b. list_any (is_vote t) (vote_in t s.voted s.ops) || b) (no_vote_behind t s).0 ∙ votes s.voted
  where
    votes : (v : Bool) → (list_any (is_vote t) (vote_in t v s.ops) || false) ≡ v
    votes true = rw (same_self t) refl
    votes false = refl

ops_notes : (t : Txn) (s : LogOf) → Fit s → voted_ops t (notes t s) ≡ s.ops
ops_notes t s f =
    flat_map-append (ops_of_vote t) (vote_in t s.voted s.ops) (behind_vote t s)
    ∙ ap (λ x. flat_map (ops_of_vote t) (vote_in t s.voted s.ops) ++ x) (no_vote_behind t s).1
    ∙ append-nil (flat_map (ops_of_vote t) (vote_in t s.voted s.ops)) ∙ votes s.voted refl
  where
    votes : (v : Bool) → s.voted ≡ v → flat_map (ops_of_vote t) (vote_in t v s.ops) ≡ s.ops
    votes true is = rw (same_self t) (append-nil s.ops)
    votes false is = sym (f.unvoted is)

-- notes say what they are made of
pub logged_notes : (t : Txn) (s : LogOf) → Fit s → logged_of t (notes t s) ≡ s
logged_notes t s f = λ i. record {
  voted = voted_notes t s i;
  ops = ops_notes t s f i;
  attempted = attempted_notes t s i;
  attempt = attempt_notes t s f i;
  elected = elected_notes t s f i;
  decided = decision_notes t s i;
}

-- what a brief keeps fits as well
pub open_cases : (t : Txn) (l : List Record) (P : List NumOp → Type 0) → P [] → P (voted_ops t l) → P (open_ops t l)
open_cases t l P none all = by (is_undecided t l) refl
  where
    by : (b : Bool) → is_undecided t l ≡ b → P (open_ops t l)
    by true is = rw is all
    by false is = rw is none

pub kept_fit : (t : Txn) (l : List Record) → Fit (logged_of t l) → Fit (kept_of t l)
kept_fit t l f = record {
  least = f.least;
  most = f.most;
  none = f.none;
  some = f.some;
  first = f.first;
  commit = f.commit;
  unvoted = λ is. open_cases t l (λ x. x ≡ []) refl (f.unvoted is);
  ascending = open_cases t l (λ x. ops_ascend 0 x ≡ true) refl f.ascending;
  few = open_cases t l (λ (x : List NumOp). list_all (λ o. nat_le o.n 64) x ≡ true) refl f.few;
}

-- what a log has of a transaction that no record is of makes no notes
pub no_notes : (t : Txn) (s : LogOf) → s ≡ record { voted = false; ops = []; attempted = None; attempt = 0; elected = 1; decided = None } → notes t s ≡ []
no_notes t s is = ap (λ x. notes t x) is

-- where a log has something of a transaction, there are notes
pub some_notes : (t : Txn) (s : LogOf) → Fit s → Heard s → notes t s ≢ []
some_notes t s f heard none =
    let e : logged_of t [] ≡ s = ap (λ (l : List Record). logged_of t l) (sym none) ∙ logged_notes t s f in
    let high = heard (sym (ap (λ (x : LogOf). x.voted) e)) (sym (ap (λ (x : LogOf). x.attempted) e)) (sym (ap (λ (x : LogOf). x.decided) e)) in
    let one : 1 ≡ s.elected = ap (λ (x : LogOf). x.elected) e in
    absurd (omega (arith, high, one))
