-- The locks by votes of logs that read alike.
use Rattle.std.proofs.Common.{◌≡◌, ◌∷◌, [], ◌++◌, ◌||◌, ℕ, Bool, true, false, List, Option, Some, None, is_none, refl, sym, ap, subst, ◌∙◌, if◌then◌else◌}
use Rattle.std.specs.Prelude.{not}
use Rattle.std.specs.List.{flat_map, list_any, AllByRecursion as Each}
use Rattle.std.proofs.lemmas.Bool.{true≢false, or_left, or_right}
use Rattle.std.proofs.lemmas.Grind.{flat_map-append}
use Rattle.std.proofs.lemmas.List.Elements.{filter-append}
use Rattle.e3_types.specs.declared.locks.Lock.{Lock}
use Rattle.e3_types.specs.declared.records.Record.{Record}
use Rattle.e3_types.specs.declared.records.Record.TheVariants as log
use Rattle.e3_types.specs.declared.transactions.Dir.{Dir}
use Rattle.e3_types.specs.declared.transactions.Dir.TheVariants.{Abort, Commit}
use Rattle.e3_types.specs.declared.transactions.NumOp.{NumOp}
use Rattle.e3_types.specs.declared.transactions.Op.{Op}
use Rattle.e3_types.specs.declared.transactions.Txn.{Txn}
use Rattle.e3_types.specs.Locks.{opposes, against}
use Rattle.e3_types.specs.Same.{same_txn, same_numbers}
use Rattle.e3_world.specs.Logs.{attempted, decision, has_voted, is_undecided, key_of, lock_on, mode_of, ops_of_vote, state_of, vote_locks, voted_locks, voted_ops}
use Rattle.e3_world.specs.Orderly.{is_free}
use Rattle.e3_laws.specs.brief.Alike.{ReadAlike, StandAlike, locks_by}
use Rattle.e3_laws.proofs.brief.Lists.{all_pass, none_pass}
use Rattle.e3_laws.proofs.steps.Each.{each-append}
use Rattle.e3_laws.proofs.steps.Tests.{same_is, same_self}

-- the locks on a name that operations of a transaction take
abbrev pub locks_for : List ℕ → Txn → List NumOp → List Lock
locks_for name t ops = flat_map (λ o. lock_on name t o.op) ops

lock_pass : (name : List ℕ) (t u : Txn) (op : Op) (b : Bool) → same_txn t u ≡ b → Each (λ l. same_txn t l.txn ≡ b) (lock_on name u op)
lock_pass name t u op b same = by (same_numbers name (key_of op).name) refl
  where
    by : (c : Bool) → same_numbers name (key_of op).name ≡ c → Each (λ l. same_txn t l.txn ≡ b) (lock_on name u op)
    by true is = rw is (same, tt)
    by false is = rw is tt

locks_pass : (name : List ℕ) (t u : Txn) (ops : List NumOp) (b : Bool) → same_txn t u ≡ b → Each (λ l. same_txn t l.txn ≡ b) (locks_for name u ops)
locks_pass name t u [] b same = tt
locks_pass name t u (o ∷ ops) b same =
    each-append (λ l. same_txn t l.txn ≡ b) (lock_on name u o.op) (locks_for name u ops) (lock_pass name t u o.op b same) (locks_pass name t u ops b same)

no_locks : (name : List ℕ) (t : Txn) (b : Bool) → [] ≡ (if b then locks_for name t [] else [])
no_locks name t true = refl
no_locks name t false = refl

-- those that one record takes
one_record : (name : List ℕ) (t : Txn) (all : List Record) (r : Record)
    → locks_by t (vote_locks name all r) ≡ (if is_undecided t all then locks_for name t (ops_of_vote t r) else [])
one_record name t all (log.Vote u ops) = by (same_txn t u) refl
  where
    mine : (b : Bool) → is_undecided t all ≡ b → locks_by t (vote_locks name all (log.Vote t ops)) ≡ (if is_undecided t all then locks_for name t (ops_of_vote t (log.Vote t ops)) else [])
    mine true is = rw (is, same_self t) (all_pass (λ l. same_txn t l.txn) (locks_for name t ops) (locks_pass name t t ops true (same_self t)))
    mine false is = rw is refl

    others : same_txn t u ≡ false → (b : Bool) → is_undecided u all ≡ b → locks_by t (vote_locks name all (log.Vote u ops)) ≡ []
    others same true is = rw is (none_pass (λ l. same_txn t l.txn) (locks_for name u ops) (locks_pass name t u ops false same))
    others same false is = rw is refl

    nothing : same_txn t u ≡ false → (b : Bool) → is_undecided t all ≡ b → (if is_undecided t all then locks_for name t (ops_of_vote t (log.Vote u ops)) else []) ≡ []
    nothing same true is = rw (is, same) refl
    nothing same false is = rw is refl

    by : (b : Bool) → same_txn t u ≡ b
        → locks_by t (vote_locks name all (log.Vote u ops)) ≡ (if is_undecided t all then locks_for name t (ops_of_vote t (log.Vote u ops)) else [])
    by true same = subst (λ (x : Txn). locks_by t (vote_locks name all (log.Vote x ops)) ≡ (if is_undecided t all then locks_for name t (ops_of_vote t (log.Vote x ops)) else []))
        (same_is t u same) (mine (is_undecided t all) refl)
    by false same = others same (is_undecided u all) refl ∙ sym (nothing same (is_undecided t all) refl)
one_record name t all (log.Birth format site weights rows) = no_locks name t (is_undecided t all)
one_record name t all (log.Inc n) = no_locks name t (is_undecided t all)
one_record name t all (log.Join u n) = no_locks name t (is_undecided t all)
one_record name t all (log.Attempt u n dir) = no_locks name t (is_undecided t all)
one_record name t all (log.Decision u dir) = no_locks name t (is_undecided t all)

-- a transaction's locks by votes are those of its operations, while it is undecided
locks_in : (name : List ℕ) (t : Txn) (all l : List Record) → locks_by t (flat_map (vote_locks name all) l) ≡ (if is_undecided t all then locks_for name t (voted_ops t l) else [])
locks_in name t all [] = no_locks name t (is_undecided t all)
locks_in name t all (r ∷ rs) =
    filter-append (λ l. same_txn t l.txn) (vote_locks name all r) (flat_map (vote_locks name all) rs)
    ∙ (λ i. one_record name t all r i ++ locks_in name t all rs i)
    ∙ both (is_undecided t all) (ops_of_vote t r) (voted_ops t rs)
  where
    both : (b : Bool) (x y : List NumOp) → (if b then locks_for name t x else []) ++ (if b then locks_for name t y else []) ≡ (if b then locks_for name t (x ++ y) else [])
    both true x y = sym (flat_map-append (λ o. lock_on name t o.op) x y)
    both false x y = refl

pub locks_own : (name : List ℕ) (t : Txn) (l : List Record) → locks_by t (voted_locks name l) ≡ (if is_undecided t l then locks_for name t (voted_ops t l) else [])
locks_own name t l = locks_in name t l l

pub locks_alike : (a b : List Record) → ReadAlike a b → (name : List ℕ) (t : Txn) → locks_by t (voted_locks name a) ≡ locks_by t (voted_locks name b)
locks_alike a b alike name t = locks_own name t a ∙ by (is_undecided t a) refl ∙ sym (locks_own name t b)
  where
    same : is_undecided t a ≡ is_undecided t b
    same = ap is_none (alike.decided t)

    by : (c : Bool) → is_undecided t a ≡ c → (if is_undecided t a then locks_for name t (voted_ops t a) else []) ≡ (if is_undecided t b then locks_for name t (voted_ops t b) else [])
    by true is = let other : is_undecided t b ≡ true = sym same ∙ is in rw (is, other) (ap (locks_for name t) (alike.ops t is))
    by false is = let other : is_undecided t b ≡ false = sym same ∙ is in rw (is, other) refl

pub state_alike : (t : Txn) (a b : List Record) → decision t a ≡ decision t b → attempted t a ≡ attempted t b → has_voted t a ≡ has_voted t b → state_of t a ≡ state_of t b
state_alike t a b decides tries votes = by (decision t a) refl (attempted t a) refl (has_voted t a) refl
  where
    by : (d : Option Dir) → decision t a ≡ d → (o : Option Dir) → attempted t a ≡ o → (v : Bool) → has_voted t a ≡ v → state_of t a ≡ state_of t b
    by (Some Commit) de o oe v ve = let db : decision t b ≡ Some Commit = sym decides ∙ de in rw (de, db) refl
    by (Some Abort) de o oe v ve = let db : decision t b ≡ Some Abort = sym decides ∙ de in rw (de, db) refl
    by None de (Some Commit) oe v ve =
        let db : decision t b ≡ None = sym decides ∙ de in let ob : attempted t b ≡ Some Commit = sym tries ∙ oe in rw (de, db, oe, ob) refl
    by None de (Some Abort) oe v ve =
        let db : decision t b ≡ None = sym decides ∙ de in let ob : attempted t b ≡ Some Abort = sym tries ∙ oe in rw (de, db, oe, ob) refl
    by None de None oe v ve =
        let db : decision t b ≡ None = sym decides ∙ de in
        let ob : attempted t b ≡ None = sym tries ∙ oe in
        let vb : has_voted t b ≡ v = sym votes ∙ ve in
        rw (de, db, oe, ob, ve, vb) refl

pub stand_alike : (a b : List Record) → ReadAlike a b → StandAlike a b
stand_alike a b alike = record {
  state = λ t. state_alike t a b (alike.decided t) (alike.attempted t) (alike.voted t);
  undecided = λ t. ap is_none (alike.decided t);
  locks = λ name t. locks_alike a b alike name t;
}

-- A test of locks holds of one where it does of one of some transaction.
any_by : (p : Lock → Bool) (locks : List Lock) → list_any p locks ≡ true → (t : Txn) × (list_any p (locks_by t locks) ≡ true)
any_by p [] is = absurd (true≢false (sym is))
any_by p (l ∷ ls) is = by (p l) refl (any_by p ls)
  where
    found : p l ≡ true → list_any p (locks_by l.txn (l ∷ ls)) ≡ true
    found e = rw (same_self l.txn, e) refl

    later : (t : Txn) → list_any p (locks_by t ls) ≡ true → (c : Bool) → same_txn t l.txn ≡ c → list_any p (locks_by t (l ∷ ls)) ≡ true
    later t e true same = rw same (or_right (p l) (list_any p (locks_by t ls)) e)
    later t e false same = rw same e

    by : (b : Bool) → p l ≡ b → (list_any p ls ≡ true → (t : Txn) × (list_any p (locks_by t ls) ≡ true)) → (t : Txn) × (list_any p (locks_by t (l ∷ ls)) ≡ true)
    by true e more = (l.txn, found e)
    by false e more =
        let h : list_any p ls ≡ true = ap (λ c. c || list_any p ls) (sym e) ∙ is in
        let r = more h in
        (r.0, later r.0 r.1 (same_txn r.0 l.txn) refl)

pub any_back : (p : Lock → Bool) (t : Txn) (locks : List Lock) → list_any p (locks_by t locks) ≡ true → list_any p locks ≡ true
any_back p t [] is = is
any_back p t (l ∷ ls) is = by (same_txn t l.txn) refl (any_back p t ls) (p l) refl
  where
    by : (c : Bool) → same_txn t l.txn ≡ c → (list_any p (locks_by t ls) ≡ true → list_any p ls ≡ true) → (b : Bool) → p l ≡ b → list_any p (l ∷ ls) ≡ true
    by c same more true e = or_left (p l) (list_any p ls) e
    by true same more false e =
        let h : (p l || list_any p (locks_by t ls)) ≡ true = rw same at is in
        or_right (p l) (list_any p ls) (more (ap (λ x. x || list_any p (locks_by t ls)) (sym e) ∙ h))
    by false same more false e =
        let h : list_any p (locks_by t ls) ≡ true = rw same at is in or_right (p l) (list_any p ls) (more h)

pub any_alike : (p : Lock → Bool) (x y : List Lock) → ((t : Txn) → locks_by t x ≡ locks_by t y) → list_any p x ≡ true → list_any p y ≡ true
any_alike p x y same is =
    let r = any_by p x is in
    any_back p r.0 y (subst (λ (l : List Lock). list_any p l ≡ true) (same r.0) r.1)

-- no lock passes a test that no transaction's locks pass
pub none_by : (p : Lock → Bool) (locks : List Lock) → ((t : Txn) → list_any p (locks_by t locks) ≡ false) → list_any p locks ≡ false
none_by p locks none = by (list_any p locks) refl
  where
    by : (b : Bool) → list_any p locks ≡ b → b ≡ false
    by false is = refl
    by true is = let r = any_by p locks is in absurd (true≢false (sym r.1 ∙ none r.0))

-- the lock that an operation wants
abbrev pub lock_of : Txn → NumOp → Lock
lock_of t o = record { txn = t; mode = mode_of o.op }

-- whether nobody is among these
abbrev is_nobody : List Txn → Bool
is_nobody [] = true
is_nobody (u ∷ us) = false

nobody_against : (w : Lock) (ls : List Lock) → is_nobody (against w ls) ≡ not (list_any (opposes w) ls)
nobody_against w [] = refl
nobody_against w (l ∷ ls) = by (nobody_against w ls) (opposes w l) refl
  where
    by : is_nobody (against w ls) ≡ not (list_any (opposes w) ls) → (b : Bool) → opposes w l ≡ b →
        is_nobody (against w (l ∷ ls)) ≡ not (list_any (opposes w) (l ∷ ls))
    by more true is = rw is refl
    by more false is = rw is more

free-nobody : (t : Txn) (before : List Record) (o : NumOp) → is_free t before o ≡ is_nobody (against (lock_of t o) (voted_locks (key_of o.op).name before))
free-nobody t before o = by (against (lock_of t o) (voted_locks (key_of o.op).name before)) refl
  where
    by : (us : List Txn) → against (lock_of t o) (voted_locks (key_of o.op).name before) ≡ us →
        is_free t before o ≡ is_nobody (against (lock_of t o) (voted_locks (key_of o.op).name before))
    by [] is = rw is refl
    by (u ∷ us) is = rw is refl

-- a lock is free where none by votes opposes it
pub free_is : (t : Txn) (before : List Record) (o : NumOp) → is_free t before o ≡ not (list_any (opposes (lock_of t o)) (voted_locks (key_of o.op).name before))
free_is t before o = free-nobody t before o ∙ nobody_against (lock_of t o) (voted_locks (key_of o.op).name before)

pub equal_tests : (x y : Bool) → (x ≡ true → y ≡ true) → (y ≡ true → x ≡ true) → x ≡ y
equal_tests true y to back = sym (to refl)
equal_tests false true to back = back refl
equal_tests false false to back = refl

pub free_alike : (a b : List Record) → ReadAlike a b → (t : Txn) (o : NumOp) → is_free t a o ≡ is_free t b o
free_alike a b alike t o =
    let name = (key_of o.op).name in
    let p = opposes (lock_of t o) in
    let same : (u : Txn) → locks_by u (voted_locks name a) ≡ locks_by u (voted_locks name b) = λ u. locks_alike a b alike name u in
    free_is t a o
    ∙ ap not (equal_tests (list_any p (voted_locks name a)) (list_any p (voted_locks name b))
    (any_alike p (voted_locks name a) (voted_locks name b) same) (any_alike p (voted_locks name b) (voted_locks name a) (λ u. sym (same u))))
    ∙ sym (free_is t b o)
