-- The operations of votes behind more records, and their locks.
use Rattle.std.specs.Prelude.{◌≡◌, ◌&&◌, ◌++◌, ◌∷◌, [], if◌then◌else◌, ℕ, Bool, true, false, List, filter, map}
use Rattle.std.specs.List.{flat_map}
use Rattle.std.proofs.Common.{refl, ap, sym, ◌∙◌, arith}
use Rattle.std.proofs.lemmas.Grind.{common_steps}
use Rattle.std.proofs.lemmas.List.Concat.{flat_map-append}
use Rattle.std.proofs.lemmas.List.Elements.{filter-append}
use Rattle.e3_types.specs.declared.locks.Lock.{Lock}
use Rattle.e3_types.specs.declared.records.Record.{Record}
use Rattle.e3_types.specs.declared.records.Record.TheVariants as log
use Rattle.e3_types.specs.declared.transactions.NumOp.{NumOp}
use Rattle.e3_types.specs.declared.transactions.Txn.{Txn}
use Rattle.e3_types.specs.Same.{same_numbers}
use Rattle.e3_world.specs.declared.lives.Asked.{Asked}
use Rattle.e3_world.specs.Logs.{is_undecided, key_of, lock_on, vote_locks, voted_locks}
use Rattle.e3_readings.specs.Requests.{lock_for}
use Rattle.e3_places.specs.Standing.{is_on, voted, cast_in, cast_of, is_open, votes_of, is_left, votes_by, may_follow, follow}
use Rattle.e3_places.proofs.Arriving.{undecided_more}

-- a test that is two tests in turn
pub filter_both : {X : Type 0} (p q r : X → Bool) → ((x : X) → r x ≡ (p x && q x)) → (xs : List X) → filter r xs ≡ filter q (filter p xs)
filter_both p q r h [] = refl
filter_both p q r h (x ∷ xs) = by (filter_both p q r h xs) (p x) (q x) refl refl
  where
    by : filter r xs ≡ filter q (filter p xs) → (b c : Bool) → p x ≡ b → q x ≡ c → filter r (x ∷ xs) ≡ filter q (filter p (x ∷ xs))
    by ih true true e f = rw (h x, e, f) (ap (λ (l : List _). x ∷ l) ih)
    by ih true false e f = rw (h x, e, f) ih
    by ih false c e f = rw (h x, e) ih

-- the operation passes behind more records where it passes before and they do not decide its transaction
open_more : (test : Asked → Bool) (log rs : List Record) (a : Asked) → is_open test (log ++ rs) a ≡ (is_open test log a && is_left rs a)
open_more test log rs a = ap (λ (b : Bool). test a && b) (undecided_more a.txn log rs) ∙ by (test a) (is_undecided a.txn log) (is_left rs a)
  where
    by : (x y z : Bool) → (x && (y && z)) ≡ ((x && y) && z)
    by true y z = refl
    by false y z = refl

-- the operations of one vote
cast_one : (test : Asked → Bool) (records rs : List Record) (t : Txn) → is_undecided t records ≡ true → (ops : List NumOp)
    → filter (is_open test (records ++ rs)) (map (voted t) ops) ≡ filter (is_left rs) (filter test (map (voted t) ops))
cast_one test records rs t u [] = refl
cast_one test records rs t u (o ∷ os) = by (cast_one test records rs t u os) (test (voted t o)) (is_left rs (voted t o)) refl refl
  where
    here : is_open test (records ++ rs) (voted t o) ≡ (test (voted t o) && is_left rs (voted t o))
    here = ap (λ (b : Bool). test (voted t o) && b) (undecided_more t records rs ∙ ap (λ (b : Bool). b && is_left rs (voted t o)) u)

    by : filter (is_open test (records ++ rs)) (map (voted t) os) ≡ filter (is_left rs) (filter test (map (voted t) os)) → (b c : Bool)
        → test (voted t o) ≡ b → is_left rs (voted t o) ≡ c
        → filter (is_open test (records ++ rs)) (map (voted t) (o ∷ os)) ≡ filter (is_left rs) (filter test (map (voted t) (o ∷ os)))
    by ih true true e f = rw (here, e, f) (ap (λ (l : List Asked). voted t o ∷ l) ih)
    by ih true false e f = rw (here, e, f) ih
    by ih false c e f = rw (here, e) ih

pub both_true : (b c : Bool) → (b && c) ≡ true → (b ≡ true) × (c ≡ true)
both_true true c e = (refl, e)
both_true false c e = (e, grind (arith, common_steps, e))

-- the operations of these records' votes
cast_more : (test : Asked → Bool) (records rs xs : List Record) → follow records xs ≡ true
    → filter (is_open test (records ++ rs)) (cast_of xs) ≡ filter (is_left rs) (filter test (cast_of xs))
cast_more test records rs [] h = refl
cast_more test records rs (x ∷ xs) h =
    let both = both_true (may_follow records x) (follow records xs) h in
    filter-append (is_open test (records ++ rs)) (cast_in x) (cast_of xs)
    ∙ ap (λ (l : List Asked). l ++ filter (is_open test (records ++ rs)) (cast_of xs)) (one x both.0)
    ∙ ap (λ (l : List Asked). filter (is_left rs) (filter test (cast_in x)) ++ l) (cast_more test records rs xs both.1)
    ∙ sym (ap (filter (is_left rs)) (filter-append test (cast_in x) (cast_of xs)) ∙ filter-append (is_left rs) (filter test (cast_in x)) (filter test (cast_of xs)))
  where
    one : (x : Record) → may_follow records x ≡ true → filter (is_open test (records ++ rs)) (cast_in x) ≡ filter (is_left rs) (filter test (cast_in x))
    one (log.Vote t ops) e = cast_one test records rs t e ops
    one (log.Birth format site weights rows) e = refl
    one (log.Inc inc) e = refl
    one (log.Join u n) e = refl
    one (log.Attempt u n dir) e = refl
    one (log.Decision u dir) e = refl

-- The law of votes: behind more records they are those behind these.
pub votes_more : (test : Asked → Bool) (records rs : List Record) → follow records rs ≡ true → votes_of test (records ++ rs) ≡ votes_by test (votes_of test records) rs
votes_more test records rs h =
    ap (filter (is_open test (records ++ rs))) (flat_map-append cast_in records rs)
    ∙ filter-append (is_open test (records ++ rs)) (cast_of records) (cast_of rs)
    ∙ ap (λ (l : List Asked). l ++ filter (is_open test (records ++ rs)) (cast_of rs))
    (filter_both (is_open test records) (is_left rs) (is_open test (records ++ rs)) (open_more test records rs) (cast_of records))
    ∙ ap (λ (l : List Asked). filter (is_left rs) (votes_of test records) ++ l) (cast_more test records rs rs h)
    ∙ sym (filter-append (is_left rs) (votes_of test records) (filter test (cast_of rs)))

-- the locks of one vote
locks_one : (name : List ℕ) (records : List Record) (t : Txn) (b : Bool) → is_undecided t records ≡ b → (ops : List NumOp)
    → (if b then flat_map (λ o. lock_on name t o.op) ops else []) ≡ map lock_for (filter (is_open (is_on name) records) (map (voted t) ops))
locks_one name records t true u [] = refl
locks_one name records t false u [] = refl
locks_one name records t true u (o ∷ os) = by (locks_one name records t true u os) (same_numbers name (key_of o.op).name) refl
  where
    by : flat_map (λ o. lock_on name t o.op) os ≡ map lock_for (filter (is_open (is_on name) records) (map (voted t) os)) → (c : Bool) → same_numbers name (key_of o.op).name ≡ c
        → flat_map (λ o. lock_on name t o.op) (o ∷ os) ≡ map lock_for (filter (is_open (is_on name) records) (map (voted t) (o ∷ os)))
    by ih true e = rw (e, u) (ap (λ (l : List Lock). lock_for (voted t o) ∷ l) ih)
    by ih false e = rw e ih
locks_one name records t false u (o ∷ os) = by (locks_one name records t false u os) (same_numbers name (key_of o.op).name) refl
  where
    by : [] ≡ map lock_for (filter (is_open (is_on name) records) (map (voted t) os)) → (c : Bool) → same_numbers name (key_of o.op).name ≡ c
        → [] ≡ map lock_for (filter (is_open (is_on name) records) (map (voted t) (o ∷ os)))
    by ih true e = rw (e, u) ih
    by ih false e = rw e ih

map_append : (xs ys : List Asked) → map lock_for (xs ++ ys) ≡ map lock_for xs ++ map lock_for ys
map_append [] ys = refl
map_append (x ∷ xs) ys = ap (λ (l : List Lock). lock_for x ∷ l) (map_append xs ys)

locks_of : (name : List ℕ) (records xs : List Record) → flat_map (vote_locks name records) xs ≡ map lock_for (filter (is_open (is_on name) records) (cast_of xs))
locks_of name records [] = refl
locks_of name records (x ∷ xs) =
    ap (λ (l : List Lock). l ++ flat_map (vote_locks name records) xs) (one x)
    ∙ ap (λ (l : List Lock). map lock_for (filter (is_open (is_on name) records) (cast_in x)) ++ l) (locks_of name records xs)
    ∙ sym (ap (map lock_for) (filter-append (is_open (is_on name) records) (cast_in x) (cast_of xs))
    ∙ map_append (filter (is_open (is_on name) records) (cast_in x)) (filter (is_open (is_on name) records) (cast_of xs)))
  where
    one : (x : Record) → vote_locks name records x ≡ map lock_for (filter (is_open (is_on name) records) (cast_in x))
    one (log.Vote t ops) = locks_one name records t (is_undecided t records) refl ops
    one (log.Birth format site weights rows) = refl
    one (log.Inc inc) = refl
    one (log.Join u n) = refl
    one (log.Attempt u n dir) = refl
    one (log.Decision u dir) = refl

-- the locks of votes
pub voted_is : (name : List ℕ) (records : List Record) → voted_locks name records ≡ map lock_for (votes_of (is_on name) records)
voted_is name records = locks_of name records records
