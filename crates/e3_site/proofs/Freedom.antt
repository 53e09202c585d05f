-- A lock is free exactly where none of the votes of undecided transactions has one that opposes it.
use Rattle.std.proofs.Common.{◌≡◌, ◌∷◌, ◌||◌, ◌&&◌, ℕ, [], List, Bool, true, false, not, filter, map, refl, ap, sym, ◌∙◌}
use Rattle.std.specs.List.{list_any, flat_map}
use Rattle.std.proofs.lemmas.List.Elements.{filter-append}
use Rattle.std.proofs.lemmas.List.Folds.{list_any-append}
use Rattle.e3_types.specs.declared.locks.Lock.{Lock}
use Rattle.e3_types.specs.declared.records.Record.{Record}
use Rattle.e3_types.specs.declared.records.Record.TheVariants as log
use Rattle.e3_types.specs.declared.transactions.NumOp.{NumOp}
use Rattle.e3_types.specs.declared.transactions.Txn.{Txn}
use Rattle.e3_types.specs.Locks.{opposes, against}
use Rattle.e3_world.specs.Logs.{is_undecided, key_of, lock_on, mode_of, vote_locks, voted_locks}
use Rattle.e3_types.specs.Same.{same_numbers}
use Rattle.e3_world.specs.Orderly.{is_free}
use Rattle.e3_readings.specs.Requests.{lock_for}
use Rattle.e3_places.specs.Standing.{cast_in, cast_of, is_on, is_open, voted, votes_of}

-- a test of all that is made is a test of what each makes
pub any_flat : {X Y : Type 0} (p : Y → Bool) (f : X → List Y) (xs : List X) → list_any p (flat_map f xs) ≡ list_any (λ x. list_any p (f x)) xs
any_flat p f [] = refl
any_flat p f (x ∷ xs) = list_any-append p (f x) (flat_map f xs) ∙ ap (λ b. list_any p (f x) || b) (any_flat p f xs)

-- a vote's locks oppose one where its transaction is undecided and one of its operations' locks does
pub vote_any : (name : List ℕ) (w : Lock) (before : List Record) (t : Txn) (ops : List NumOp) →
    list_any (opposes w) (vote_locks name before (log.Vote t ops)) ≡ (is_undecided t before && list_any (λ o. list_any (opposes w) (lock_on name t o.op)) ops)
vote_any name w before t ops = by (is_undecided t before) refl
  where
    by : (b : Bool) → is_undecided t before ≡ b →
        list_any (opposes w) (vote_locks name before (log.Vote t ops)) ≡ (b && list_any (λ o. list_any (opposes w) (lock_on name t o.op)) ops)
    by true is = rw is (any_flat (opposes w) (λ o. lock_on name t o.op) ops)
    by false is = rw is refl

-- the lock that an operation wants
abbrev pub lock_of : Txn → NumOp → Lock
lock_of t o = record { txn = t; mode = mode_of o.op }

-- whether nobody is among these
abbrev is_nobody : List Txn → Bool
is_nobody [] = true
is_nobody (u ∷ us) = false

-- nobody is against a lock that none opposes
nobody_against : (w : Lock) (ls : List Lock) → is_nobody (against w ls) ≡ not (list_any (opposes w) ls)
nobody_against w [] = refl
nobody_against w (l ∷ ls) = by (nobody_against w ls) (opposes w l) refl
  where
    by : is_nobody (against w ls) ≡ not (list_any (opposes w) ls) → (b : Bool) → opposes w l ≡ b →
        is_nobody (against w (l ∷ ls)) ≡ not (list_any (opposes w) (l ∷ ls))
    by more true is = rw is refl
    by more false is = rw is more

-- a lock is free where nobody is against it
free-nobody : (t : Txn) (before : List Record) (o : NumOp) → is_free t before o ≡ is_nobody (against (lock_of t o) (voted_locks (key_of o.op).name before))
free-nobody t before o = by (against (lock_of t o) (voted_locks (key_of o.op).name before)) refl
  where
    by : (us : List Txn) → against (lock_of t o) (voted_locks (key_of o.op).name before) ≡ us →
        is_free t before o ≡ is_nobody (against (lock_of t o) (voted_locks (key_of o.op).name before))
    by [] is = rw is refl
    by (u ∷ us) is = rw is refl

pub free_any : (t : Txn) (before : List Record) (o : NumOp) →
    is_free t before o ≡ not (list_any (λ r. list_any (opposes (record { txn = t; mode = mode_of o.op })) (vote_locks (key_of o.op).name before r)) before)
free_any t before o =
    free-nobody t before o ∙ nobody_against (lock_of t o) (voted_locks (key_of o.op).name before)
    ∙ ap not (any_flat (opposes (lock_of t o)) (vote_locks (key_of o.op).name before) before)

-- a vote's operations on a name oppose a lock where its transaction is undecided and one of their locks does
one_any : (name : List ℕ) (w : Lock) (records : List Record) (t : Txn) (b : Bool) → is_undecided t records ≡ b → (ops : List NumOp)
    → list_any (λ a. opposes w (lock_for a)) (filter (is_open (is_on name) records) (map (voted t) ops)) ≡ (b && list_any (λ o. list_any (opposes w) (lock_on name t o.op)) ops)
one_any name w records t true u [] = refl
one_any name w records t false u [] = refl
one_any name w records t true u (o ∷ os) = by (one_any name w records t true u os) (same_numbers name (key_of o.op).name) refl
  where
    by : list_any (λ a. opposes w (lock_for a)) (filter (is_open (is_on name) records) (map (voted t) os)) ≡ list_any (λ o. list_any (opposes w) (lock_on name t o.op)) os
        → (c : Bool) → same_numbers name (key_of o.op).name ≡ c
        → list_any (λ a. opposes w (lock_for a)) (filter (is_open (is_on name) records) (map (voted t) (o ∷ os))) ≡ list_any (λ o. list_any (opposes w) (lock_on name t o.op)) (o ∷ os)
    by ih true e = rw (e, u) (ap (λ (x : Bool). opposes w (lock_for (voted t o)) || x) ih ∙ same (opposes w (lock_for (voted t o))) (list_any (λ o. list_any (opposes w) (lock_on name t o.op)) os))
      where
        same : (x y : Bool) → (x || y) ≡ ((x || false) || y)
        same true y = refl
        same false y = refl
    by ih false e = rw e ih
one_any name w records t false u (o ∷ os) = by (one_any name w records t false u os) (same_numbers name (key_of o.op).name) refl
  where
    by : list_any (λ a. opposes w (lock_for a)) (filter (is_open (is_on name) records) (map (voted t) os)) ≡ false → (c : Bool) → same_numbers name (key_of o.op).name ≡ c
        → list_any (λ a. opposes w (lock_for a)) (filter (is_open (is_on name) records) (map (voted t) (o ∷ os))) ≡ false
    by ih true e = rw (e, u) ih
    by ih false e = rw e ih

-- so do the votes of some records
votes_any : (name : List ℕ) (w : Lock) (records xs : List Record)
    → list_any (λ a. opposes w (lock_for a)) (filter (is_open (is_on name) records) (cast_of xs)) ≡ list_any (λ r. list_any (opposes w) (vote_locks name records r)) xs
votes_any name w records [] = refl
votes_any name w records (x ∷ xs) =
    ap (list_any (λ a. opposes w (lock_for a))) (filter-append (is_open (is_on name) records) (cast_in x) (cast_of xs))
    ∙ list_any-append (λ a. opposes w (lock_for a)) (filter (is_open (is_on name) records) (cast_in x)) (filter (is_open (is_on name) records) (cast_of xs))
    ∙ ap (λ b. b || list_any (λ a. opposes w (lock_for a)) (filter (is_open (is_on name) records) (cast_of xs))) (one x)
    ∙ ap (λ b. list_any (opposes w) (vote_locks name records x) || b) (votes_any name w records xs)
  where
    one : (x : Record) → list_any (λ a. opposes w (lock_for a)) (filter (is_open (is_on name) records) (cast_in x)) ≡ list_any (opposes w) (vote_locks name records x)
    one (log.Vote t ops) = one_any name w records t (is_undecided t records) refl ops ∙ sym (vote_any name w records t ops)
    one (log.Birth format site weights rows) = refl
    one (log.Inc inc) = refl
    one (log.Join u n) = refl
    one (log.Attempt u n dir) = refl
    one (log.Decision u dir) = refl

-- a lock is free where none of the operations of votes on its name opposes it
pub free_votes : (t : Txn) (before : List Record) (o : NumOp)
    → is_free t before o ≡ not (list_any (λ a. opposes (record { txn = t; mode = mode_of o.op }) (lock_for a)) (votes_of (is_on (key_of o.op).name) before))
free_votes t before o = free_any t before o ∙ ap not (sym (votes_any (key_of o.op).name (lock_of t o) before before))
