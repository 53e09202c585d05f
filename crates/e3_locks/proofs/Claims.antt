-- Tests of the locks on a name.
use Rattle.std.proofs.Common.{◌≡◌, ℕ, Bool, true, false, List, [], ◌∷◌, ◌++◌, refl}
use Rattle.std.specs.Prelude.{◌&&◌, ◌||◌, not, filter}
use Rattle.std.specs.List.{list_any, list_all}
use Rattle.e3_types.specs.declared.locks.Lock.{Lock}
use Rattle.e3_types.specs.Same.{same_txn, same_numbers}
use Rattle.e3_locks.specs.declared.granted.Granted.{Granted}
use Rattle.e3_types.specs.declared.transactions.Txn.{Txn}
use Rattle.e3_locks.specs.Places.{others_of}
use Rattle.e3_locks.specs.LockLists.{lock_of, on}

-- one on the name passes
pub any_on : (p : Lock → Bool) (name : List ℕ) (locks : List Granted)
    → list_any p (on name locks) ≡ list_any (λ g. same_numbers name g.name && p (lock_of g)) locks
any_on p name [] = refl
any_on p name (g ∷ gs) = by (same_numbers name g.name) refl (any_on p name gs)
  where
    by : (b : Bool) → same_numbers name g.name ≡ b
        → list_any p (on name gs) ≡ list_any (λ g. same_numbers name g.name && p (lock_of g)) gs
        → list_any p (on name (g ∷ gs)) ≡ list_any (λ g. same_numbers name g.name && p (lock_of g)) (g ∷ gs)
    by true e ih = rw (e, ih) refl
    by false e ih = rw (e, ih) refl

-- all on the name pass
pub all_on : (p : Lock → Bool) (name : List ℕ) (locks : List Granted)
    → list_all p (on name locks) ≡ list_all (λ g. not (same_numbers name g.name) || p (lock_of g)) locks
all_on p name [] = refl
all_on p name (g ∷ gs) = by (same_numbers name g.name) refl (all_on p name gs)
  where
    by : (b : Bool) → same_numbers name g.name ≡ b
        → list_all p (on name gs) ≡ list_all (λ g. not (same_numbers name g.name) || p (lock_of g)) gs
        → list_all p (on name (g ∷ gs)) ≡ list_all (λ g. not (same_numbers name g.name) || p (lock_of g)) (g ∷ gs)
    by true e ih = rw (e, ih) refl
    by false e ih = rw (e, ih) refl

-- one on the name that is not the transaction's passes
pub any_others_on : (p : Lock → Bool) (t : Txn) (name : List ℕ) (locks : List Granted)
    → list_any p (others_of t (on name locks)) ≡ list_any (λ g. same_numbers name g.name && (not (same_txn t g.txn) && p (lock_of g))) locks
any_others_on p t name [] = refl
any_others_on p t name (g ∷ gs) = by (same_numbers name g.name) (same_txn t g.txn) refl refl (any_others_on p t name gs)
  where
    by : (b c : Bool) → same_numbers name g.name ≡ b → same_txn t g.txn ≡ c
        → list_any p (others_of t (on name gs)) ≡ list_any (λ g. same_numbers name g.name && (not (same_txn t g.txn) && p (lock_of g))) gs
        → list_any p (others_of t (on name (g ∷ gs))) ≡ list_any (λ g. same_numbers name g.name && (not (same_txn t g.txn) && p (lock_of g))) (g ∷ gs)
    by true true e f ih = rw (e, f, ih) refl
    by true false e f ih = rw (e, f, ih) refl
    by false c e f ih = rw (e, ih) refl

-- the locks on a name of two lists, one behind the other
pub on_append : (name : List ℕ) (xs ys : List Granted) → on name (xs ++ ys) ≡ on name xs ++ on name ys
on_append name [] ys = refl
on_append name (g ∷ gs) ys = by (same_numbers name g.name) refl (on_append name gs ys)
  where
    by : (b : Bool) → same_numbers name g.name ≡ b → on name (gs ++ ys) ≡ on name gs ++ on name ys
        → on name (g ∷ gs ++ ys) ≡ on name (g ∷ gs) ++ on name ys
    by true e ih = rw (e, ih) refl
    by false e ih = rw (e, ih) refl

-- one lock more, on the name or on another
pub on_one : (name : List ℕ) (g : Granted) → same_numbers name g.name ≡ true → on name (g ∷ []) ≡ lock_of g ∷ []
on_one name g e = rw e refl

pub on_other : (name : List ℕ) (g : Granted) → same_numbers name g.name ≡ false → on name (g ∷ []) ≡ []
on_other name g e = rw e refl

-- where none is named so, none is on the name
pub none_on : (name : List ℕ) (locks : List Granted) → list_any (λ g. same_numbers name g.name) locks ≡ false → on name locks ≡ []
none_on name [] e = refl
none_on name (g ∷ gs) e = by (same_numbers name g.name) refl e (λ r. none_on name gs r)
  where
    by : (b : Bool) → same_numbers name g.name ≡ b → (same_numbers name g.name || list_any (λ g. same_numbers name g.name) gs) ≡ false
        → (list_any (λ g. same_numbers name g.name) gs ≡ false → on name gs ≡ []) → on name (g ∷ gs) ≡ []
    by true q e rest = cc
    by false q e rest = let none : list_any (λ g. same_numbers name g.name) gs ≡ false = rw q at e in rw q (rest none)

-- one that is named so is on the name
pub some_on : (name : List ℕ) (locks : List Granted) → list_any (λ g. same_numbers name g.name) locks ≡ true → on name locks ≡ [] → ⊥
some_on name [] e none = cc
some_on name (g ∷ gs) e none = by (same_numbers name g.name) refl e none (λ a b. some_on name gs a b)
  where
    by : (b : Bool) → same_numbers name g.name ≡ b → (same_numbers name g.name || list_any (λ g. same_numbers name g.name) gs) ≡ true → on name (g ∷ gs) ≡ []
        → (list_any (λ g. same_numbers name g.name) gs ≡ true → on name gs ≡ [] → ⊥) → ⊥
    by true q e none rest = let some : lock_of g ∷ on name gs ≡ [] = rw q at none in cc
    by false q e none rest =
        let some : list_any (λ g. same_numbers name g.name) gs ≡ true = rw q at e in
        let empty : on name gs ≡ [] = rw q at none in
        rest some empty

-- the others' locks on a name are those on the name among the others'
pub on_others : (t : Txn) (name : List ℕ) (locks : List Granted) → on name (filter (λ g. not (same_txn t g.txn)) locks) ≡ others_of t (on name locks)
on_others t name [] = refl
on_others t name (g ∷ gs) = by (same_numbers name g.name) (same_txn t g.txn) refl refl (on_others t name gs)
  where
    by : (b c : Bool) → same_numbers name g.name ≡ b → same_txn t g.txn ≡ c
        → on name (filter (λ g. not (same_txn t g.txn)) gs) ≡ others_of t (on name gs)
        → on name (filter (λ g. not (same_txn t g.txn)) (g ∷ gs)) ≡ others_of t (on name (g ∷ gs))
    by true true e f ih = rw (e, f, ih) refl
    by true false e f ih = rw (f, e, f, ih) refl
    by false true e f ih = rw (f, e, ih) refl
    by false false e f ih = rw (f, e, ih) refl
