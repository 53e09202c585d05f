-- What is held and what waits on a name, as what stands there has it.
use Rattle.std.specs.Prelude.{◌≡◌, ◌&&◌, ◌++◌, ◌∷◌, [], if◌then◌else◌, ℕ, Bool, true, false, not, List, filter, map}
use Rattle.std.specs.List.{flat_map}
use Rattle.std.proofs.Common.{refl, ap, sym, ◌∙◌}
use Rattle.std.proofs.lemmas.List.Concat.{flat_map-append}
use Rattle.e3_types.specs.declared.locks.Lock.{Lock}
use Rattle.e3_types.specs.declared.records.Record.{Record}
use Rattle.e3_types.specs.Same.{same_numbers}
use Rattle.e3_world.specs.declared.lives.Asked.{Asked}
use Rattle.e3_world.specs.declared.lives.Life.{Life}
use Rattle.e3_world.specs.declared.lives.Moment.{Moment}
use Rattle.e3_world.specs.Logs.{is_undecided, key_of, lock_on, voted_locks}
use Rattle.e3_world.specs.Making.{asked_on}
use Rattle.e3_world.specs.Operations.{arrivals, is_answered, done_locks, waiting, holders, queue}
use Rattle.e3_places.specs.declared.places.Standing.{Standing}
use Rattle.e3_readings.specs.Requests.{lock_for}
use Rattle.e3_places.specs.Standing.{is_on, stand, standing_one, standing_of, claims_of, decided_in, follow, held_by, waits_by, held_with, waits_with, wanted_by, wanted_with}
use Rattle.e3_places.proofs.Arriving.{undecided_more, flat_if}
use Rattle.e3_places.proofs.Voting.{votes_more, voted_is}

-- a filtered list, part by part
two_parts : {X Y Z : Type 0} (p : X → Bool) (f : X → List Z) (g : Y → List Z) (h : X → List Y) → ((x : X) → (if p x then f x else []) ≡ flat_map g (h x)) → (xs : List X)
    → flat_map f (filter p xs) ≡ flat_map g (flat_map h xs)
two_parts p f g h each [] = refl
two_parts p f g h each (x ∷ xs) = by (two_parts p f g h each xs) (p x) refl
  where
    by : flat_map f (filter p xs) ≡ flat_map g (flat_map h xs) → (b : Bool) → p x ≡ b → flat_map f (filter p (x ∷ xs)) ≡ flat_map g (flat_map h (x ∷ xs))
    by ih true is =
        let here : f x ≡ flat_map g (h x) = sym (ap (λ (b : Bool). if b then f x else []) is) ∙ each x in
        rw is (ap (λ (l : List _). l ++ flat_map f (filter p xs)) here ∙ ap (λ (l : List _). flat_map g (h x) ++ l) ih ∙ sym (flat_map-append g (h x) (flat_map h xs)))
    by ih false is =
        let here : [] ≡ flat_map g (h x) = sym (ap (λ (b : Bool). if b then f x else []) is) ∙ each x in
        rw is (ih ∙ ap (λ (l : List _). l ++ flat_map g (flat_map h xs)) here ∙ sym (flat_map-append g (h x) (flat_map h xs)))

-- the two orders of the tests
by_tests : {X : Type 0} (u d w n : Bool) (x : X) → (if (u && not d) && w then (if n then x ∷ [] else []) else []) ≡ (if n && u then (if w && not d then x ∷ [] else []) else [])
by_tests true true true true l = refl
by_tests true true true false l = refl
by_tests true true false true l = refl
by_tests true true false false l = refl
by_tests true false true true l = refl
by_tests true false true false l = refl
by_tests true false false true l = refl
by_tests true false false false l = refl
by_tests false true true true l = refl
by_tests false true true false l = refl
by_tests false true false true l = refl
by_tests false true false false l = refl
by_tests false false true true l = refl
by_tests false false true false l = refl
by_tests false false false true l = refl
by_tests false false false false l = refl

held_one : (name : List ℕ) (log rs : List Record) (steps : List Moment) (a : Asked)
    → (if is_undecided a.txn (log ++ rs) && is_answered steps a then lock_on name a.txn a.op else []) ≡ flat_map (held_by rs) (standing_one (is_on name) log steps a)
held_one name log rs steps a =
    let here : Standing = stand a (is_answered steps a) in
    ap (λ (b : Bool). if b && is_answered steps a then lock_on name a.txn a.op else []) (undecided_more a.txn log rs)
    ∙ by_tests (is_undecided a.txn log) (decided_in rs a.txn) (is_answered steps a) (same_numbers name (key_of a.op).name) (lock_for a)
    ∙ sym (flat_if (held_by rs) (same_numbers name (key_of a.op).name && is_undecided a.txn log) here)

-- what is held for operations done
held_is : (site : ℕ) (name : List ℕ) (life : Life) (rs : List Record)
    → done_locks site name (life.log ++ rs) life.steps ≡ flat_map (held_by rs) (standing_of (is_on name) site life)
held_is site name life rs =
    two_parts (λ a. is_undecided a.txn (life.log ++ rs) && is_answered life.steps a) (λ a. lock_on name a.txn a.op) (held_by rs) (standing_one (is_on name) life.log life.steps)
    (held_one name life.log rs life.steps) (arrivals site life.steps)

-- The locks on a name that are held, where more records are made.
pub holders_are : (site : ℕ) (name : List ℕ) (life : Life) (rs : List Record) → follow life.log rs ≡ true
    → holders site name (life.log ++ rs) life.steps ≡ held_with name rs (claims_of (is_on name) site life)
holders_are site name life rs h =
    ap (λ (l : List Lock). l ++ voted_locks name (life.log ++ rs)) (held_is site name life rs)
    ∙ ap (λ (l : List Lock). flat_map (held_by rs) (standing_of (is_on name) site life) ++ l)
    (voted_is name (life.log ++ rs) ∙ ap (map lock_for) (votes_more (is_on name) life.log rs h))

waits_one : (name : List ℕ) (log rs : List Record) (steps : List Moment) (a : Asked)
    → (if is_undecided a.txn (log ++ rs) && not (is_answered steps a) then (if is_on name a then a ∷ [] else []) else []) ≡ flat_map (waits_by rs) (standing_one (is_on name) log steps a)
waits_one name log rs steps a =
    let here : Standing = stand a (is_answered steps a) in
    ap (λ (b : Bool). if b && not (is_answered steps a) then (if is_on name a then a ∷ [] else []) else []) (undecided_more a.txn log rs)
    ∙ by_tests (is_undecided a.txn log) (decided_in rs a.txn) (not (is_answered steps a)) (is_on name a) a
    ∙ sym (flat_if (waits_by rs) (is_on name a && is_undecided a.txn log) here)

as_flat : {X : Type 0} (p : X → Bool) (xs : List X) → filter p xs ≡ flat_map (λ x. if p x then x ∷ [] else []) xs
as_flat p [] = refl
as_flat p (x ∷ xs) = by (as_flat p xs) (p x) refl
  where
    by : filter p xs ≡ flat_map (λ x. if p x then x ∷ [] else []) xs → (b : Bool) → p x ≡ b → filter p (x ∷ xs) ≡ flat_map (λ x. if p x then x ∷ [] else []) (x ∷ xs)
    by ih true e = rw e (ap (λ (l : List _). x ∷ l) ih)
    by ih false e = rw e ih

-- The operations on a name that wait, where more records are made.
pub waits_are : (site : ℕ) (name : List ℕ) (life : Life) (rs : List Record)
    → asked_on name (waiting site (life.log ++ rs) life.steps) ≡ waits_with rs (claims_of (is_on name) site life)
waits_are site name life rs =
    as_flat (is_on name) (waiting site (life.log ++ rs) life.steps)
    ∙ two_parts (λ a. is_undecided a.txn (life.log ++ rs) && not (is_answered life.steps a)) (λ a. if is_on name a then a ∷ [] else []) (waits_by rs)
    (standing_one (is_on name) life.log life.steps) (waits_one name life.log rs life.steps) (arrivals site life.steps)

-- a queue is of the operations on the name
pub queue_is : (name : List ℕ) (asked : List Asked) → queue name asked ≡ map lock_for (asked_on name asked)
queue_is name [] = refl
queue_is name (a ∷ asked) = by (queue_is name asked) (is_on name a) refl
  where
    by : queue name asked ≡ map lock_for (asked_on name asked) → (b : Bool) → is_on name a ≡ b → queue name (a ∷ asked) ≡ map lock_for (asked_on name (a ∷ asked))
    by ih true e = rw e (ap (λ (l : List Lock). lock_for a ∷ l) ih)
    by ih false e = rw e ih

pub wanted_parts : (rs : List Record) (xs : List Standing) → map lock_for (flat_map (waits_by rs) xs) ≡ flat_map (wanted_by rs) xs
wanted_parts rs [] = refl
wanted_parts rs (x ∷ xs) = by (not x.answered && not (decided_in rs x.asked.txn)) refl (wanted_parts rs xs)
  where
    by : (b : Bool) → (not x.answered && not (decided_in rs x.asked.txn)) ≡ b → map lock_for (flat_map (waits_by rs) xs) ≡ flat_map (wanted_by rs) xs
        → map lock_for ((if b then x.asked ∷ [] else []) ++ flat_map (waits_by rs) xs) ≡ (if b then lock_for x.asked ∷ [] else []) ++ flat_map (wanted_by rs) xs
    by true e ih = ap (λ (l : List Lock). lock_for x.asked ∷ l) ih
    by false e ih = ih

-- The locks for which they wait.
pub wanted_is : (site : ℕ) (name : List ℕ) (life : Life) (rs : List Record)
    → queue name (waiting site (life.log ++ rs) life.steps) ≡ wanted_with rs (claims_of (is_on name) site life)
wanted_is site name life rs =
    queue_is name (waiting site (life.log ++ rs) life.steps) ∙ ap (map lock_for) (waits_are site name life rs)
    ∙ wanted_parts rs (standing_of (is_on name) site life)
