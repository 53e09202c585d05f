-- A table of locks that has one place for each name, in byte order of the names.
use Rattle.std.specs.Prelude.{◌≡◌, ◌+◌, ◌≤◌, ◌^◌, ◌<◌, ◌∷◌, [], if◌then◌else◌, true, ℕ, List, length, map}
use Rattle.std.specs.List.{flat_map}
use Rattle.e3_types.specs.declared.transactions.Txn.{Txn}
use Rattle.e3_types.specs.Same.{same_numbers}
use Rattle.e3_types.specs.Sorted.{IsAscending}
use Rattle.e3_locks.specs.declared.granted.Granted.{Granted}
use Rattle.e3_locks.specs.LockLists.{named}
use Rattle.e3_locks.specs.Places.{Place, released}
use Rattle.e3_locks.specs.Waiting.{is_fair}

-- a name with its locks
pub record Standing : Type 0 where
  pub name : List ℕ
  pub place : Place

-- all locks that are held, and all that are waited for, name by name
abbrev pub all_held : List Standing → List Granted
all_held items = flat_map (λ s. map (named s.name) s.place.held) items

abbrev pub all_queued : List Standing → List Granted
all_queued items = flat_map (λ s. map (named s.name) s.place.queue) items

-- the locks of a name: none where it has no place
abbrev pub place_in : List ℕ → List Standing → Place
place_in n [] = record { held = []; queue = [] }
place_in n (s ∷ items) = if same_numbers n s.name then s.place else place_in n items

-- how many locks stand at a place
abbrev pub count_at : Place → ℕ
count_at p = length p.held + length p.queue

-- what holds of each of these
abbrev pub Each : {X : Type 0} → (X → Type 0) → List X → Type 0
Each P [] = Unit {0}
Each P (x ∷ xs) = P x × Each P xs

-- the names ascend, no place has more than so many locks, and each request waits for younger transactions alone
pub record IsTable (items : List Standing) (most : ℕ) : Type 0 where
  pub ascending : IsAscending (λ s. s.name) items
  pub few : Each (λ s. count_at s.place ≤ most) items
  pub fair : Each (λ s. is_fair s.place.held s.place.queue ≡ true) items
  pub small : most < 2 ^ 63

-- a name behind a release of all that the transaction has
abbrev pub released_at : Txn → Standing → Standing
released_at t s = record { name = s.name; place = released t s.place }
