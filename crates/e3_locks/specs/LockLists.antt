-- All locks of a table, as lists.
use Rattle.std.specs.Prelude.{◌++◌, ◌∷◌, [], List, filter, fold, map, ℕ}
use Rattle.std.specs.List.{flat_map}
use Rattle.e3_types.specs.declared.locks.Grant.{Grant}
use Rattle.e3_types.specs.declared.locks.Grant.TheVariants.{Held, Waits}
use Rattle.e3_types.specs.declared.locks.Lock.{Lock}
use Rattle.e3_types.specs.declared.transactions.Txn.{Txn}
use Rattle.e3_types.specs.Locks.{front}
use Rattle.e3_types.specs.Same.{same_numbers}
use Rattle.e3_world.specs.Making.{add_name}
use Rattle.e3_locks.specs.declared.granted.Granted.{Granted}
use Rattle.e3_locks.specs.Places.{Place, without}

-- a table of locks: those that are held and those that are waited for, those of one name in the order in which they
-- came; and its room: with any, a request takes no memory
pub record LockLists : Type 0 where
  pub held : List Granted
  pub queue : List Granted
  pub room : ℕ

-- the lock, without its name
abbrev pub lock_of : Granted → Lock
lock_of g = record { txn = g.txn; mode = g.mode }

-- the locks on a name among these, in their order
abbrev pub on : List ℕ → List Granted → List Lock
on name locks = map lock_of (filter (λ g. same_numbers name g.name) locks)

-- the locks of a name
abbrev pub place : List ℕ → LockLists → Place
place name l = record { held = on name l.held; queue = on name l.queue }

-- the names of these, each once, in byte order
abbrev pub names_of : List Granted → List (List ℕ)
names_of locks = fold (λ names g. add_name names g.name) [] locks

-- a lock of a name
abbrev pub named : List ℕ → Lock → Granted
named name l = record { txn = l.txn; name = name; mode = l.mode }

-- what a release of all that the transaction has would grant on a name, the first arrival first
abbrev pub grants_on : Txn → LockLists → List ℕ → List Granted
grants_on t l name =
    map (named name) (front (without t (place name l)).held (without t (place name l)).queue)

-- what a release of all that the transaction has would grant: name by name in byte order
abbrev pub grants_after : Txn → LockLists → List Granted
grants_after t l = flat_map (grants_on t l) (names_of l.queue)

-- those that are held, and those that wait, behind a request that was answered so
abbrev pub held_with : Grant → Granted → List Granted → List Granted
held_with Held asked held = held ++ asked ∷ []
held_with _ asked held = held

abbrev pub queue_with : Grant → Granted → List Granted → List Granted
queue_with Waits asked queue = queue ++ asked ∷ []
queue_with _ asked queue = queue
