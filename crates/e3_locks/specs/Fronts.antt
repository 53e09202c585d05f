-- Which request of a queue may have its lock next.
use Rattle.std.specs.Prelude.{◌≡◌, ◌++◌, ◌∷◌, [], false, ℕ, List, length}
use Rattle.std.specs.List.{list_any}
use Rattle.e3_types.specs.Locks.{opposes}
use Rattle.e3_locks.specs.declared.granted.Granted.{Granted}
use Rattle.e3_locks.specs.LockLists.{lock_of, on}

-- the request at this place of the queue is the first on its name, and no holder conflicts with it
pub record IsFree (held : List Granted) (queue : List Granted) (at : ℕ) : Type 0 where
  pub before : List Granted
  pub next : Granted
  pub behind : List Granted
  pub parts : queue ≡ before ++ next ∷ behind
  pub place : length before ≡ at
  pub first : on next.name before ≡ []
  pub free : list_any (opposes (lock_of next)) (on next.name held) ≡ false
