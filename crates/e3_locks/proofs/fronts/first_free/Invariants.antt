-- on each name none is passed yet, or nobody there may have a lock
use Rattle.std.proofs.Common.{◌≡◌, ◌⊎◌, [], ℕ, List, take}
use Rattle.e3_types.specs.Locks.{front}
use Rattle.e3_locks.specs.LockLists.{on}
use Rattle.e3_locks.proofs.fronts.first_free.Given as goal

abbrev pub invariant-loop-k : goal.invariant-loop-k
invariant-loop-k l = (n : List ℕ) → (on n (take l.k l.queue) ≡ []) ⊎ (front (on n l.held) (on n l.queue) ≡ [])
