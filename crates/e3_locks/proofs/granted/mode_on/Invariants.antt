-- the strongest mode so far
use Rattle.std.proofs.Common.{◌≡◌, take}
use Rattle.e3_locks.specs.LockLists.{on}
use Rattle.e3_locks.specs.Places.{mode_held}
use Rattle.e3_locks.proofs.granted.mode_on.Given as goal

abbrev pub invariant-loop-g : goal.invariant-loop-g
invariant-loop-g l = l.mode ≡ mode_held l.txn (on l.name (take l.g-index l.locks))
