-- the names so far
use Rattle.std.proofs.Common.{◌≡◌, take}
use Rattle.e3_locks.specs.LockLists.{names_of}
use Rattle.e3_locks.proofs.fronts.names_of.Given as goal

abbrev pub invariant-loop-g : goal.invariant-loop-g
invariant-loop-g l = l.names ≡ names_of (take l.g-index l.locks)
