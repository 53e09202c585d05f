-- the oldest so far
use Rattle.std.proofs.Common.{◌≡◌, fold, take}
use Rattle.e3_types.specs.Locks.{against}
use Rattle.e3_locks.specs.OldestSoFar.{oldest_so_far}
use Rattle.e3_locks.specs.LockLists.{on}
use Rattle.e3_locks.proofs.granted.oldest_against.Given as goal

abbrev pub invariant-loop-g : goal.invariant-loop-g
invariant-loop-g l = l.oldest ≡ fold oldest_so_far l.fn.so_far (against l.wanted (on l.name (take l.g-index l.locks)))
