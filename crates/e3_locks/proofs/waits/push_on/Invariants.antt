-- the locks so far
use Rattle.std.proofs.Common.{◌≡◌, ◌++◌, take}
use Rattle.e3_locks.specs.LockLists.{on}
use Rattle.e3_locks.proofs.waits.push_on.Given as goal

abbrev pub invariant-loop-g : goal.invariant-loop-g
invariant-loop-g l = l.out.items ≡ l.initial.out.items ++ on l.name (take l.g-index l.locks)
