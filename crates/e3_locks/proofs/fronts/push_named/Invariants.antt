-- the locks so far
use Rattle.std.proofs.Common.{◌≡◌, ◌++◌, map, take}
use Rattle.e3_locks.specs.LockLists.{named}
use Rattle.e3_locks.proofs.fronts.push_named.Given as goal

abbrev pub invariant-loop-lock : goal.invariant-loop-lock
invariant-loop-lock l = l.out ≡ l.initial.out ++ map (named l.name) (take l.lock-index l.locks)
