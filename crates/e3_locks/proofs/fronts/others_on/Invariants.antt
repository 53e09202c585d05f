-- the others' locks on the name so far
use Rattle.std.proofs.Common.{◌≡◌, take}
use Rattle.e3_locks.specs.Places.{others_of}
use Rattle.e3_locks.specs.LockLists.{on}
use Rattle.e3_locks.proofs.fronts.others_on.Given as goal

abbrev pub invariant-loop-g : goal.invariant-loop-g
invariant-loop-g l = l.out ≡ others_of l.t (on l.name (take l.g-index l.locks))
